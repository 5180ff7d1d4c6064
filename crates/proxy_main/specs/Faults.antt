-- How often reads of files have failed.
use Rattle.std.specs.Prelude.{ℕ, ◌+◌, ◌-◌, ◌^◌, min, Err, Result}
use Rattle.link_traits.specs.declared.FileFault.{FileFault}
use Rattle.link_traits.specs.declared.FileFault.TheVariants.{Failed}

-- one more, up to the greatest number that a count has
abbrev pub one_more : ℕ → ℕ
one_more faults = min (faults + 1) (2 ^ 64 - 1)

-- after a read
abbrev pub reads_failed : {A : Type 0} → Result A FileFault → ℕ → ℕ
reads_failed (Err Failed) faults = one_more faults
reads_failed _ faults = faults
