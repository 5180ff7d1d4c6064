-- The number of steps of a walk over a name's entries.
use Rattle.std.proofs.Common.{◌≡◌, ◌+◌, ◌*◌, ℕ, suc, [], ◌∷◌, length, ap, ◌∙◌, arith}
use Rattle.std.proofs.Math.Nat.{one-mul, suc-mul}
use Rattle.name_patterns.specs.Ranks.{elements}
use Rattle.unique_names.specs.Merged.{NameNumbers}
use Rattle.verdicts.specs.Entries.{entry_steps, steps_for}

-- ---- a walk

-- an entry is found and tested
pub one-walked : (old new : NameNumbers) (n : ℕ) → old.numbers ≡ n ∷ new.numbers → new.name ≡ old.name → entry_steps old ≡ entry_steps new + elements old.name + 1
one-walked old new n gives named =
    let more : length (n ∷ new.numbers) + 1 ≡ suc (length new.numbers + 1) = omega arith in
    let all : entry_steps old ≡ (length new.numbers + 1) * (elements old.name + 1) + (elements old.name + 1) =
    ap (steps_for old.name) gives ∙ ap (λ k. k * (elements old.name + 1)) more ∙ suc-mul (length new.numbers + 1) (elements old.name + 1) in
    let same : entry_steps new ≡ (length new.numbers + 1) * (elements old.name + 1) = ap (λ name. steps_for name new.numbers) named in
    omega (arith, all, same)

-- there is no other
pub none-walked : (old : NameNumbers) → old.numbers ≡ [] → entry_steps old ≡ elements old.name + 1
none-walked old gives = ap (steps_for old.name) gives ∙ one-mul (elements old.name + 1)
