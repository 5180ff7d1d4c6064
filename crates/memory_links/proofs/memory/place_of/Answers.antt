use Rattle.std.proofs.Common.{◌≡◌, ap, sym, ◌∙◌, Bool, true, false, List, ℕ, string_bytes}
use Rattle.std.specs.List.{slice_index_or}
use Rattle.std.specs.Str.{bytes_eq}
use Rattle.memory_links.specs.declared.memory.MemFile.{MemFile}
use Rattle.memory_links.proofs.Placed.{passed-found, passed-next}
use Rattle.memory_links.proofs.memory.place_of.Goals as goal

-- what the test of a file's path says of the file in the list
test : (fs : List MemFile) (i : ℕ) (r : MemFile) (path read : List ℕ) (answer value : Bool) → r ≡ slice_index_or fs i r → read ≡ string_bytes r.path →
    answer ≡ bytes_eq read path → answer ≡ value → bytes_eq (string_bytes (slice_index_or fs i r).path) path ≡ value
test fs i r path read answer value is own eq e =
    ap (λ (m : MemFile). bytes_eq (string_bytes m.path) path) (sym is) ∙ ap (λ (b : List ℕ). bytes_eq b path) (sym own) ∙ sym eq ∙ e

pub returns-then-eq-clause-place : goal.returns-then-eq-clause-place
returns-then-eq-clause-place c =
    passed-found c.args.files.now c.args.path.now c.loop-place.place c.index-files-place.result c.loop-place-test.true c.loop-place.invariant
    (test c.args.files.now c.loop-place.place _ _ _ _ true c.index-files-place.is c.as_str.ensures.value c.eq.ensures c.if-eq.true)

pub loop-place-preserved : goal.loop-place-preserved
loop-place-preserved c =
    passed-next c.args.files.now c.args.path.now c.loop-place.place c.index-files-place.result c.loop-place-test.true c.loop-place.invariant
    (test c.args.files.now c.loop-place.place _ _ _ _ false c.index-files-place.is c.as_str.ensures.value c.eq.ensures c.if-eq.false)
