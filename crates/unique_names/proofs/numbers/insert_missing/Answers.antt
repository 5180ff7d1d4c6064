use Rattle.std.proofs.Common.{◌≡◌, [], ap, sym, ◌∙◌, arith}
use Rattle.unique_names.specs.Inserted.{missing_in}
use Rattle.unique_names.specs.Merged.{merged_from}
use Rattle.unique_names.proofs.Ascending.{none-missing}
use Rattle.unique_names.proofs.numbers.insert_missing.Goals as goal

pub returns-then-count-eq0-clause-ok : goal.returns-then-count-eq0-clause-ok
returns-then-count-eq0-clause-ok g c =
    let ns = merged_from c.args.name.now 1 c.args.policy.now.entries [] in
    let none : missing_in c.args.numbers.now.items ns ≡ 0 = ap (λ known. missing_in known ns) (sym c.deref.ensures.value) ∙ sym c.count_missing-count.ensures.count ∙ (omega arith) in
    sym (none-missing 1 ns c.args.numbers.now.items c.requires none)
