use Rattle.std.proofs.Common.{◌≡◌, ◌+◌, true, ap, sym, subst, List, ℕ, ◌∙◌}
use Rattle.unique_names.specs.Inserted.{ascends_from, place_of}
use Rattle.unique_names.proofs.Ascending.{absent, present}
use Rattle.unique_names.proofs.Merging.{inserted-ascend, merged-by-cutting}
use Rattle.unique_names.proofs.numbers.merge.Goals as goal

pub place-requires : goal.place-requires
place-requires g c =
    subst (λ (xs : List ℕ). ascends_from 1 xs ≡ true) (sym (c.deref.ensures.value ∙ c.in_ok-insert_missing.ensures.ok)) (inserted-ascend c.args.name.now c.args.policy.now.entries c.args.numbers.now.items c.requires)

pub returns-in-Ok-clause-ok : goal.returns-in-Ok-clause-ok
returns-in-Ok-clause-ok g c =
    let now = c.insert_missing.new.numbers.items in
    let at = present (c.len.result + 1) now c.in-Ok.end (ap (place_of (c.len.result + 1)) (sym c.deref.ensures.value) ∙ sym c.place.ensures ∙ c.in-Ok.is) in
    c.truncate.ensures.items
    ∙ merged-by-cutting c.args.name.now c.args.policy.now.entries c.args.numbers.now.items now c.len.result c.in-Ok.end c.requires c.in_ok-insert_missing.ensures.ok c.len.ensures.count at.1

pub returns-in-Err-clause-ok : goal.returns-in-Err-clause-ok
returns-in-Err-clause-ok g c =
    let now = c.insert_missing.new.numbers.items in
    let at = absent (c.len.result + 1) now c.in-Err.end (ap (place_of (c.len.result + 1)) (sym c.deref.ensures.value) ∙ sym c.place.ensures ∙ c.in-Err.is) in
    c.truncate-in-Err.ensures.items
    ∙ merged-by-cutting c.args.name.now c.args.policy.now.entries c.args.numbers.now.items now c.len.result c.in-Err.end c.requires c.in_ok-insert_missing.ensures.ok c.len.ensures.count at.1
