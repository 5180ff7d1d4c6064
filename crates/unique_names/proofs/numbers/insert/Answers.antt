use Rattle.std.proofs.Common.{◌≡◌, ◌≤◌, length, ap, sym, ◌∙◌, arith}
use Rattle.std.specs.List.{insert}
use Rattle.unique_names.specs.Inserted.{count_below, place_of}
use Rattle.unique_names.proofs.Ascending.{absent, few-below, inserted-at, present, with-in}
use Rattle.unique_names.proofs.numbers.insert.Goals as goal

pub insert-requires : goal.insert-requires
insert-requires c =
    let known = c.deref.result.now in
    let at : c.in-Err.place ≡ count_below c.args.number known = (absent c.args.number known c.in-Err.place (sym c.place.ensures ∙ c.in-Err.is)).1 in
    let few : count_below c.args.number known ≤ length known = few-below c.args.number known in
    omega arith

pub returns-in-Ok-clause-items : goal.returns-in-Ok-clause-items
returns-in-Ok-clause-items c =
    let known = c.args.numbers.now.items in
    let place = absent c.args.number known c.in-Err.place (ap (place_of c.args.number) (sym c.deref.ensures.value) ∙ sym c.place.ensures ∙ c.in-Err.is) in
    c.in-Ok.ensures.items ∙ ap (λ p. insert known p c.args.number) place.1 ∙ inserted-at c.args.number known place.0

pub returns-in_default-clause-items : goal.returns-in_default-clause-items
returns-in_default-clause-items c =
    let known = c.args.numbers.now.items in
    let place = present c.args.number known c.in_default.field-0 (ap (place_of c.args.number) (sym c.deref.ensures.value) ∙ sym c.place.ensures ∙ c.in_default.is) in
    sym (with-in 1 c.args.number known c.requires.ascending place.0)
