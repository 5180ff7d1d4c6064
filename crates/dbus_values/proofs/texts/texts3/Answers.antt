use Rattle.std.proofs.Common.{IsSome, ap, subst, sym, ◌∙◌}
use Rattle.std.specs.Prelude.{option_map}
use Rattle.dbus_values.specs.Bodies.{listed, three_at}
use Rattle.dbus_values.proofs.BodyLaws.{three_in_body}
use Rattle.dbus_values.proofs.texts.texts3.Goals as goal

pub three_texts-requires : goal.three_texts-requires
three_texts-requires c =
    subst (λ a. IsSome (three_at c.args.order a)) (sym c.start.ensures) (three_in_body c.args.order c.args.body.now c.requires.0 c.requires.1 c.requires.2 c.requires.3).1

pub returns : goal.returns
returns c place types values b =
    sym (ap (option_map listed) (ap (three_at c.args.order) c.start.ensures ∙ (three_in_body c.args.order c.args.body.now place types values b).0)) ∙ sym c.three_texts.ensures
