use Rattle.std.proofs.Common.{arith}
use Rattle.dbus_values.proofs.BodyLaws.{list_in_body, is_listed, listed_all, listed_texts}
use Rattle.dbus_values.proofs.texts.text_list.Goals as goal

pub elements-requires : goal.elements-requires
elements-requires c = is_listed c.args.order c.args.body.now c.requires.2 (list_in_body c.args.order c.args.body.now c.requires.0 c.requires.1 c.requires.2 (λ i. omega (arith, c.type_inv.body i)) c.requires.3)

pub invariant_of-result : goal.invariant_of-result
invariant_of-result c = listed_all c.args.order c.args.body.now c.requires.2 (list_in_body c.args.order c.args.body.now c.requires.0 c.requires.1 c.requires.2 (λ i. omega (arith, c.type_inv.body i)) c.requires.3) _ c.elements.ensures

pub returns : goal.returns
returns c place types values b = listed_texts c.args.order c.args.body.now values (list_in_body c.args.order c.args.body.now place types values (λ i. omega (arith, c.type_inv.body i)) b) _ c.elements.ensures
