use Rattle.std.proofs.Common.{arith, sym}
use Rattle.dbus_header.proofs.WholeMessage.{parts_on_ok, rest_is_read}
use Rattle.dbus_header.proofs.decoding.check_fields.Goals as goal

pub returns-clause-refusal : goal.returns-clause-refusal
returns-clause-refusal c =
    rest_is_read c.args.bytes.now _ _ _ _ _ (λ i. omega (arith, c.type_inv.bytes i)) c.requires.order c.requires.len c.body_start.ensures (sym c.requires.sound) c.requires.found c.check_rest.ensures

pub returns-clause-parts : goal.returns-clause-parts
returns-clause-parts c = parts_on_ok c.check_rest.result c.args.bytes.now _ c.requires.found (returns-clause-refusal c)
