use Rattle.std.proofs.Common.{◌∙◌, sym, ap, arith}
use Rattle.dbus_header.specs.Malformed.{fault_in}
use Rattle.dbus_header.proofs.WholeMessage.{fault_of_whole, whole_by}
use Rattle.dbus_header.proofs.decoding.placed.Goals as goal

pub returns-clause-sound : goal.returns-clause-sound
returns-clause-sound c =
    let whole = whole_by c.args.bytes.now (λ i. omega (arith, c.type_inv.bytes i)) c.requires.long (sym c.requires.head) (λ head. c.requires.exact) in
    fault_of_whole c.args.bytes.now whole ∙ ap fault_in c.requires.parts.is
