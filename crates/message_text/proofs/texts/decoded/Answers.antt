use Rattle.std.proofs.Common.{◌∙◌, arith}
use Rattle.dbus_header.proofs.NumberLaws.{accepted}
use Rattle.message_text.proofs.WholeBytes.{no_fault}
use Rattle.message_text.proofs.texts.decoded.Goals as goal

pub returns-in-Err-clause-none : goal.returns-in-Err-clause-none
returns-in-Err-clause-none c = λ e s. no_fault c.in-Err.field-0 (c.in-Err.ensures.refusal ∙ accepted c.args.bytes.now (λ i. omega (arith, c.type_inv.bytes i)) s)
