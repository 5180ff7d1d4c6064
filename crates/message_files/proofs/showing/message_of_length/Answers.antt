use Rattle.std.proofs.Common.{arith, sym}
use Rattle.dbus_header.proofs.WholeMessage.{whole_by}
use Rattle.message_files.proofs.Messages.{no_message, valid_message}
use Rattle.message_files.proofs.showing.message_of_length.Goals as goal

pub returns-in-Ok-clause-read : goal.returns-in-Ok-clause-read
returns-in-Ok-clause-read c =
    let whole = whole_by c.args.bytes.now (λ i. omega (arith, c.type_inv.bytes i)) c.requires.long (sym c.requires.head) (λ h. omega (arith, c.requires.len)) in
    (c.in-Ok.ensures.bytes, valid_message c.args.bytes.now whole (sym c.in-Ok.ensures.refusal))

pub returns-in-Err-clause-bad : goal.returns-in-Err-clause-bad
returns-in-Err-clause-bad c =
    let whole = whole_by c.args.bytes.now (λ i. omega (arith, c.type_inv.bytes i)) c.requires.long (sym c.requires.head) (λ h. omega (arith, c.requires.len)) in
    no_message c.args.bytes.now c.in-Err.malformed c.bad.result whole (sym c.in-Err.ensures.refusal) c.bad.ensures
