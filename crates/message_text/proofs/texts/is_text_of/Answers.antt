use Rattle.std.proofs.Common.{rules, arith}
use Rattle.dbus_header.specs.Read.{message_seen}
use Rattle.message_text.proofs.ReadAnswers.{text_is}
use Rattle.message_text.proofs.texts.is_text_of.Goals as goal

pub returns-in_ok-printed-in-Some-clause-yes : goal.returns-in_ok-printed-in-Some-clause-yes
returns-in_ok-printed-in-Some-clause-yes c = λ e.
    text_is c.args.bytes.now c.in-Some.message.bytes.now c.args.text.now c.in_ok-printed-in-Some.printed.items (message_seen c.in-Some.message) c.in-Some.ensures.bytes (λ i. omega (arith, c.type_inv.bytes i)) c.in-Some.message.read c.in_ok-printed-in-Some.ensures (search rules)
