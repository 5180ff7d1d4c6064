use Rattle.std.proofs.Common.{◌∙◌}
use Rattle.std.proofs.lemmas.Result.{IfOk-weaker}
use Rattle.dbus_header.specs.Read.{message_seen}
use Rattle.message_text.proofs.PrintMessageLaws.{printed_text}
use Rattle.message_text.proofs.print_message.print.Goals as goal

pub returns : goal.returns
returns c = IfOk-weaker c.print_parts.result _ _ (λ text e m is. e ∙ printed_text c.args.message.now.bytes.now (message_seen c.args.message.now) m (c.is_spelled.ensures m is) c.args.message.now.read is) c.print_parts.ensures
