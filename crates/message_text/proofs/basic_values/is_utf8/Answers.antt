use Rattle.dbus_values.proofs.TextBytes.{utf8_true, utf8_false}
use Rattle.message_text.proofs.basic_values.is_utf8.Goals as goal

pub returns-in-Ok : goal.returns-in-Ok
returns-in-Ok c = utf8_true c.args.text.now (c.in-Ok.ensures.cases).1

pub returns-in-Err : goal.returns-in-Err
returns-in-Err c = utf8_false c.args.text.now (c.in-Err.ensures.cases).0
