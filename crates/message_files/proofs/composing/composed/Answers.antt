use Rattle.message_files.proofs.Texts.{above_limit, is_message, is_none}
use Rattle.message_files.proofs.composing.composed.Goals as goal

pub returns-then-text-gt-TEXT_LIMIT : goal.returns-then-text-gt-TEXT_LIMIT
returns-then-text-gt-TEXT_LIMIT c = above_limit c.args.text.now c.if-text-gt-TEXT_LIMIT.true

pub returns-in-Ok : goal.returns-in-Ok
returns-in-Ok c = let m = c.in-Ok.ensures in is_message c.args.text.now m.0 c.in-Ok.bytes.items c.if-text-gt-TEXT_LIMIT.false m.1 m.2

pub returns-in-Err-Bad : goal.returns-in-Err-Bad
returns-in-Err-Bad c = is_none c.args.text.now c.in-Err-Bad.bad c.if-text-gt-TEXT_LIMIT.false (rw c.in-Err-Bad.field-0-is at c.in-Err-Bad.ensures)
