use Rattle.std.proofs.Common.{◌∙◌}
use Rattle.policy_args.proofs.FileWords.{text_in-Ok, text_in-Err}
use Rattle.policy_args.proofs.words.text.Goals as goal

pub returns-in_ok-from_str-in-Ok : goal.returns-in_ok-from_str-in-Ok
returns-in_ok-from_str-in-Ok c = text_in-Ok c.args.word.now _ c.in-Ok.ensures.cases.1 (c.in_ok-from_str-in-Ok.ensures.ok ∙ c.in-Ok.ensures.cases.0)

pub returns-in-Err : goal.returns-in-Err
returns-in-Err c = text_in-Err c.args.word.now c.in-Err.ensures.cases.0
