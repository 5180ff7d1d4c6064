use Rattle.explain_log.proofs.LineWords.{tells_message}
use Rattle.explain_log.proofs.lines_tell_their_messages.Goals as goal

pub returns : goal.returns
returns c = tells_message
