use Rattle.message_text.proofs.TextsRead.{one_message}
use Rattle.message_text.proofs.laws.texts_are_apart.Goals as goal

pub returns : goal.returns
returns c = one_message
