use Rattle.message_text.proofs.ReadAnswers.{printed_again}
use Rattle.message_text.proofs.laws.read_texts_are_printed.Goals as goal

pub returns : goal.returns
returns c = printed_again
