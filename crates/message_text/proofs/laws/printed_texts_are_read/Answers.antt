use Rattle.message_text.proofs.ReadAnswers.{read_again}
use Rattle.message_text.proofs.laws.printed_texts_are_read.Goals as goal

pub returns : goal.returns
returns c = read_again
