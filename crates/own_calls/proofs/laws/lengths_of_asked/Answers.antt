use Rattle.own_calls.proofs.Lengths.{asked-calls-short}
use Rattle.own_calls.proofs.laws.lengths_of_asked.Goals as goal

pub returns : goal.returns
returns c = asked-calls-short
