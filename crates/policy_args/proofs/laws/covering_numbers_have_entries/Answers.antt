use Rattle.policy_args.proofs.EntryNumbers.{covering-within}
use Rattle.policy_args.proofs.laws.covering_numbers_have_entries.Goals as goal

pub returns : goal.returns
returns c = λ entries name numbers are. covering-within entries name numbers are
