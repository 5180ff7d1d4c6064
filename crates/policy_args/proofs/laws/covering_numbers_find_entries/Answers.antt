use Rattle.policy_args.proofs.EntryNumbers.{found-by-covering}
use Rattle.policy_args.proofs.laws.covering_numbers_find_entries.Goals as goal

pub returns : goal.returns
returns c = λ entries name numbers test are. found-by-covering entries name numbers test are
