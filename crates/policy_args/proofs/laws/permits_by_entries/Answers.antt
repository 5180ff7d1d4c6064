use Rattle.policy_args.proofs.PermitsLaws as permitted
use Rattle.policy_args.proofs.laws.permits_by_entries.Goals as goal

pub returns : goal.returns
returns c = λ policy asked other. permitted.permits_by_entries policy asked other
