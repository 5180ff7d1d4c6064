use Rattle.std.specs.Option.{option_copied}
use Rattle.verdicts.specs.Kept.{kept}
use Rattle.verdicts.proofs.KnowledgeLaws.{knowledge_is}
use Rattle.verdicts.proofs.Past.{is-shown}
use Rattle.verdicts.proofs.show.Goals as goal

pub returns-clause-exact : goal.returns-clause-exact
returns-clause-exact c = λ ledger before m stand role_is at.
    is-shown c.args.policy.now (kept c.args.policy.now c.args.tracker.now ledger.owed) (option_copied c.args.answered) before m _
    (knowledge_is c.args.policy.now c.args.tracker.now ledger before c.covers_no_unique_name.ensures stand)
    role_is
    (c.show_from.ensures ledger.owed m at)
