use Rattle.verdicts.specs.Kept.{kept}
use Rattle.verdicts.proofs.Past.{is-judged}
use Rattle.verdicts.proofs.KnowledgeLaws.{knowledge_is}
use Rattle.verdicts.proofs.judge.Goals as goal

pub returns-clause-exact : goal.returns-clause-exact
returns-clause-exact c = λ before m stand at.
    is-judged c.args.policy.now (kept c.args.policy.now c.args.tracker.now c.args.ledger.now.owed) before m _ (knowledge_is c.args.policy.now c.args.tracker.now c.args.ledger.now before c.covers_no_unique_name.ensures stand)
    (c.judge_from.ensures m at)
