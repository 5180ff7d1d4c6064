use Rattle.policy_within.proofs.RulePaths.{rule-rooted}
use Rattle.std.proofs.Common.{rules}
use Rattle.policy_within.proofs.z_words.ZWords.add_rule.Goals as goal

pub returns-clause-rooted : goal.returns-clause-rooted
returns-clause-rooted c = let rooted = rule-rooted c.text-text.result.now c.args.rule.now c.text-text.ensures.read in search rules
