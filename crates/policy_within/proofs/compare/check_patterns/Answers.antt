use Rattle.std.proofs.Common.{◌≡◌, ◌∙◌, ◌+◌, ◌-◌, ap, slice_get, arith}
use Rattle.name_patterns.specs.Patterns.{is_pattern}
use Rattle.policy_args.specs.declared.entry.Entry.{Entry}
use Rattle.policy_within.proofs.Prefixes.{all-more}
use Rattle.policy_within.proofs.compare.check_patterns.Goals as goal

pub loop-index-preserved : goal.loop-index-preserved
loop-index-preserved c =
    let number : c.loop-index.index ≡ c.loop-index.index + 1 - 1 = omega arith in
    all-more (λ (e : Entry). is_pattern e.pattern) c.args.policy.now.entries c.loop-index.index c.entry.result.now (ap (slice_get c.args.policy.now.entries) number ∙ c.entry.ensures) c.loop-index.invariant c.name-name.ensures.grammar
