use Rattle.std.proofs.Common.{◌≡◌, true, length, fold}
use Rattle.std.specs.List.{list_all}
use Rattle.policy_args.specs.Covering.{is_number, passes_at}
use Rattle.policy_args.specs.Requests.{grant_permits}
use Rattle.policy_within.specs.Steps.{with_lower}
use Rattle.policy_within.specs.Within.{lowest}
use Rattle.policy_within.proofs.cover.lowest.Given as goal

-- the least so far, with the numbers that remain, is the lowest
abbrev pub invariant-loop-number : goal.invariant-loop-number
invariant-loop-number l =
    (goal.iterator-loop-number).can_next l.number-iterator
    × (goal.iterator-loop-number).is_finite l.number-iterator
    × (list_all (is_number (length l.policy.entries)) l.number-iterator ≡ true)
    × (fold (with_lower (passes_at (λ e. grant_permits e.grant l.asked) l.policy.entries)) l.least l.number-iterator ≡ lowest l.policy.entries l.asked)
