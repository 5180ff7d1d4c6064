use Rattle.std.proofs.Common.{◌≡◌, true, length}
use Rattle.std.specs.List.{list_all, list_any}
use Rattle.policy_args.specs.Covering.{is_number, passes_at}
use Rattle.policy_args.specs.Requests.{asked_name, has_entry, rule_matches}
use Rattle.policy_args.proofs.policy.Policy.has_rule.Given as goal

-- what is left to find is what the numbers that remain find
abbrev pub invariant-loop-number : goal.invariant-loop-number
invariant-loop-number l =
    (goal.iterator-loop-number).can_next l.number-iterator
    × (goal.iterator-loop-number).is_finite l.number-iterator
    × (list_all (is_number (length l.self.entries)) l.number-iterator ≡ true)
    × (list_any (passes_at (λ e. rule_matches l.asked e.grant) l.self.entries) l.number-iterator ≡ has_entry l.self (asked_name l.asked) (rule_matches l.asked))
