use denote.Text.{Utf8}
use denote.Shadow.{shadow}
use Rattle.replay_tests.proofs.values.add_values.Given as goal

-- says that each `&str` the loop changes is text: keep it, and add clauses with ×
abbrev pub invariant-loop-value : goal.invariant-loop-value
invariant-loop-value l =
    (goal.iterator-loop-value).can_next l.value-iterator ×
    (goal.iterator-loop-value).is_finite l.value-iterator ×
    shadow (Utf8 l.types)
