use Rattle.std.proofs.Common.{◌≡◌, ◌++◌, map, string_bytes}
use Rattle.policy_suggest.specs.Facts.{word_by}
use Rattle.policy_suggest.specs.Seen.{target_seen}
use Rattle.policy_suggest.proofs.words.words_of.Given as goal

abbrev pub invariant-loop-target : goal.invariant-loop-target
invariant-loop-target l =
    (goal.iterator-loop-target).can_next l.target-iterator
    × (goal.iterator-loop-target).is_finite l.target-iterator
    × (map (λ w. string_bytes w) l.words.items ++ map (word_by l.facts) (map target_seen l.target-iterator) ≡ map (word_by l.facts) l.targets)
