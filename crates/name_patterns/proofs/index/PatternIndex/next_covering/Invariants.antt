use Rattle.std.proofs.Common.{◌≡◌, ◌+◌, List, length}
use Rattle.name_patterns.specs.PatternIndex.{Indexes, lesser}
use Rattle.name_patterns.specs.Ranks.{Ranked, covers_name, elements, next_place}
use Rattle.name_patterns.proofs.PatternFronts.{is_below}
use Rattle.name_patterns.proofs.index.PatternIndex.next_covering.Given as goal
use denote.Shadow.{shadow}
use denote.Text.{Utf8}

-- what is left to find is the next place of the patterns for all names below a prefix of `left` before a dot
abbrev pub invariant-loop-front : goal.invariant-loop-front
invariant-loop-front g l =
    shadow (Utf8 l.left) × ((added : List Ranked) → Indexes added l.self → lesser l.next (next_place (is_below l.left) l.from added) ≡ next_place (covers_name l.name) l.from added) × (l.steps + elements l.left ≡ l.fn.steps + elements l.name + 1)

abbrev pub decreases-loop-front : goal.decreases-loop-front
decreases-loop-front g l = length l.left
