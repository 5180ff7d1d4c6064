use Rattle.std.proofs.Common.{◌≡◌, ◌+◌, List, length, max}
use Rattle.name_patterns.specs.PatternIndex.{Indexes}
use Rattle.name_patterns.specs.Ranks.{Ranked, elements, greatest, greatest_rank}
use Rattle.name_patterns.proofs.PatternFronts.{is_below}
use Rattle.name_patterns.proofs.index.PatternIndex.greatest.Given as goal
use denote.Shadow.{shadow}
use denote.Text.{Utf8}

-- what is left to find is the greatest rank of the patterns for all names below a prefix of `rest` before a dot
abbrev pub invariant-loop-front : goal.invariant-loop-front
invariant-loop-front g l =
    shadow (Utf8 l.rest) × ((added : List Ranked) → Indexes added l.self → max l.rank (greatest (is_below l.rest) added) ≡ greatest_rank added l.name) × (l.steps + elements l.rest ≡ l.fn.steps + elements l.name + 1)

abbrev pub decreases-loop-front : goal.decreases-loop-front
decreases-loop-front g l = length l.rest
