use Rattle.std.proofs.Common.{◌≡◌, ◌++◌, option_map}
use Rattle.name_patterns.specs.PatternIndex.{bytes_left, places_below, texts_left}
use Rattle.name_patterns.proofs.covering.advance.Given as goal

abbrev pub invariant-loop-left : goal.invariant-loop-left
invariant-loop-left l =
    l.found ++ places_below l.index (texts_left (option_map (λ t. t.now) l.left))
    ≡ l.fn.found ++ places_below l.index (texts_left (option_map (λ t. t.now) l.fn.left))

abbrev pub decreases-loop-left : goal.decreases-loop-left
decreases-loop-left l = bytes_left (option_map (λ t. t.now) l.left)
