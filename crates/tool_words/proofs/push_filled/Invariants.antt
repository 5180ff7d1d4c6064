use Rattle.std.proofs.Common.{◌≡◌, ◌++◌, Bor, map, take}
use Rattle.clap.specs.Words.{Text, found_of, rows_of}
use Rattle.tool_words.specs.Tools.{filled_at}
use Rattle.tool_words.proofs.push_filled.Given as goal

abbrev pub invariant-loop-place : goal.invariant-loop-place
invariant-loop-place l =
    map (λ (word : Bor Text). word.now) l.found.items
    ≡ map (λ (word : Bor Text). word.now) l.fn.found.items ++ filled_at (take l.place-index (map (λ (p : Bor Text). p.now) l.places)) (rows_of (found_of l.matches))
