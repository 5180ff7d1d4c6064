use Rattle.std.proofs.Common.{◌≡◌, map, drop, string_bytes}
use Rattle.policy_args.specs.ProxyLine.{line_step, no_words}
use Rattle.policy_args.specs.Words.{each_word}
use Rattle.policy_args.proofs.line.read_words.Given as goal

abbrev pub invariant-loop-index : goal.invariant-loop-index
invariant-loop-index l =
    each_word line_step l.index l.reading (map (λ w. string_bytes w) (drop l.index l.words)) ≡ each_word line_step 0 no_words (map (λ w. string_bytes w) l.words)
