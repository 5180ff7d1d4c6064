use Rattle.std.proofs.Common.{◌≡◌, map, drop, string_bytes}
use Rattle.policy_args.specs.Seen.{options_seen}
use Rattle.policy_args.specs.Words.{each_word, options_of, with_option}
use Rattle.policy_args.proofs.options.read_options.Given as goal

abbrev pub invariant-loop-index : goal.invariant-loop-index
invariant-loop-index l =
    each_word with_option l.index (options_seen l.options) (map (λ w. string_bytes w) (drop l.index l.words)) ≡ options_of (map (λ w. string_bytes w) l.words)
