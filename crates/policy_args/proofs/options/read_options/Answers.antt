use Rattle.std.proofs.Common.{map, string_bytes, ap}
use Rattle.policy_args.specs.Words.{PolicyOptions, each_word, options_of, with_option}
use Rattle.policy_args.proofs.options.read_options.Goals as goal

pub loop-index-init : goal.loop-index-init
unfolding options_of
loop-index-init c = ap (λ (o : PolicyOptions). each_word with_option 0 o (map (λ w. string_bytes w) c.args.words.now)) c.new-options.ensures
