use Rattle.std.proofs.Common.{◌≡◌, length, map, string_bytes, vec_len}
use Rattle.dbus_names.specs.Names.{parts_at}
use Rattle.policy_args.specs.Words.{each_word, with_word, without_last_empty, words_in}
use Rattle.policy_args.proofs.words.words_of.Given as goal

abbrev pub invariant-loop-rest : goal.invariant-loop-rest
invariant-loop-rest l =
    each_word with_word (vec_len l.words) (map (λ w. string_bytes w) l.words.items) (without_last_empty (parts_at 0 l.rest)) ≡ words_in l.bytes

abbrev pub decreases-loop-rest : goal.decreases-loop-rest
decreases-loop-rest l = length l.rest
