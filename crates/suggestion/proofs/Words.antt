-- The words of entries, one after the other.
use Rattle.std.proofs.Common.{◌≡◌, ◌<◌, ◌+◌, ◌-◌, ℕ, zero, suc, List, [], ◌∷◌, ◌++◌, Option, Some, None, drop, refl, ap, sym, ◌∙◌, arith}
use Rattle.std.specs.Option.{option_map}
use Rattle.std.specs.Prelude.{slice_get}
use Rattle.dbus_names.specs.Texts.{Text}
use Rattle.policy_args.specs.Policy.{entry_word}
use Rattle.policy_args.specs.declared.entry.Entry.{Entry}
use Rattle.suggestion.specs.Suggestion.{entry_words, file_word}

next : (n : ℕ) → suc n + 1 ≡ suc (n + 1)
next n = omega arith

pub same_place : (n : ℕ) → (n + 1) - 1 ≡ n
same_place n = omega arith

pub words-drop : (es : List Entry) (n : ℕ) (word : Text) → option_map entry_word (slice_get es n) ≡ Some word → entry_words (drop n es) ≡ file_word word ++ entry_words (drop (n + 1) es)
words-drop [] n word there = absurd cc
words-drop (e ∷ es) zero word there = let same : entry_word e ≡ word = cc in ap (λ w. file_word w ++ entry_words es) same
words-drop (e ∷ es) (suc n) word there = words-drop es n word there ∙ ap (λ m. file_word word ++ entry_words (drop m (e ∷ es))) (sym (next n))
