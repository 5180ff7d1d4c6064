-- The word of an entry is at the entry's place.
use Rattle.std.proofs.Common.{◌≡◌, ℕ, List, Some, ap, sym, ◌∙◌, map, option_map, slice_get, string_bytes, String}
use Rattle.std.proofs.lemmas.Option.{slice_get-map}
use Rattle.policy_args.specs.Policy.{entry_word}
use Rattle.policy_args.specs.declared.entry.Entry.{Entry}

pub word-at : {Z : Type 0} (words : List (String Z)) (entries : List Entry) (i : ℕ) (w : String Z) → map (λ k. string_bytes k) words ≡ map entry_word entries → slice_get words i ≡ Some w →
    option_map entry_word (slice_get entries i) ≡ Some (string_bytes w)
word-at words entries i w same at =
    sym (slice_get-map entry_word entries i) ∙ ap (λ ws. slice_get ws i) (sym same) ∙ slice_get-map (λ k. string_bytes k) words i ∙ ap (option_map (λ k. string_bytes k)) at
