-- The words that were read so far.
use Rattle.std.proofs.Common.{◌≡◌, ◌++◌, ◌∷◌, [], ℕ, suc, List, Option, Some, None, take, drop, ap, ap₂, sym, ◌∙◌, IfSome}
use Rattle.std.specs.List.{slice_get}
use Rattle.std.specs.Str.{IsUtf8}
use Rattle.std.proofs.Math.Seq.{take-suc, drop-cons}
use Rattle.std.proofs.lemmas.Option.{slice_get_within, get_or_from_slice_get}
use Rattle.std.proofs.lemmas.List.{take-append-drop}
use Rattle.process_streams.specs.Words.{IsTextPrefix}

one-more : (words texts : List (List ℕ)) (n : ℕ) (word : List ℕ) → texts ≡ take n (drop 1 words) → Some word ≡ slice_get words (suc n) → texts ++ (word ∷ []) ≡ take (suc n) (drop 1 words)
one-more [] texts n word e s = cc
one-more (name ∷ words) texts n word e s =
    sym (take-suc words n word (slice_get_within words n word (sym s)) ∙ ap₂ (λ (l : List (List ℕ)) (w : List ℕ). l ++ (w ∷ [])) (sym e) (get_or_from_slice_get words n word word (sym s)))

bad-one : (words texts : List (List ℕ)) (n : ℕ) (word : List ℕ) → texts ≡ take n (drop 1 words) → Some word ≡ slice_get words (suc n) → (IsUtf8 word → ⊥) → IsTextPrefix (drop 1 words) texts
bad-one [] texts n word e s bad = absurd (cc)
bad-one (name ∷ words) texts n word e s bad = record {
  word = word;
  after = drop (suc n) words;
  are = sym (take-append-drop n words)
      ∙ ap₂ (λ (l r : List (List ℕ)). l ++ r) (sym e) (drop-cons words n word (slice_get_within words n word (sym s)) ∙ ap (λ (w : List ℕ). w ∷ drop (suc n) words) (get_or_from_slice_get words n word word (sym s)));
  not_text = bad;
}

-- a word more is a text
pub more_texts : (told : Option (List (List ℕ))) (texts : List (List ℕ)) (n : ℕ) (word : List ℕ) → IfSome told (λ words. texts ≡ take n (drop 1 words)) → IfSome told (λ words. Some word ≡ slice_get words (suc n)) → IfSome told (λ words. texts ++ (word ∷ []) ≡ take (suc n) (drop 1 words))
more_texts None texts n word e s = tt
more_texts (Some words) texts n word e s = one-more words texts n word e s

-- the next word isn't one
pub bad_word : (told : Option (List (List ℕ))) (texts : List (List ℕ)) (n : ℕ) (word : List ℕ) → IfSome told (λ words. texts ≡ take n (drop 1 words)) → IfSome told (λ words. Some word ≡ slice_get words (suc n)) → (IsUtf8 word → ⊥) → IfSome told (λ words. IsTextPrefix (drop 1 words) texts)
bad_word None texts n word e s bad = tt
bad_word (Some words) texts n word e s bad = bad-one words texts n word e s bad
