-- A word that is read, and those after it.
use Rattle.std.proofs.Common.{◌≡◌, ℕ, ◌+◌, List, ◌∷◌, Result, Ok, Err, ap}
use Rattle.policy_args.specs.declared.WordKind.{WordKind}
use Rattle.policy_args.specs.Words.{◌>>=◌, at_word, each_word}

module _ {A : Type 0} (step : A → List ℕ → Result A WordKind) (index : ℕ) (state : A) (w : List ℕ) (words : List (List ℕ)) where
  -- a good word
  pub each_word-Ok : (next : A) → step state w ≡ Ok next → each_word step index state (w ∷ words) ≡ each_word step (index + 1) next words
  each_word-Ok next e = ap (λ read. at_word index read >>= λ s. each_word step (index + 1) s words) e

  -- the first bad word
  pub each_word-Err : (kind : WordKind) → step state w ≡ Err kind → each_word step index state (w ∷ words) ≡ Err (record { index = index; kind = kind })
  each_word-Err kind e = ap (λ read. at_word index read >>= λ s. each_word step (index + 1) s words) e
