-- A line's word is the text with which the line begins, if no byte of a word follows it.
use Rattle.std.proofs.Common.{◌≡◌, ℕ, Bool, true, false, cond, List, [], ◌∷◌, length, take, drop, refl, sym, ap, ◌∙◌}
use Rattle.std.specs.Prelude.{not, ◌&&◌, ◌||◌, ◌==◌, nat_eq, bytes_eq}
use Rattle.std.specs.List.{list_all}
use lib.Pointwise.{pointwise}
use Rattle.std.proofs.lemmas.Bool.{eqb-true}
use Rattle.std.proofs.lemmas.List.Sums.{take_while-cons}
use Rattle.sasl_watch.specs.Lines.{word, has_word}
use Rattle.sasl_watch.specs.Words.{is_in_word}

both : (a b : Bool) → (a && b) ≡ true → (a ≡ true) × (b ≡ true)
both true b e = (refl, e)
both false b e = absurd cc

ends : (c : ℕ) (line : List ℕ) → has_word [] (c ∷ line) ≡ not (is_in_word c)
ends c line = ap (λ (t : List ℕ). bytes_eq t []) (take_while-cons is_in_word c line) ∙ go (is_in_word c)
  where
    go : (e : Bool) → bytes_eq (cond e (c ∷ word line) []) [] ≡ not e
    go true = refl
    go false = refl

pub word-ends : (c : ℕ) (line : List ℕ) → has_word [] (c ∷ line) ≡ (c == 32 || c == 13)
word-ends c line = ends c line ∙ twice (c == 32 || c == 13)
  where
    twice : (e : Bool) → not (not e) ≡ e
    twice true = refl
    twice false = refl

pub word-front : (text line : List ℕ) → list_all is_in_word text ≡ true → has_word text line ≡ (pointwise nat_eq (take (length text) line) text && has_word [] (drop (length text) line))
word-front [] line h = refl
word-front (c ∷ text) [] h = refl
word-front (c ∷ text) (d ∷ line) h =
    let parts = both (is_in_word c) (list_all is_in_word text) h in
    ap (λ (t : List ℕ). bytes_eq t (c ∷ text)) (take_while-cons is_in_word d line)
    ∙ go (is_in_word d) (nat_eq d c) refl refl parts.0 (word-front text line parts.1)
  where
    joined : (a b c : Bool) → (a && (b && c)) ≡ ((a && b) && c)
    joined true b c = refl
    joined false b c = refl

    go : (e same : Bool) → is_in_word d ≡ e → nat_eq d c ≡ same → is_in_word c ≡ true → has_word text line ≡ (pointwise nat_eq (take (length text) line) text && has_word [] (drop (length text) line))
        → bytes_eq (cond e (d ∷ word line) []) (c ∷ text) ≡ ((nat_eq d c && pointwise nat_eq (take (length text) line) text) && has_word [] (drop (length text) line))
    go true same e k p ih = ap (λ (x : Bool). nat_eq d c && x) ih ∙ joined (nat_eq d c) (pointwise nat_eq (take (length text) line) text) (has_word [] (drop (length text) line))
    go false true e k p ih = absurd (other (is_in_word d) (ap is_in_word (eqb-true d c k) ∙ p) e)
      where
        other : (x : Bool) → x ≡ true → x ≡ false → ⊥
        other true p q = cc
        other false p q = cc
    go false false e k p ih = sym (ap (λ (x : Bool). (x && pointwise nat_eq (take (length text) line) text) && has_word [] (drop (length text) line)) k)
