-- Paths at or below a path, given what follows it in them.
use Rattle.std.proofs.Common.{◌≡◌, ℕ, Bool, true, false, ◌&&◌, ◌||◌, nat_eq, eqb, get_or, ◌<◌, ◌≤◌, arith, List, [], ◌∷◌, ◌++◌, length, drop, refl, ap, sym, ◌∙◌, inl, inr}
use Rattle.std.specs.Prelude.{Some, bytes_eq}
use Rattle.std.proofs.lemmas.Bool.{cases_eq, eq-eqb, ne_eqb}
use Rattle.std.proofs.Math.Bool.{and-false, and-true}
use Rattle.dbus_names.specs.Texts.{begins_with}
use Rattle.call_rules.specs.Rules.{path_matches}

abbrev pub goes_on : Bool → List ℕ → Bool
goes_on below [] = true
goes_on below (c ∷ rest) = below && nat_eq c 47

pub goes_on-end : (below : Bool) (rest : List ℕ) → length rest < 1 → true ≡ goes_on below rest
goes_on-end below [] l = refl
goes_on-end below (c ∷ rest) l = absurd (omega arith)

pub goes_on-next : (below : Bool) (rest : List ℕ) → 1 ≤ length rest → below ≡ true → eqb (get_or rest 0 0) 47 ≡ goes_on below rest
goes_on-next below [] l e = absurd (omega arith)
goes_on-next below (c ∷ rest) l e = ap (λ b. b && eqb c 47) (sym e)

eqb_sym : (a b : ℕ) → eqb a b ≡ eqb b a
eqb_sym a b = elim (cases_eq a b) [
  | inl e ↦ eq-eqb a b e ∙ sym (eq-eqb b a (sym e))
  | inr n ↦ ne_eqb a b n ∙ sym (ne_eqb b a (λ e. n (sym e)))
]

step : (here whole front rest below : Bool) → (whole || (below && front)) ≡ rest → ((here && whole) || (below && (here && front))) ≡ (here && rest)
step true whole front rest below e = e
step false whole front rest below e = and-false below

step-and : (here front rest : Bool) → (here && (front && rest)) ≡ ((here && front) && rest)
step-and true front rest = refl
step-and false front rest = refl

pub matches-goes_on : (path given : List ℕ) (below : Bool) → path_matches (Some path) below given ≡ (begins_with path given && goes_on below (drop (length path) given))
matches-goes_on [] [] below = refl
matches-goes_on [] (c ∷ given) below = ap (λ b. below && b) (and-true (eqb 47 c) ∙ eqb_sym 47 c)
matches-goes_on (d ∷ path) [] below = and-false below
matches-goes_on (d ∷ path) (c ∷ given) below =
    ap (λ b. (b && bytes_eq given path) || (below && (eqb d c && begins_with (path ++ 47 ∷ []) given))) (eqb_sym c d)
    ∙ step (eqb d c) (bytes_eq given path) (begins_with (path ++ 47 ∷ []) given) (begins_with path given && goes_on below (drop (length path) given)) below (matches-goes_on path given below)
    ∙ step-and (eqb d c) (begins_with path given) (goes_on below (drop (length path) given))
