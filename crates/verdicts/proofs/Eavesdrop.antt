-- A word occurs in a text if the text has it between two others.
use Rattle.std.proofs.Common.{◌≡◌, ℕ, Bool, true, false, nat_eq, List, [], ◌∷◌, ◌++◌, length, drop, None, refl, ap, sym}
use Rattle.std.specs.Prelude.{◌||◌}
use Rattle.std.specs.Bool.{MatchBool}
use Rattle.std.specs.List.{starts_with}
use Rattle.std.specs.Str.Iter.{HasSubslice}
use Rattle.std.specs.Str.Pattern.{FindsText, HasMatch}
use Rattle.std.proofs.lemmas.Bool.Decides.{Decides-eqb}
use Rattle.std.proofs.lemmas.Slice.Eq.{starts_is}
use Rattle.std.proofs.lemmas.Str.Pattern.{contains_text}
use Rattle.policy_view.specs.Texts.{stands_in}

in-front : (word text rest : List ℕ) → text ≡ word ++ rest → starts_with nat_eq text word ≡ true
in-front word text rest e = (starts_is Decides-eqb text word (starts_with nat_eq text word) refl).1 rest e

behind-front : (word text : List ℕ) → starts_with nat_eq text word ≡ true → text ≡ word ++ drop (length word) text
behind-front word text e = (starts_is Decides-eqb text word (starts_with nat_eq text word) refl).0 e

either : (a b : Bool) → b ≡ true → (a || b) ≡ true
either true b e = refl
either false b e = e

there : (word front rest text : List ℕ) → text ≡ front ++ (word ++ rest) → stands_in word text ≡ true
there word [] rest [] e = in-front word [] rest e
there word [] rest (b ∷ bs) e = ap (λ (v : Bool). v || stands_in word bs) (in-front word (b ∷ bs) rest e)
there word (f ∷ front) rest [] e = absurd cc
there word (f ∷ front) rest (b ∷ bs) e =
    let behind : bs ≡ front ++ (word ++ rest) = cc in
    either (starts_with nat_eq (b ∷ bs) word) (stands_in word bs) (there word front rest bs behind)

found : (word text : List ℕ) → stands_in word text ≡ true → HasSubslice text word
found word [] e = ([], drop (length word) [], behind-front word [] e)
found word (b ∷ bs) e = by (starts_with nat_eq (b ∷ bs) word) refl (found word bs) e
  where
    by : (v : Bool) → starts_with nat_eq (b ∷ bs) word ≡ v → (stands_in word bs ≡ true → HasSubslice bs word) → (v || stands_in word bs) ≡ true → HasSubslice (b ∷ bs) word
    by true is later e = ([], drop (length word) (b ∷ bs), behind-front word (b ∷ bs) is)
    by false is later e = let behind = later e in (b ∷ behind.0, behind.1, ap (λ (t : List ℕ). b ∷ t) behind.2)

same : (a b : Bool) → (a ≡ true → b ≡ true) → (b ≡ true → a ≡ true) → a ≡ b
same true b f g = sym (f refl)
same false true f g = g refl
same false false f g = refl

pub stands-contained : (r : Bool) (word text : List ℕ) → MatchBool r (HasMatch (FindsText word) text) (FindsText word text None) → r ≡ stands_in word text
stands-contained r word text cases =
    let told = contains_text r word text cases in
    same r (stands_in word text) (λ e. let s = told.0 e in there word s.0 s.1 text s.2) (λ e. told.1 (found word text e))
