-- What holds of the elements of two lists, pair by pair.
use Rattle.std.proofs.Common.{◌≡◌, ◌<◌, ◌+◌, ℕ, List, [], ◌∷◌, ◌++◌, ap, sym, ◌∙◌, subst, get_or, length, take}
use Rattle.std.specs.List.{AllZip}
use Rattle.std.proofs.lemmas.List.{take_more}

-- of one pair more
zip_push : {A B : Type 0} (P : A → B → Type 0) (xs : List A) (ys : List B) (x : A) (y : B) → AllZip P xs ys → P x y → AllZip P (xs ++ x ∷ []) (ys ++ y ∷ [])
zip_push P [] [] x y zipped p = (p, tt)
zip_push P [] (_ ∷ _) x y zipped p = elim zipped [ ]
zip_push P (_ ∷ _) [] x y zipped p = elim zipped [ ]
zip_push P (a ∷ xs) (b ∷ ys) x y (one, zipped) p = (one, zip_push P xs ys x y zipped p)

pub zip-next : {A B : Type 0} (P : A → B → Type 0) (xs : List A) (i : ℕ) (x : A) (ys new : List B) (y : B) → i < length xs → x ≡ get_or xs i x → new ≡ ys ++ y ∷ [] → AllZip P (take i xs) ys → P x y →
    AllZip P (take (i + 1) xs) new
zip-next P xs i x ys new y lt is pushed zipped p =
    let more : take i xs ++ x ∷ [] ≡ take (i + 1) xs = ap (λ z. take i xs ++ z ∷ []) is ∙ sym (take_more xs i x lt) in
    subst (λ zs. AllZip P zs new) more (subst (λ ws. AllZip P (take i xs ++ x ∷ []) ws) (sym pushed) (zip_push P (take i xs) ys x y zipped p))

-- of pairs with one middle
zip-through : {A B C : Type 0} (P : A → B → Type 0) (Q : B → C → Type 0) (R : A → C → Type 0) (xs : List A) (ys : List B) (zs : List C) → ((x : A) (y : B) (z : C) → P x y → Q y z → R x z) →
    AllZip P xs ys → AllZip Q ys zs → AllZip R xs zs
zip-through P Q R [] [] [] through one two = tt
zip-through P Q R [] [] (_ ∷ _) through one two = elim two [ ]
zip-through P Q R [] (_ ∷ _) zs through one two = elim one [ ]
zip-through P Q R (_ ∷ _) [] zs through one two = elim one [ ]
zip-through P Q R (_ ∷ _) (_ ∷ _) [] through one two = elim two [ ]
zip-through P Q R (x ∷ xs) (y ∷ ys) (z ∷ zs) through (p, one) (q, two) = (through x y z p q, zip-through P Q R xs ys zs through one two)

pub zip-over : {A B C : Type 0} (P : A → B → Type 0) (Q : B → C → Type 0) (R : A → C → Type 0) (xs : List A) (ys same : List B) (zs : List C) → same ≡ ys → ((x : A) (y : B) (z : C) → P x y → Q y z → R x z) →
    AllZip P xs ys → AllZip Q same zs → AllZip R xs zs
zip-over P Q R xs ys same zs is through one two = zip-through P Q R xs ys zs through one (subst (λ ws. AllZip Q ws zs) is two)
