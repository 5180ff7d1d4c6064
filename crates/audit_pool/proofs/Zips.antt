-- What holds of the elements of two lists, pair by pair, holds of lists that were joined.
use Rattle.std.proofs.Common.{List, [], ◌∷◌, ◌++◌}
use Rattle.std.specs.List.{AllZip}

pub all_zip-append : {A B : Type 0} (R : A → B → Type 0) (xs ys : List A) (us vs : List B) → AllZip R xs us → AllZip R ys vs → AllZip R (xs ++ ys) (us ++ vs)
all_zip-append R [] ys [] vs front back = back
all_zip-append R [] ys (u ∷ us) vs front back = absurd front
all_zip-append R (x ∷ xs) ys [] vs front back = absurd front
all_zip-append R (x ∷ xs) ys (u ∷ us) vs front back = (front.0, all_zip-append R xs ys us vs front.1 back)
