-- A prefix of a list, and what is left of it.
use Rattle.std.proofs.Common.{◌≡◌, ℕ, suc, zero, ◌+◌, ◌-◌, ◌≤◌, List, [], ◌∷◌, ◌++◌, refl, ap, sym, ◌∙◌, length, take, drop, arith}
use Rattle.std.proofs.lemmas.List.{take-append-drop, take_at, length-take-le}
use Rattle.std.proofs.Math.Seq.{drop-nil}

take-take : (n k : ℕ) (xs : List ℕ) → n ≤ k → take n (take k xs) ≡ take n xs
take-take zero k xs le = refl
take-take (suc n) zero xs le = absurd (omega arith)
take-take (suc n) (suc k) [] le = refl
take-take (suc n) (suc k) (x ∷ xs) le = ap (λ (l : List ℕ). x ∷ l) (take-take n k xs (omega arith))

drop-drop : (m n : ℕ) (xs : List ℕ) → drop n (drop m xs) ≡ drop (m + n) xs
drop-drop zero n [] = let e : n ≡ zero + n = omega arith in ap (λ (k : ℕ). drop k []) e
drop-drop (suc m) n [] = drop-nil n ∙ sym (drop-nil (suc m + n))
drop-drop zero n (x ∷ xs) = let e : n ≡ zero + n = omega arith in ap (λ (k : ℕ). drop k (x ∷ xs)) e
drop-drop (suc m) n (x ∷ xs) = let e : suc (m + n) ≡ suc m + n = omega arith in drop-drop m n xs ∙ ap (λ (k : ℕ). drop k (x ∷ xs)) e

-- what was copied is the prefix
pub copied : (xs put rest : List ℕ) (n : ℕ) → n ≤ length xs → put ≡ take n xs → take n (put ++ rest) ≡ take n xs
copied xs put rest n le e = ap (λ (l : List ℕ). take n (l ++ rest)) e ∙ take_at (take n xs) rest n (length-take-le n xs le)

-- what was read of the bytes between two places, and what is left, are all from the first place on
pub read-bytes : (bytes into : List ℕ) (from to n : ℕ) → n ≤ to - from → take n into ≡ take n (take (to - from) (drop from bytes)) →
    drop from bytes ≡ take n into ++ drop (from + n) bytes
read-bytes bytes into from to n le e =
    sym (ap (λ (l : List ℕ). l ++ drop (from + n) bytes) (e ∙ take-take n (to - from) (drop from bytes) le)
    ∙ ap (λ (l : List ℕ). take n (drop from bytes) ++ l) (sym (drop-drop from n bytes))
    ∙ take-append-drop n (drop from bytes))
