-- Lists of bytes.
use Rattle.std.proofs.Common.{◌≡◌, ℕ, zero, suc, ◌+◌, ◌^◌, ◌<◌, true, false, List, [], ◌∷◌, ◌++◌, length, take, drop, get_or, refl, sym, ap, ◌∙◌, append_assoc, arith, inl, inr}
use Rattle.std.specs.Prelude.{bytes_eq, All}
use Rattle.std.specs.Int.{w32, from_le_bytes}
use Rattle.std.proofs.lemmas.Bool.{cases_lt}
use Rattle.std.proofs.lemmas.List.{get_or-drop, get_or-take, get_or_past, length-take, take-append-drop, drop-drop}
use Rattle.std.proofs.lemmas.List.Elements.{All-get_or}
use Rattle.std.proofs.lemmas.Slice.Eq.{bytes_eq-Decides}
use Rattle.byte_lists.specs.Bytes.{is_empty, AreBytes}

-- ---- equal lists

pub bytes_eq-true : (xs ys : List ℕ) → bytes_eq xs ys ≡ true → xs ≡ ys
bytes_eq-true xs ys e = (bytes_eq-Decides xs ys).0 e

pub bytes_eq-refl : (xs : List ℕ) → bytes_eq xs xs ≡ true
bytes_eq-refl xs = (bytes_eq-Decides xs xs).1 refl

-- ---- no bytes

pub empty_is : (xs : List ℕ) → is_empty xs ≡ true → xs ≡ []
empty_is [] e = refl
empty_is (x ∷ xs) e = absurd cc

pub empty_len : (xs : List ℕ) → is_empty xs ≡ true → length xs ≡ 0
empty_len xs e = ap length (empty_is xs e)

pub not_empty : (xs : List ℕ) → 0 < length xs → is_empty xs ≡ false
not_empty [] h = absurd (omega (arith, h))
not_empty (x ∷ xs) h = refl

pub not_empty_len : (xs : List ℕ) → is_empty xs ≡ false → 0 < length xs
not_empty_len [] e = absurd cc
not_empty_len (x ∷ xs) e = omega arith

-- ---- each is a byte

pub AreBytes-from_All : (bytes : List ℕ) → All (λ b. b < 256) bytes → AreBytes bytes
AreBytes-from_All bytes h i = elim (cases_lt i (length bytes)) [
  | inl lt ↦ All-get_or (λ b. b < 256) bytes i 0 lt h
  | inr le ↦ rw (get_or_past bytes i 0 le) (omega arith)
]

pub AreBytes-drop : (n : ℕ) (bytes : List ℕ) → AreBytes bytes → AreBytes (drop n bytes)
AreBytes-drop n bytes h i = rw get_or-drop (h (n + i))

pub AreBytes-take : (n : ℕ) (bytes : List ℕ) → AreBytes bytes → AreBytes (take n bytes)
AreBytes-take n bytes h i = elim (cases_lt i n) [
  | inl lt ↦ rw (get_or-take n bytes i 0 lt) (h i)
  | inr le ↦ rw (get_or_past (take n bytes) i 0 (omega (arith, length-take n bytes))) (omega arith)
]

pub AreBytes-append : (xs ys : List ℕ) → AreBytes xs → AreBytes ys → AreBytes (xs ++ ys)
AreBytes-append [] ys h k i = k i
AreBytes-append (x ∷ xs) ys h k zero = h zero
AreBytes-append (x ∷ xs) ys h k (suc i) = AreBytes-append xs ys (λ j. h (suc j)) k i

pub AreBytes-behind : (xs ys : List ℕ) → AreBytes (xs ++ ys) → AreBytes ys
AreBytes-behind [] ys h = h
AreBytes-behind (x ∷ xs) ys h = AreBytes-behind xs ys (λ i. h (suc i))

-- four bytes are a number below 2 ^ 32
pub from_le_bytes-below : (bytes : List ℕ) → AreBytes bytes → from_le_bytes w32 bytes < 2 ^ 32
from_le_bytes-below bytes h = omega (arith, h 0, h 1, h 2, h 3)

-- ---- a list in parts

pub two_pieces : {A : Type 0} (a b : ℕ) (t : List A) → take a t ++ take b (drop a t) ++ drop (a + b) t ≡ t
two_pieces a b t =
    append_assoc (take a t) (take b (drop a t)) (drop (a + b) t)
    ∙ ap (λ (x : List _). take a t ++ (take b (drop a t) ++ x)) (sym (drop-drop b a t))
    ∙ ap (λ (x : List _). take a t ++ x) (take-append-drop b (drop a t))
    ∙ take-append-drop a t
