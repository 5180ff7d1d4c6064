-- What is read as a value is spelled so, each byte of it, and is within the limits.
use Rattle.std.proofs.Common.{◌≡◌, ℕ, ◌+◌, ◌%◌, ◌≤◌, Bool, true, false, List, [], ◌∷◌, ◌++◌, length, take, replicate, Option, Some, None, refl, sym, ap, subst, ◌∙◌, append_assoc, arith}
use Rattle.std.specs.Prelude.{◌==◌, nat_le}
use Rattle.std.specs.Int.{Width, w8, w16, w32, w64, byte_len}
use Rattle.std.proofs.lemmas.List.{length-append, length-take-le, take-append-drop}
use Rattle.std.proofs.lemmas.Bool.{and_parts, leb-true, eqb-true}
use Rattle.std.proofs.lemmas.Nat.{le_bytes_2, be_bytes_2, le_bytes_4, be_bytes_4, le_bytes_8, be_bytes_8}
use Rattle.std.proofs.lemmas.Option.{same_Some}
use Rattle.byte_lists.proofs.Bytes.{AreBytes-drop, AreBytes-take}
use Rattle.byte_lists.specs.Bytes.{AreBytes}
use Rattle.dbus_types.specs.Signature.{Number, byte, boolean, int16, uint16, int32, uint32, int64, uint64, double, handle, Complete, spelled_types, is_signature, signature_of}
use Rattle.dbus_values.specs.Values.{width, padding, zeros, number_bytes, counted, is_text, spelled_signature}
use Rattle.dbus_values.specs.Reading.{At, ◌>>=◌, when, past, some_bytes, all_zero, aligned, number_of, a_width, ended_by_nul, text_at, signature_at}
use Rattle.dbus_types.proofs.SignatureRead.{signature_of-is}
use Rattle.dbus_values.specs.declared.Order.{Order}
use Rattle.dbus_values.specs.declared.Order.TheVariants.{Little, Big}

-- these bytes are between a and b
pub record Takes (a : At) (text : List ℕ) (b : At) : Type 0 where
  pub bytes : a.bytes ≡ text ++ b.bytes
  pub place : b.place ≡ a.place + length text
  pub are : AreBytes b.bytes

pub nothing_taken : (a : At) → AreBytes a.bytes → Takes a [] a
nothing_taken a h = record { bytes = refl; place = omega arith; are = h }

pub takes_then : (a b c : At) (x y : List ℕ) → Takes a x b → Takes b y c → Takes a (x ++ y) c
takes_then a b c x y p q = record {
  bytes = p.bytes ∙ ap (λ (t : List ℕ). x ++ t) q.bytes ∙ sym (append_assoc x y c.bytes);
  place = omega (arith, p.place, q.place, length-append x y);
  are = q.are;
}

pub takes_as : (a b : At) (x y : List ℕ) → x ≡ y → Takes a x b → Takes a y b
takes_as a b x y e p = subst (λ (t : List ℕ). Takes a t b) e p

-- ---- steps of a reading

pub bound : {A B : Type 0} (o : Option A) (f : A → Option B) (y : B) → (o >>= f) ≡ Some y → (x : A) × (o ≡ Some x) × (f x ≡ Some y)
bound None f y e = absurd cc
bound (Some x) f y e = (x, refl, e)

pub when_is : {A : Type 0} (b : Bool) (x y : A) → when b x ≡ Some y → (b ≡ true) × (x ≡ y)
when_is true x y e = (refl, same_Some x y e)
when_is false x y e = absurd cc

-- ---- bytes

pub some_bytes-takes : (n : ℕ) (a : At) (x : List ℕ × At) → AreBytes a.bytes → some_bytes n a ≡ Some x → Takes a x.0 x.1 × (length x.0 ≡ n) × AreBytes x.0
some_bytes-takes n a x h e =
    let w = when_is (nat_le n (length a.bytes)) (take n a.bytes, past n a) x e in
    let len : length (take n a.bytes) ≡ n = length-take-le n a.bytes (leb-true n (length a.bytes) w.0) in
    let all : Takes a (take n a.bytes) (past n a) × (length (take n a.bytes) ≡ n) × AreBytes (take n a.bytes) = (
      record { bytes = sym (take-append-drop n a.bytes); place = ap (λ (k : ℕ). a.place + k) (sym len); are = AreBytes-drop n a.bytes h },
      len,
      AreBytes-take n a.bytes h,
    ) in
    subst (λ (y : List ℕ × At). Takes a y.0 y.1 × (length y.0 ≡ n) × AreBytes y.0) w.1 all

pub all_zero-is : (xs : List ℕ) → all_zero xs ≡ true → xs ≡ replicate (length xs) 0
all_zero-is [] e = refl
all_zero-is (x ∷ xs) e =
    let t = and_parts (x == 0) (all_zero xs) e in
    ap (λ (n : ℕ). n ∷ xs) (eqb-true x 0 t.0) ∙ ap (λ (ys : List ℕ). 0 ∷ ys) (all_zero-is xs t.1)

pub aligned-takes : (n : ℕ) (a b : At) → AreBytes a.bytes → aligned n a ≡ Some b → Takes a (zeros n a.place) b
aligned-takes n a b h e =
    let s = bound (some_bytes (padding n a.place) a) (λ x. when (all_zero x.0) x.1) b e in
    let t = some_bytes-takes (padding n a.place) a s.0 h s.1 in
    let w = when_is (all_zero s.0.0) s.0.1 b s.2 in
    let is : s.0.0 ≡ zeros n a.place = all_zero-is s.0.0 w.0 ∙ ap (λ (k : ℕ). replicate k 0) t.1 in
    subst (λ (c : At). Takes a (zeros n a.place) c) w.1 (takes_as a s.0.1 s.0.0 (zeros n a.place) is t.0)

-- ---- numbers

pub record IsRead (w : Width) : Type 0 where
  pub back : (o : Order) (bytes : List ℕ) → length bytes ≡ byte_len w → AreBytes bytes → number_bytes o w (number_of o w bytes) ≡ bytes

back_8 : (o : Order) (bytes : List ℕ) → length bytes ≡ 1 → AreBytes bytes → number_bytes o w8 (number_of o w8 bytes) ≡ bytes
back_8 o [] e h = absurd (omega (arith, e))
back_8 Little (x ∷ []) e h = ap (λ (n : ℕ). n ∷ []) (omega (arith, h 0))
back_8 Big (x ∷ []) e h = ap (λ (n : ℕ). n ∷ []) (omega (arith, h 0))
back_8 o (x ∷ y ∷ bytes) e h = absurd (omega (arith, e))

back_16 : (o : Order) (bytes : List ℕ) → length bytes ≡ 2 → AreBytes bytes → number_bytes o w16 (number_of o w16 bytes) ≡ bytes
back_16 Little bytes e h = le_bytes_2 bytes _ e h refl
back_16 Big bytes e h = be_bytes_2 bytes _ e h refl

pub back_32 : (o : Order) (bytes : List ℕ) → length bytes ≡ 4 → AreBytes bytes → number_bytes o w32 (number_of o w32 bytes) ≡ bytes
back_32 Little bytes e h = le_bytes_4 bytes _ e h refl
back_32 Big bytes e h = be_bytes_4 bytes _ e h refl

back_64 : (o : Order) (bytes : List ℕ) → length bytes ≡ 8 → AreBytes bytes → number_bytes o w64 (number_of o w64 bytes) ≡ bytes
back_64 Little bytes e h = le_bytes_8 bytes _ e h refl
back_64 Big bytes e h = be_bytes_8 bytes _ e h refl

pub read_8 : IsRead w8
read_8 = record { back = back_8 }

read_16 : IsRead w16
read_16 = record { back = back_16 }

pub read_32 : IsRead w32
read_32 = record { back = back_32 }

read_64 : IsRead w64
read_64 = record { back = back_64 }

pub read_width : (n : Number) → IsRead (width n)
read_width byte = read_8
read_width boolean = read_32
read_width int16 = read_16
read_width uint16 = read_16
read_width int32 = read_32
read_width uint32 = read_32
read_width int64 = read_64
read_width uint64 = read_64
read_width double = read_64
read_width handle = read_32

pub width-takes : (o : Order) (w : Width) (a : At) (x : ℕ × At) → IsRead w → AreBytes a.bytes → a_width o w a ≡ Some x → Takes a (number_bytes o w x.0) x.1
width-takes o w a x h are e =
    let s = bound (some_bytes (byte_len w) a) (λ y. Some (number_of o w y.0, y.1)) x e in
    let t = some_bytes-takes (byte_len w) a s.0 are s.1 in
    let all : Takes a (number_bytes o w (number_of o w s.0.0)) s.0.1 = takes_as a s.0.1 s.0.0 _ (sym (h.back o s.0.0 t.1 t.2)) t.0 in
    subst (λ (y : ℕ × At). Takes a (number_bytes o w y.0) y.1) (same_Some (number_of o w s.0.0, s.0.1) x s.2) all

-- ---- texts

pub nul-takes : (n : ℕ) (a : At) (x : List ℕ × At) → AreBytes a.bytes → ended_by_nul n a ≡ Some x → Takes a (x.0 ++ 0 ∷ []) x.1 × (length x.0 ≡ n)
nul-takes n a x h e =
    let s = bound (some_bytes n a) (λ y. some_bytes 1 y.1 >>= λ nul. when (all_zero nul.0) (y.0, nul.1)) x e in
    let t = some_bytes-takes n a s.0 h s.1 in
    let u = bound (some_bytes 1 s.0.1) (λ nul. when (all_zero nul.0) (s.0.0, nul.1)) x s.2 in
    let v = some_bytes-takes 1 s.0.1 u.0 t.0.are u.1 in
    let w = when_is (all_zero u.0.0) (s.0.0, u.0.1) x u.2 in
    let one : u.0.0 ≡ 0 ∷ [] = all_zero-is u.0.0 w.0 ∙ ap (λ (k : ℕ). replicate k 0) v.1 in
    let all : Takes a (s.0.0 ++ 0 ∷ []) u.0.1 × (length s.0.0 ≡ n) = (takes_then a s.0.1 u.0.1 s.0.0 (0 ∷ []) t.0 (takes_as s.0.1 u.0.1 u.0.0 (0 ∷ []) one v.0), t.1) in
    subst (λ (y : List ℕ × At). Takes a (y.0 ++ 0 ∷ []) y.1 × (length y.0 ≡ n)) w.1 all

pub text-takes : (o : Order) (a : At) (x : List ℕ × At) → AreBytes a.bytes → text_at o a ≡ Some x → Takes a (zeros 4 a.place ++ counted o x.0 ++ 0 ∷ []) x.1 × (is_text x.0 ≡ true)
text-takes o a x h e =
    let s = bound (aligned 4 a) (λ start. a_width o w32 start >>= λ n. ended_by_nul n.0 n.1 >>= λ y. when (is_text y.0) y) x e in
    let t = aligned-takes 4 a s.0 h s.1 in
    let u = bound (a_width o w32 s.0) (λ n. ended_by_nul n.0 n.1 >>= λ y. when (is_text y.0) y) x s.2 in
    let v = width-takes o w32 s.0 u.0 read_32 t.are u.1 in
    let w = bound (ended_by_nul u.0.0 u.0.1) (λ y. when (is_text y.0) y) x u.2 in
    let z = nul-takes u.0.0 u.0.1 w.0 v.are w.1 in
    let k = when_is (is_text w.0.0) w.0 x w.2 in
    let text = w.0.0 in
    let number : number_bytes o w32 u.0.0 ≡ number_bytes o w32 (length text) = ap (λ (n : ℕ). number_bytes o w32 n) (sym z.1) in
    let body = takes_then s.0 u.0.1 w.0.1 (number_bytes o w32 (length text)) (text ++ 0 ∷ []) (takes_as s.0 u.0.1 _ _ number v) z.0 in
    let whole = takes_then a s.0 w.0.1 (zeros 4 a.place) (number_bytes o w32 (length text) ++ (text ++ 0 ∷ [])) t body in
    let grouped : zeros 4 a.place ++ (number_bytes o w32 (length text) ++ (text ++ 0 ∷ [])) ≡ zeros 4 a.place ++ counted o text ++ 0 ∷ [] =
    ap (λ (r : List ℕ). zeros 4 a.place ++ r) (sym (append_assoc (number_bytes o w32 (length text)) text (0 ∷ []))) ∙ sym (append_assoc (zeros 4 a.place) (counted o text) (0 ∷ [])) in
    subst (λ (y : List ℕ × At). Takes a (zeros 4 a.place ++ counted o y.0 ++ 0 ∷ []) y.1 × (is_text y.0 ≡ true)) k.1 (takes_as a w.0.1 _ _ grouped whole, k.0)

-- a step that succeeded, with its value as a variable
pub bind_case : {A B P : Type 0} (o : Option A) (f : A → Option B) (y : B) → (o >>= f) ≡ Some y → ((x : A) → o ≡ Some x → f x ≡ Some y → P) → P
bind_case None f y e k = absurd cc
bind_case (Some x) f y e k = k x refl e

abbrev SignatureTaken : At → List Complete × At → Type 0
SignatureTaken a x = Takes a (spelled_signature x.0) x.1 × (is_signature x.0 ≡ true)

signature-joined : (a : At) (n : ℕ × At) (y : List ℕ × At) (ts : List Complete) → Takes a (number_bytes Little w8 n.0) n.1 → Takes n.1 (y.0 ++ 0 ∷ []) y.1 → length y.0 ≡ n.0 → spelled_types ts ≡ y.0 → is_signature ts ≡ true → SignatureTaken a (ts, y.1)
signature-joined a n y ts first text len is ok =
    let short : length (spelled_types ts) ≤ 255 = leb-true _ 255 (and_parts _ (nat_le (length (spelled_types ts)) 255) ok).1 in
    let same : length (spelled_types ts) ≡ n.0 = ap length is ∙ len in
    let number : number_bytes Little w8 n.0 ≡ length (spelled_types ts) ∷ [] = ap (λ (b : ℕ). b ∷ []) (small n.0 (length (spelled_types ts)) same short) in
    let rest : y.0 ++ 0 ∷ [] ≡ spelled_types ts ++ 0 ∷ [] = ap (λ (t : List ℕ). t ++ 0 ∷ []) (sym is) in
    (takes_then a n.1 y.1 (length (spelled_types ts) ∷ []) (spelled_types ts ++ 0 ∷ []) (takes_as a n.1 _ _ number first) (takes_as n.1 y.1 _ _ rest text), ok)
  where
    small : (n k : ℕ) → k ≡ n → k ≤ 255 → n % 256 ≡ k
    small n k e h = omega arith

pub signature-takes : (a : At) (x : List Complete × At) → AreBytes a.bytes → signature_at a ≡ Some x → SignatureTaken a x
signature-takes a x h e =
    bind_case (a_width Little w8 a) (λ n. ended_by_nul n.0 n.1 >>= λ y. signature_of y.0 >>= λ ts. Some (ts, y.1)) x e (λ n en e1.
    bind_case (ended_by_nul n.0 n.1) (λ y. signature_of y.0 >>= λ ts. Some (ts, y.1)) x e1 (λ y ey e2.
    bind_case (signature_of y.0) (λ ts. Some (ts, y.1)) x e2 (λ ts et e3.
    let first = width-takes Little w8 a n read_8 h en in
    let text = nul-takes n.0 n.1 y first.are ey in
    let is = signature_of-is y.0 ts et in
    subst (SignatureTaken a) (same_Some (ts, y.1) x e3) (signature-joined a n y ts first text.0 text.1 is.0 is.1))))
