-- A value that is spelled is read again, whatever follows: so a value has one reading, and no spelling begins another
-- of its type.
use Rattle.std.proofs.Common.{◌≡◌, ℕ, zero, suc, ◌+◌, ◌^◌, ◌<◌, Bool, true, false, cond, List, [], ◌∷◌, ◌++◌, length, take, replicate, Option, Some, None, refl, ap, ◌∙◌, append_assoc, arith}
use Rattle.std.specs.Prelude.{not, ◌&&◌, nat_lt, nat_le, is_none}
use Rattle.std.specs.Str.{is_utf8}
use Rattle.std.specs.List.{list_all}
use Rattle.std.specs.Int.{Width, w8, w16, w32, w64, byte_len}
use Rattle.std.proofs.lemmas.List.{length-append, length-replicate, take_at, drop_at}
use Rattle.std.proofs.lemmas.Bool.{and_parts, ltb-true, le-leb, leb-true, le-ltb}
use Rattle.std.proofs.lemmas.Nat.{from_le_bytes-to_le_bytes_2, from_be_bytes-to_be_bytes_2, from_le_bytes-to_le_bytes_4, from_be_bytes-to_be_bytes_4, from_le_bytes-to_le_bytes_8, from_be_bytes-to_be_bytes_8}
use Rattle.byte_lists.proofs.Options.{some}
use Rattle.dbus_types.specs.Signature.{Number, byte, boolean, int16, uint16, int32, uint32, int64, uint64, double, handle, Complete, spelled_types, is_signature, is_complete, is_shallow, types_of, fault_of_types, signature_fault, signature_of}
use Rattle.dbus_types.proofs.SignatureLaws.{types_of-spelled_types}
use Rattle.dbus_values.specs.Values.{width, padding, zeros, number_bytes, counted, is_text, spelled_signature}
use Rattle.dbus_values.specs.Reading.{At, ◌>>=◌, when, past, some_bytes, all_zero, aligned, number_of, a_width, ended_by_nul, text_at, signature_at}
use Rattle.dbus_types.specs.declared.BadSignature.{BadSignature as SignatureFault}
use Rattle.dbus_types.specs.declared.BadSignature.TheVariants.{Form as no_form, Depth as too_deep, TooLong as too_long}
use Rattle.dbus_values.specs.declared.Order.{Order}
use Rattle.dbus_values.specs.declared.Order.TheVariants.{Little, Big}

abbrev pub at : ℕ → List ℕ → At
at p bytes = record { place = p; bytes = bytes }

-- ---- bytes

pub some_bytes_front : (n p : ℕ) (xs r : List ℕ) → length xs ≡ n → some_bytes n (at p (xs ++ r)) ≡ Some (xs, at (p + n) r)
some_bytes_front n p xs r e =
    let long : nat_le n (length (xs ++ r)) ≡ true = le-leb n (length (xs ++ r)) (omega (arith, e, length-append xs r)) in
    ap (λ (b : Bool). cond b (some (take n (xs ++ r), past n (at p (xs ++ r)))) None) long
    ∙ ap (λ (t : List ℕ). some (t, past n (at p (xs ++ r)))) (take_at xs r n e)
    ∙ ap (λ (t : List ℕ). some (xs, at (p + n) t)) (drop_at xs r n e)

pub all_zero-replicate : (n : ℕ) → all_zero (replicate n 0) ≡ true
all_zero-replicate zero = refl
all_zero-replicate (suc n) = all_zero-replicate n

pub aligned_front : (n p : ℕ) (r : List ℕ) → aligned n (at p (zeros n p ++ r)) ≡ Some (at (p + padding n p) r)
aligned_front n p r =
    ap (λ (o : Option (List ℕ × At)). o >>= λ x. when (all_zero x.0) x.1) (some_bytes_front (padding n p) p (zeros n p) r (length-replicate (padding n p) 0))
    ∙ ap (λ (b : Bool). cond b (some (at (p + padding n p) r)) None) (all_zero-replicate (padding n p))

-- ---- numbers

pub record IsWide (w : Width) : Type 0 where
  pub len : (o : Order) (x : ℕ) → length (number_bytes o w x) ≡ byte_len w
  pub again : (o : Order) (x : ℕ) → x < 256 ^ byte_len w → number_of o w (number_bytes o w x) ≡ x

len_8 : (o : Order) (x : ℕ) → length (number_bytes o w8 x) ≡ 1
len_8 Little x = refl
len_8 Big x = refl

len_16 : (o : Order) (x : ℕ) → length (number_bytes o w16 x) ≡ 2
len_16 Little x = refl
len_16 Big x = refl

len_32 : (o : Order) (x : ℕ) → length (number_bytes o w32 x) ≡ 4
len_32 Little x = refl
len_32 Big x = refl

len_64 : (o : Order) (x : ℕ) → length (number_bytes o w64 x) ≡ 8
len_64 Little x = refl
len_64 Big x = refl

again_8 : (o : Order) (x : ℕ) → x < 256 → number_of o w8 (number_bytes o w8 x) ≡ x
again_8 Little x h = omega arith
again_8 Big x h = omega arith

again_16 : (o : Order) (x : ℕ) → x < 2 ^ 16 → number_of o w16 (number_bytes o w16 x) ≡ x
again_16 Little x h = from_le_bytes-to_le_bytes_2 x h
again_16 Big x h = from_be_bytes-to_be_bytes_2 x h

pub again_32 : (o : Order) (x : ℕ) → x < 2 ^ 32 → number_of o w32 (number_bytes o w32 x) ≡ x
again_32 Little x h = from_le_bytes-to_le_bytes_4 x h
again_32 Big x h = from_be_bytes-to_be_bytes_4 x h

again_64 : (o : Order) (x : ℕ) → x < 2 ^ 64 → number_of o w64 (number_bytes o w64 x) ≡ x
again_64 Little x h = from_le_bytes-to_le_bytes_8 x h
again_64 Big x h = from_be_bytes-to_be_bytes_8 x h

wide_8 : IsWide w8
wide_8 = record { len = len_8; again = again_8 }

wide_16 : IsWide w16
wide_16 = record { len = len_16; again = again_16 }

pub wide_32 : IsWide w32
wide_32 = record { len = len_32; again = again_32 }

wide_64 : IsWide w64
wide_64 = record { len = len_64; again = again_64 }

pub wide : (n : Number) → IsWide (width n)
wide byte = wide_8
wide boolean = wide_32
wide int16 = wide_16
wide uint16 = wide_16
wide int32 = wide_32
wide uint32 = wide_32
wide int64 = wide_64
wide uint64 = wide_64
wide double = wide_64
wide handle = wide_32

pub width_front : (o : Order) (w : Width) (x p : ℕ) (r : List ℕ) → IsWide w → x < 256 ^ byte_len w → a_width o w (at p (number_bytes o w x ++ r)) ≡ Some (x, at (p + byte_len w) r)
width_front o w x p r h low =
    ap (λ (s : Option (List ℕ × At)). s >>= λ y. some (number_of o w y.0, y.1)) (some_bytes_front (byte_len w) p (number_bytes o w x) r (h.len o x))
    ∙ ap (λ (y : ℕ). some (y, at (p + byte_len w) r)) (h.again o x low)

-- ---- texts

pub nul_front : (n p : ℕ) (xs r : List ℕ) → length xs ≡ n → ended_by_nul n (at p (xs ++ 0 ∷ r)) ≡ Some (xs, at (p + n + 1) r)
nul_front n p xs r e =
    ap (λ (s : Option (List ℕ × At)). s >>= λ x. some_bytes 1 x.1 >>= λ nul. when (all_zero nul.0) (x.0, nul.1)) (some_bytes_front n p xs (0 ∷ r) e)
    ∙ ap (λ (s : Option (List ℕ × At)). s >>= λ nul. when (all_zero nul.0) (xs, nul.1)) (some_bytes_front 1 (p + n) (0 ∷ []) r refl)

-- ---- steps of a reading

pub then_is : {A B : Type 0} (o : Option A) (f : A → Option B) (x : A) (z : Option B) → o ≡ Some x → f x ≡ z → (o >>= f) ≡ z
then_is o f x z e k = ap (λ (q : Option _). q >>= f) e ∙ k

pub when_true : {A : Type 0} (b : Bool) (x : A) → b ≡ true → when b x ≡ Some x
when_true b x e = ap (λ (c : Bool). cond c (some x) None) e

pub ends_at : {A : Type 0} (x : A) (p q : ℕ) (r : List ℕ) → p ≡ q → some {A = A × At} (x, at p r) ≡ some {A = A × At} (x, at q r)
ends_at {A} x p q r e = ap (λ (n : ℕ). some {A = A × At} (x, at n r)) e

-- ---- texts

-- the place where a text's spelling ends
abbrev pub text_len : Order → ℕ → List ℕ → ℕ
text_len o p text = length (zeros 4 p ++ counted o text ++ 0 ∷ [])

pub text_len_is : (o : Order) (p : ℕ) (text : List ℕ) → text_len o p text ≡ padding 4 p + 4 + length text + 1
text_len_is o p text =
    length-append (zeros 4 p ++ counted o text) (0 ∷ [])
    ∙ ap (λ (n : ℕ). n + 1) (length-append (zeros 4 p) (counted o text) ∙ both _ (padding 4 p) _ (length (number_bytes o w32 (length text))) (length text) (length-replicate (padding 4 p) 0) (length-append (number_bytes o w32 (length text)) text) (wide_32.len o (length text)))
  where
    both : (a b c d e : ℕ) → a ≡ b → c ≡ d + e → d ≡ 4 → a + c ≡ b + 4 + e
    both a b c d e p q s = omega arith

text_grouped : (o : Order) (p : ℕ) (text r : List ℕ) → zeros 4 p ++ counted o text ++ 0 ∷ [] ++ r ≡ zeros 4 p ++ (number_bytes o w32 (length text) ++ (text ++ 0 ∷ r))
text_grouped o p text r =
    append_assoc (zeros 4 p ++ counted o text) (0 ∷ []) r
    ∙ append_assoc (zeros 4 p) (counted o text) (0 ∷ r)
    ∙ ap (λ (t : List ℕ). zeros 4 p ++ t) (append_assoc (number_bytes o w32 (length text)) text (0 ∷ r))

text_short : (text : List ℕ) → is_text text ≡ true → length text < 2 ^ 32
text_short text ok = ltb-true (length text) (2 ^ 32) (and_parts (list_all (nat_lt 0) text && is_utf8 text) (nat_lt (length text) (2 ^ 32)) ok).1

pub text_front : (o : Order) (p : ℕ) (text r : List ℕ) → is_text text ≡ true → text_at o (at p ((zeros 4 p ++ counted o text ++ 0 ∷ []) ++ r)) ≡ Some (text, at (p + text_len o p text) r)
text_front o p text r ok =
    ap (λ (t : List ℕ). text_at o (at p t)) (text_grouped o p text r)
    ∙ then_is _ _ _ _ (aligned_front 4 p (number_bytes o w32 (length text) ++ (text ++ 0 ∷ r)))
    (then_is _ _ _ _ (width_front o w32 (length text) (p + padding 4 p) (text ++ 0 ∷ r) wide_32 (text_short text ok))
    (then_is _ _ _ _ (nul_front (length text) (p + padding 4 p + 4) text r refl)
    (when_true (is_text text) (text, at (p + padding 4 p + 4 + length text + 1) r) ok
    ∙ ends_at text (p + padding 4 p + 4 + length text + 1) (p + text_len o p text) r (omega (arith, text_len_is o p text)))))

-- ---- signatures

pub signature_of-spelled : (ts : List Complete) → is_signature ts ≡ true → signature_of (spelled_types ts) ≡ Some ts
signature_of-spelled ts ok =
    let t = and_parts (list_all is_complete ts && list_all is_shallow ts) (nat_le (length (spelled_types ts)) 255) ok in
    let u = and_parts (list_all is_complete ts) (list_all is_shallow ts) t.0 in
    let short : nat_lt 255 (length (spelled_types ts)) ≡ false = le-ltb 255 (length (spelled_types ts)) (leb-true _ _ t.1) in
    let sound : fault_of_types (some ts) ≡ None =
    ap (λ (b : Bool). cond b (some no_form) (cond (list_all is_shallow ts) None (some too_deep))) (ap not u.0)
    ∙ ap (λ (b : Bool). cond b None (some too_deep)) u.1 in
    let none : signature_fault (spelled_types ts) ≡ None =
    ap (λ (b : Bool). cond b (some too_long) (fault_of_types (types_of (spelled_types ts)))) short
    ∙ ap fault_of_types (types_of-spelled_types ts) ∙ sound in
    ap (λ (f : Option SignatureFault). cond (is_none f) (types_of (spelled_types ts)) None) none ∙ types_of-spelled_types ts

pub signature_front : (p : ℕ) (ts : List Complete) (r : List ℕ) → is_signature ts ≡ true → signature_at (at p (spelled_signature ts ++ r)) ≡ Some (ts, at (p + length (spelled_signature ts)) r)
signature_front p ts r ok =
    let text = spelled_types ts in
    let len : length (spelled_signature ts) ≡ suc (length text) + 1 = length-append (length text ∷ text) (0 ∷ []) in
    ap (λ (t : List ℕ). signature_at (at p t)) (append_assoc (length text ∷ text) (0 ∷ []) r)
    ∙ then_is (a_width Little w8 (at p (length text ∷ (text ++ 0 ∷ r)))) _ (length text, at (p + 1) (text ++ 0 ∷ r)) _
    (then_is _ _ _ _ (some_bytes_front 1 p (length text ∷ []) (text ++ 0 ∷ r) refl) refl)
    (then_is _ _ _ _ (nul_front (length text) (p + 1) text r refl)
    (then_is _ _ _ _ (signature_of-spelled ts ok)
    (ends_at ts (p + 1 + length text + 1) (p + length (spelled_signature ts)) r (omega (arith, len)))))
