-- Passing over numbers, and over those that fill an array.
use Rattle.std.proofs.Common.{◌≡◌, ℕ, zero, suc, ◌+◌, ◌-◌, ◌%◌, ◌<◌, ◌≤◌, Bool, true, false, cond, List, [], ◌∷◌, ◌++◌, length, take, drop, Option, Some, None, refl, sym, ap, ◌∙◌, append_assoc, arith}
use Rattle.std.specs.Prelude.{◌==◌, ◌&&◌, ◌||◌, nat_lt, nat_le, is_some}
use Rattle.std.specs.Int.{byte_len}
use Rattle.std.proofs.lemmas.List.{length-append, length-drop}
use Rattle.std.proofs.lemmas.Bool.{lt-ltb, le-leb, eq-eqb, ne_eqb, leb-true, leb-false}
use Rattle.std.proofs.lemmas.Option.{same_Some}
use Rattle.byte_lists.proofs.Bytes.{AreBytes-drop, empty_len, not_empty_len}
use Rattle.byte_lists.specs.Bytes.{AreBytes}
use Rattle.byte_lists.proofs.Options.{some}
use Rattle.dbus_names.specs.Names.{is_empty}
use Rattle.dbus_types.specs.Signature.{Number, byte, boolean, int16, uint16, int32, uint32, int64, uint64, double, handle, number, string, path, signature, Complete, basic, variant, array, struct, entry, Completes, spelled_type, spelled_members, is_complete}
use Rattle.dbus_values.specs.Values.{Value, Values, no_values, value, width, alignment, padding}
use Rattle.dbus_values.specs.Reading.{At, ◌>>=◌, when, some_bytes, all_zero, aligned, to_the_end, element_at, value_within}
use Rattle.dbus_values.specs.Walk.{alignment_by, front_code, numbers_fill, walk_within}
use Rattle.dbus_values.proofs.WalkBasic.{ends, ended, IsFree, number_ended}
use Rattle.dbus_values.specs.declared.Order.{Order}

-- it gives the type's alignment, and isn't the parenthesis after a struct's members
pub type_front : (t : Complete) (rest : List ℕ) → let code = front_code (spelled_type t ++ rest) in (alignment_by code ≡ alignment t) × ((code == 41) ≡ false)
type_front (basic (number byte)) rest = (refl, refl)
type_front (basic (number boolean)) rest = (refl, refl)
type_front (basic (number int16)) rest = (refl, refl)
type_front (basic (number uint16)) rest = (refl, refl)
type_front (basic (number int32)) rest = (refl, refl)
type_front (basic (number uint32)) rest = (refl, refl)
type_front (basic (number int64)) rest = (refl, refl)
type_front (basic (number uint64)) rest = (refl, refl)
type_front (basic (number double)) rest = (refl, refl)
type_front (basic (number handle)) rest = (refl, refl)
type_front (basic string) rest = (refl, refl)
type_front (basic path) rest = (refl, refl)
type_front (basic signature) rest = (refl, refl)
type_front variant rest = (refl, refl)
type_front (array t) rest = (refl, refl)
type_front (struct t ts) rest = (refl, refl)
type_front (entry k t) rest = (refl, refl)

pub type_len : (t : Complete) → 0 < length (spelled_type t)
type_len (basic b) = omega arith
type_len variant = omega arith
type_len (array t) = omega arith
type_len (struct t ts) = omega (arith, length-append ((40 ∷ spelled_type t) ++ spelled_members ts) (41 ∷ []))
type_len (entry k t) = omega (arith, length-append ((123 ∷ spelled_type k) ++ spelled_type t) (125 ∷ []))

pub struct_regrouped : (t : Complete) (ts : Completes) (rest : List ℕ) → spelled_type (struct t ts) ++ rest ≡ 40 ∷ (spelled_type t ++ (spelled_members ts ++ 41 ∷ rest))
struct_regrouped t ts rest = append_assoc ((40 ∷ spelled_type t) ++ spelled_members ts) (41 ∷ []) rest ∙ append_assoc (40 ∷ spelled_type t) (spelled_members ts) (41 ∷ rest)

pub entry_regrouped : (k t : Complete) (rest : List ℕ) → spelled_type (entry k t) ++ rest ≡ 123 ∷ (spelled_type k ++ (spelled_type t ++ 125 ∷ rest))
entry_regrouped k t rest = append_assoc ((123 ∷ spelled_type k) ++ spelled_type t) (125 ∷ []) rest ∙ append_assoc (123 ∷ spelled_type k) (spelled_type t) (125 ∷ rest)

-- ---- numbers that fill an array

record Fills (w : ℕ) : Type 0 where
  few : (n : ℕ) → 0 < n → n < w → (n % w == 0) ≡ false
  less : (n : ℕ) → w ≤ n → (n - w) % w ≡ n % w
  place : (p : ℕ) → padding w p ≡ 0 → padding w (p + w) ≡ 0
  none : 0 % w ≡ 0
  some : 0 < w

fills_1 : Fills 1
fills_1 = record { few = λ n p l. absurd (omega (arith, p, l)); less = λ n l. omega arith; place = λ p e. omega arith; none = omega arith; some = omega arith }

fills_2 : Fills 2
fills_2 = record { few = λ n p l. ne_eqb (n % 2) 0 (λ e. omega (arith, p, l, e)); less = λ n l. omega (arith, l); place = λ p e. omega (arith, e); none = omega arith; some = omega arith }

fills_4 : Fills 4
fills_4 = record { few = λ n p l. ne_eqb (n % 4) 0 (λ e. omega (arith, p, l, e)); less = λ n l. omega (arith, l); place = λ p e. omega (arith, e); none = omega arith; some = omega arith }

fills_8 : Fills 8
fills_8 = record { few = λ n p l. ne_eqb (n % 8) 0 (λ e. omega (arith, p, l, e)); less = λ n l. omega (arith, l); place = λ p e. omega (arith, e); none = omega arith; some = omega arith }

fills : (n : Number) → Fills (byte_len (width n))
fills byte = fills_1
fills boolean = fills_4
fills int16 = fills_2
fills uint16 = fills_2
fills int32 = fills_4
fills uint32 = fills_4
fills int64 = fills_8
fills uint64 = fills_8
fills double = fills_8
fills handle = fills_4

at_1 : (p : ℕ) → padding 1 (p + padding 1 p) ≡ 0
at_1 p = omega arith

at_2 : (p : ℕ) → padding 2 (p + padding 2 p) ≡ 0
at_2 p = omega arith

at_4 : (p : ℕ) → padding 4 (p + padding 4 p) ≡ 0
at_4 p = omega arith

at_8 : (p : ℕ) → padding 8 (p + padding 8 p) ≡ 0
at_8 p = omega arith

-- after its padding no more is needed
pub aligned_place : (t : Complete) (p : ℕ) → padding (alignment t) (p + padding (alignment t) p) ≡ 0
aligned_place (basic (number byte)) p = at_1 p
aligned_place (basic (number boolean)) p = at_4 p
aligned_place (basic (number int16)) p = at_2 p
aligned_place (basic (number uint16)) p = at_2 p
aligned_place (basic (number int32)) p = at_4 p
aligned_place (basic (number uint32)) p = at_4 p
aligned_place (basic (number int64)) p = at_8 p
aligned_place (basic (number uint64)) p = at_8 p
aligned_place (basic (number double)) p = at_8 p
aligned_place (basic (number handle)) p = at_4 p
aligned_place (basic string) p = at_4 p
aligned_place (basic path) p = at_4 p
aligned_place (basic signature) p = at_1 p
aligned_place variant p = at_1 p
aligned_place (array t) p = at_4 p
aligned_place (struct t ts) p = at_8 p
aligned_place (entry k t) p = at_8 p

-- ---- containers

-- passing over values of less than this nesting depth
abbrev pub Walks : ℕ → Order → Type 0
Walks k o = (t : Complete) (rest : List ℕ) (at : At) → is_complete t ≡ true → AreBytes at.bytes → walk_within k o (spelled_type t ++ rest) at ≡ ends rest (value_within k o t at)

pub walk_nothing : (k : ℕ) (o : Order) (at : At) → walk_within k o [] at ≡ None
unfolding walk_within
walk_nothing zero o at = refl
walk_nothing (suc k) o at = refl

-- ---- numbers of one width

abbrev within_item : ℕ → Order → Number → At → Option (Value × At)
within_item k o n = element_at (value_within k o) (basic (number n))

abbrev none_taken : At → List ℕ × At
none_taken a = (take 0 a.bytes, record { place = a.place + 0; bytes = drop 0 a.bytes })

abbrev width_taken : ℕ → At → List ℕ × At
width_taken w a = (take w a.bytes, record { place = a.place + w; bytes = drop w a.bytes })

abbrev if_zeros : List ℕ × At → Option At
if_zeros x = when (all_zero x.0) x.1

-- there is a number if its bytes are there
number_stands : (o : Order) (j : ℕ) (n : Number) → IsFree n → (a : At) → AreBytes a.bytes → padding (byte_len (width n)) a.place ≡ 0
    → ended (within_item (suc j) o n a) ≡ when (nat_le (byte_len (width n)) (length a.bytes)) (record { place = a.place + byte_len (width n); bytes = drop (byte_len (width n)) a.bytes })
number_stands o j n free a h p = sym (number_ended o (value_within j o) n free a h) ∙ ap (λ (s : Option At). s >>= walk_bytes) there ∙ bytes (nat_le (byte_len (width n)) (length a.bytes))
  where
    walk_bytes : At → Option At
    walk_bytes b = some_bytes (byte_len (width n)) b >>= λ x. some x.1

    same_place : (q : ℕ) → q + 0 ≡ q
    same_place q = omega arith

    there : aligned (byte_len (width n)) a ≡ Some a
    there =
        ap (λ (m : ℕ). some_bytes m a >>= if_zeros) p
        ∙ ap (λ (b : Bool). when b (none_taken a) >>= if_zeros) (le-leb 0 (length a.bytes) (omega arith))
        ∙ ap (λ (q : ℕ). some {A = At} (record { place = q; bytes = a.bytes })) (same_place a.place)

    bytes : (b : Bool) → (when b (width_taken (byte_len (width n)) a) >>= λ x. some x.1) ≡ when b (record { place = a.place + byte_len (width n); bytes = drop (byte_len (width n)) a.bytes })
    bytes true = refl
    bytes false = refl

numbers_to_end : (o : Order) (j : ℕ) (n : Number) → IsFree n → (fuel : ℕ) (a : At) → length a.bytes < fuel → AreBytes a.bytes → padding (byte_len (width n)) a.place ≡ 0
    → is_some (to_the_end (within_item (suc j) o n) fuel a) ≡ (length a.bytes % byte_len (width n) == 0)
numbers_to_end o j n free zero a l h p = absurd (omega (arith, l))
numbers_to_end o j n free (suc fuel) a l h p = go (is_empty a.bytes) refl (numbers_to_end o j n free fuel)
  where
    valued : (v : Value) (xs : Option Values) → is_some (xs >>= λ ys. Some (value v ys)) ≡ is_some xs
    valued v None = refl
    valued v (Some xs) = refl

    others : Value × At → Option Values
    others x = to_the_end (within_item (suc j) o n) fuel x.1 >>= λ xs. Some (value x.0 xs)

    item : (b : Bool) → nat_le (byte_len (width n)) (length a.bytes) ≡ b → 0 < length a.bytes → (x : Option (Value × At)) → ended x ≡ when b (record { place = a.place + byte_len (width n); bytes = drop (byte_len (width n)) a.bytes })
        → ((b : At) → length b.bytes < fuel → AreBytes b.bytes → padding (byte_len (width n)) b.place ≡ 0 → is_some (to_the_end (within_item (suc j) o n) fuel b) ≡ (length b.bytes % byte_len (width n) == 0))
        → is_some (x >>= others) ≡ (length a.bytes % byte_len (width n) == 0)
    item true t pos None e ih = absurd cc
    item false t pos (Some x) e ih = absurd cc
    item false t pos None e ih = sym ((fills n).few (length a.bytes) pos (leb-false (byte_len (width n)) (length a.bytes) t))
    item true t pos (Some x) e ih =
        let w = byte_len (width n) in
        let next : At = record { place = a.place + w; bytes = drop w a.bytes } in
        let is : x.1 ≡ next = same_Some x.1 next e in
        let long : w ≤ length a.bytes = leb-true w (length a.bytes) t in
        valued x.0 (to_the_end (within_item (suc j) o n) fuel x.1)
        ∙ ap (λ (b : At). is_some (to_the_end (within_item (suc j) o n) fuel b)) is
        ∙ ih next (omega (arith, l, length-drop w a.bytes, (fills n).some, pos, long)) (AreBytes-drop w a.bytes h) ((fills n).place a.place p)
        ∙ ap (λ (m : ℕ). m % w == 0) (length-drop w a.bytes)
        ∙ ap (λ (m : ℕ). m == 0) ((fills n).less (length a.bytes) long)

    go : (d : Bool) → is_empty a.bytes ≡ d
        → ((b : At) → length b.bytes < fuel → AreBytes b.bytes → padding (byte_len (width n)) b.place ≡ 0 → is_some (to_the_end (within_item (suc j) o n) fuel b) ≡ (length b.bytes % byte_len (width n) == 0))
        → is_some (cond (is_empty a.bytes) (Some no_values) (within_item (suc j) o n a >>= others)) ≡ (length a.bytes % byte_len (width n) == 0)
    go true e ih =
        ap (λ (b : Bool). is_some (cond b (Some no_values) (within_item (suc j) o n a >>= others))) e
        ∙ sym (eq-eqb (length a.bytes % byte_len (width n)) 0 (ap (λ (m : ℕ). m % byte_len (width n)) (empty_len a.bytes e) ∙ (fills n).none))
    go false e ih =
        ap (λ (b : Bool). is_some (cond b (Some no_values) (within_item (suc j) o n a >>= others))) e
        ∙ item (nat_le (byte_len (width n)) (length a.bytes)) refl (not_empty_len a.bytes e) (within_item (suc j) o n a) (number_stands o j n free a h p) ih

pub numbers_filled : (o : Order) (k : ℕ) (n : Number) → IsFree n → (a : At) → AreBytes a.bytes → padding (byte_len (width n)) a.place ≡ 0
    → numbers_fill k (byte_len (width n)) a.bytes ≡ is_some (to_the_end (within_item k o n) (suc (length a.bytes)) a)
numbers_filled o zero n free a h p = none (is_empty a.bytes)
  where
    none : (b : Bool) → (b || (nat_lt 0 0 && (length a.bytes % byte_len (width n) == 0))) ≡ is_some (cond b (Some no_values) None)
    none true = refl
    none false = refl
numbers_filled o (suc j) n free a h p =
    ap (λ (b : Bool). is_empty a.bytes || (b && (length a.bytes % byte_len (width n) == 0))) (lt-ltb 0 (suc j) (omega arith))
    ∙ either (is_empty a.bytes) refl
    ∙ sym (numbers_to_end o j n free (suc (length a.bytes)) a (omega arith) h p)
  where
    either : (b : Bool) → is_empty a.bytes ≡ b → (b || (length a.bytes % byte_len (width n) == 0)) ≡ (length a.bytes % byte_len (width n) == 0)
    either true e = sym (eq-eqb (length a.bytes % byte_len (width n)) 0 (ap (λ (m : ℕ). m % byte_len (width n)) (empty_len a.bytes e) ∙ (fills n).none))
    either false e = refl
