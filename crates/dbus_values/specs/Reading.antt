-- Reading values from bytes: the value at a place, and what follows it.
use Rattle.std.specs.Prelude.{ℕ, zero, suc, ◌+◌, ◌^◌, Bool, true, ◌&&◌, ◌==◌, nat_le, nat_lt, List, [], ◌∷◌, length, take, drop, Option, Some, None, if◌then◌else◌}
use Rattle.std.specs.Int.{Width, w8, w32, byte_len, from_le_bytes, from_be_bytes}
use Rattle.dbus_names.specs.Names.{is_path, is_empty}
use Rattle.dbus_types.specs.Signature.{number, string, path, signature, Complete, basic, variant, array, struct, entry, Completes, no_types, and, signature_of}
use Rattle.dbus_values.specs.Values.{Value, a_number, a_string, a_path, a_signature, a_variant, an_array, a_struct, an_entry, Values, no_values, value, width, alignment, padding, is_text, limit}
use Rattle.dbus_values.specs.declared.Order.{Order}
use Rattle.dbus_values.specs.declared.Order.TheVariants.{Little, Big}

-- bytes, and the place of the first of them in the message
pub record At : Type 0 where
  pub place : ℕ
  pub bytes : List ℕ

-- the thing with which the bytes begin, and what follows it; none if they don't begin with such a thing
abbrev pub Read : Type 0 → Type 0
Read A = At → Option (A × At)

infixl 10 ◌>>=◌
abbrev pub ◌>>=◌ : {A B : Type 0} → Option A → (A → Option B) → Option B
None >>= f = None
(Some x) >>= f = f x

-- x if the test holds
abbrev pub when : {A : Type 0} → Bool → A → Option A
when test x = if test then Some x else None

-- ---- bytes

abbrev pub past : ℕ → At → At
past n at = record { place = at.place + n; bytes = drop n at.bytes }

abbrev pub some_bytes : ℕ → Read (List ℕ)
some_bytes n at = when (nat_le n (length at.bytes)) (take n at.bytes, past n at)

abbrev pub all_zero : List ℕ → Bool
all_zero [] = true
all_zero (b ∷ bytes) = b == 0 && all_zero bytes

-- past zero bytes up to the next multiple of n
abbrev pub aligned : ℕ → At → Option At
aligned n at = some_bytes (padding n at.place) at >>= λ x. when (all_zero x.0) x.1

abbrev pub number_of : Order → Width → List ℕ → ℕ
number_of Little w bytes = from_le_bytes w bytes
number_of Big w bytes = from_be_bytes w bytes

abbrev pub a_width : Order → Width → Read ℕ
a_width order w at = do
  x ← some_bytes (byte_len w) at
  Some (number_of order w x.0, x.1)

-- n bytes and one NUL
abbrev pub ended_by_nul : ℕ → Read (List ℕ)
ended_by_nul n at = do
  x ← some_bytes n at
  nul ← some_bytes 1 x.1
  when (all_zero nul.0) (x.0, nul.1)

-- a u32 length, the bytes, one NUL
abbrev pub text_at : Order → Read (List ℕ)
text_at order at = do
  start ← aligned 4 at
  n ← a_width order w32 start
  x ← ended_by_nul n.0 n.1
  when (is_text x.0) x

abbrev pub signature_at : Read (List Complete)
signature_at at = do
  n ← a_width Little w8 at
  x ← ended_by_nul n.0 n.1
  ts ← signature_of x.0
  Some (ts, x.1)

-- ---- values

-- values one after the other up to the end of the bytes, at most this many
abbrev pub to_the_end : Read Value → ℕ → At → Option Values
to_the_end item zero at = None
to_the_end item (suc n) at = if is_empty at.bytes then Some no_values else (item at >>= λ x. to_the_end item n x.1 >>= λ xs. Some (value x.0 xs))

-- a value of each type
abbrev pub each_of : (Complete → Read Value) → Completes → Read Values
each_of one no_types at = Some (no_values, at)
each_of one (and t ts) at = do
  x ← one t at
  xs ← each_of one ts x.1
  Some (value x.0 xs.0, xs.1)

abbrev pub one_type : List Complete → Option Complete
one_type (t ∷ []) = Some t
one_type _ = None

-- an array's element; `inner` reads the values inside
abbrev pub element_at : (Complete → Read Value) → Complete → Read Value
element_at inner (entry k t) at = do
  start ← aligned 8 at
  x ← inner k start
  y ← inner t x.1
  Some (an_entry x.0 y.0, y.1)
element_at inner t at = inner t at

-- a value; `inner` reads the values inside
abbrev pub value_by : Order → (Complete → Read Value) → Complete → Read Value
value_by order inner (basic (number n)) at = do
  start ← aligned (byte_len (width n)) at
  x ← a_width order (width n) start
  when (nat_lt x.0 (limit n)) (a_number n x.0, x.1)
value_by order inner (basic string) at = do
  x ← text_at order at
  Some (a_string x.0, x.1)
value_by order inner (basic path) at = do
  x ← text_at order at
  when (is_path x.0) (a_path x.0, x.1)
value_by order inner (basic signature) at = do
  x ← signature_at at
  Some (a_signature x.0, x.1)
value_by order inner variant at = do
  ts ← signature_at at
  t ← one_type ts.0
  x ← inner t ts.1
  Some (a_variant x.0, x.1)
value_by order inner (array t) at = do
  start ← aligned 4 at
  n ← a_width order w32 start
  first ← aligned (alignment t) n.1
  x ← some_bytes n.0 first
  vs ← to_the_end (element_at inner t) (suc n.0) (record { place = first.place; bytes = x.0 })
  when (nat_le n.0 (2 ^ 26)) (an_array t vs, x.1)
value_by order inner (struct t ts) at = do
  start ← aligned 8 at
  x ← inner t start
  xs ← each_of inner ts x.1
  Some (a_struct x.0 xs.0, xs.1)
value_by order inner (entry k t) at = None

-- a value whose nesting depth of containers is less than this number
abbrev pub value_within : ℕ → Order → Complete → Read Value
value_within zero order t at = None
value_within (suc n) order t at = value_by order (value_within n order) t at

-- a value within the limit of 64 containers
abbrev pub value_at : Order → Complete → Read Value
value_at order t at = value_within 65 order t at

-- the first thing and then the others, if it is there; else none of them
abbrev pub and_then_all : {A : Type 0} → Option (A × At) → At → (A → At → List A × At) → List A × At
and_then_all None at others = ([], at)
and_then_all (Some x) at others = let rest = others x.0 x.1 in (x.0 ∷ rest.0, rest.1)

-- values of the types one after the other, as many as are there, and what follows them
abbrev pub values_at : Order → List Complete → At → List Value × At
values_at order [] at = ([], at)
values_at order (t ∷ ts) at = and_then_all (value_at order t at) at (λ v rest. values_at order ts rest)
