-- Counting brackets finds what follows a type.
use Rattle.std.proofs.Common.{◌≡◌, ℕ, zero, suc, ◌+◌, ◌-◌, ◌≤◌, ◌<◌, Bool, true, false, not, ◌&&◌, cond, nat_eq, List, [], ◌∷◌, ◌++◌, length, drop, get_or, refl, sym, ap, ◌∙◌, arith, append_assoc, add-one, drop-cons}
use Rattle.std.proofs.lemmas.Bool.{ne_eqb}
use Rattle.dbus_types.specs.Signature.{byte, boolean, int16, uint16, int32, uint32, int64, uint64, double, handle, Basic as BasicOf, number, string, path, signature, Complete, basic, variant, array, struct, entry, Completes, no_types, and, code, spelled_type, spelled_members}
use Rattle.dbus_types.specs.declared.codes.Code.{Code}
use Rattle.dbus_types.specs.declared.codes.Code.TheVariants.{Unknown, Basic, Variant, Array, StructStart, StructEnd, EntryStart, EntryEnd}
use Rattle.dbus_types.specs.Codes.{code_of, is_array}
use Rattle.dbus_types.specs.Behind.{open_after, behind}

-- what follows a type that ends, with this number of brackets open
abbrev ended : ℕ → List ℕ → List ℕ
ended n rest = cond (nat_eq n 0) rest (behind n rest)

basic_behind : (b : BasicOf) (rest : List ℕ) (n : ℕ) → behind n (code b ∷ rest) ≡ ended n rest
unfolding code_of
basic_behind (number byte) rest n = refl
basic_behind (number boolean) rest n = refl
basic_behind (number int16) rest n = refl
basic_behind (number uint16) rest n = refl
basic_behind (number int32) rest n = refl
basic_behind (number uint32) rest n = refl
basic_behind (number int64) rest n = refl
basic_behind (number uint64) rest n = refl
basic_behind (number double) rest n = refl
basic_behind (number handle) rest n = refl
basic_behind string rest n = refl
basic_behind path rest n = refl
basic_behind signature rest n = refl

variant_behind : (rest : List ℕ) (n : ℕ) → behind n (118 ∷ rest) ≡ ended n rest
unfolding code_of
variant_behind rest n = refl

array_behind : (bytes : List ℕ) (n : ℕ) → behind n (97 ∷ bytes) ≡ behind n bytes
unfolding code_of
array_behind bytes n = refl

inside : (n : ℕ) (rest : List ℕ) → ended (suc n) rest ≡ behind (suc n) rest
inside n rest = ap (λ b. cond b rest (behind (suc n) rest)) (ne_eqb (suc n) 0 (λ e. omega arith))

opened : (n : ℕ) (rest : List ℕ) → ended (n + 1) rest ≡ behind (suc n) rest
opened n rest = ap (λ m. ended m rest) (add-one n) ∙ inside n rest

struct_opened : (bytes : List ℕ) (n : ℕ) → behind n (40 ∷ bytes) ≡ behind (suc n) bytes
unfolding code_of
struct_opened bytes n = opened n bytes

entry_opened : (bytes : List ℕ) (n : ℕ) → behind n (123 ∷ bytes) ≡ behind (suc n) bytes
unfolding code_of
entry_opened bytes n = opened n bytes

one_less : (n : ℕ) → suc n - 1 ≡ n
one_less n = omega arith

struct_closed : (rest : List ℕ) (n : ℕ) → behind (suc n) (41 ∷ rest) ≡ ended n rest
unfolding code_of
struct_closed rest n = ap (λ m. ended m rest) (one_less n)

entry_closed : (rest : List ℕ) (n : ℕ) → behind (suc n) (125 ∷ rest) ≡ ended n rest
unfolding code_of
entry_closed rest n = ap (λ m. ended m rest) (one_less n)

mutual
  type_behind : (t : Complete) (rest : List ℕ) (n : ℕ) → behind n (spelled_type t ++ rest) ≡ ended n rest
  type_behind (basic b) rest n = basic_behind b rest n
  type_behind variant rest n = variant_behind rest n
  type_behind (array t) rest n = array_behind (spelled_type t ++ rest) n ∙ type_behind t rest n
  type_behind (struct t ts) rest n =
      ap (behind n) (append_assoc ((40 ∷ spelled_type t) ++ spelled_members ts) (41 ∷ []) rest ∙ append_assoc (40 ∷ spelled_type t) (spelled_members ts) (41 ∷ rest))
      ∙ struct_opened (spelled_type t ++ (spelled_members ts ++ 41 ∷ rest)) n
      ∙ type_behind t (spelled_members ts ++ 41 ∷ rest) (suc n)
      ∙ inside n (spelled_members ts ++ 41 ∷ rest)
      ∙ members_behind ts (41 ∷ rest) n
      ∙ struct_closed rest n
  type_behind (entry k t) rest n =
      ap (behind n) (append_assoc ((123 ∷ spelled_type k) ++ spelled_type t) (125 ∷ []) rest ∙ append_assoc (123 ∷ spelled_type k) (spelled_type t) (125 ∷ rest))
      ∙ entry_opened (spelled_type k ++ (spelled_type t ++ 125 ∷ rest)) n
      ∙ type_behind k (spelled_type t ++ 125 ∷ rest) (suc n)
      ∙ inside n (spelled_type t ++ 125 ∷ rest)
      ∙ type_behind t (125 ∷ rest) (suc n)
      ∙ inside n (125 ∷ rest)
      ∙ entry_closed rest n

  members_behind : (ts : Completes) (rest : List ℕ) (n : ℕ) → behind (suc n) (spelled_members ts ++ rest) ≡ behind (suc n) rest
  members_behind no_types rest n = refl
  members_behind (and t ts) rest n =
      ap (behind (suc n)) (append_assoc (spelled_type t) (spelled_members ts) rest)
      ∙ type_behind t (spelled_members ts ++ rest) (suc n)
      ∙ inside n (spelled_members ts ++ rest)
      ∙ members_behind ts rest n

pub type_in_front : (bytes : List ℕ) (t : Complete) (rest : List ℕ) → bytes ≡ spelled_type t ++ rest → behind 0 bytes ≡ rest
type_in_front bytes t rest e = ap (behind 0) e ∙ type_behind t rest 0

-- ---- by the loop

abbrev by_code : Code → ℕ → List ℕ → List ℕ
by_code code n rest = cond (not (is_array code) && nat_eq (open_after code n) 0) rest (behind (open_after code n) rest)

one_code : (bytes : List ℕ) (index n : ℕ) (code : Code) → index < length bytes → code ≡ code_of (get_or bytes index 0)
    → behind n (drop index bytes) ≡ by_code code n (drop (index + 1) bytes)
one_code bytes index n code h e =
    ap (behind n) (drop-cons bytes index 0 h ∙ ap (λ i. get_or bytes index 0 ∷ drop i bytes) (sym (add-one index)))
    ∙ ap (λ (k : Code). by_code k n (drop (index + 1) bytes)) (sym e)

ends : (code : Code) (n m : ℕ) (rest : List ℕ) → is_array code ≡ false → m ≡ open_after code n → m ≡ 0 → by_code code n rest ≡ rest
ends code n m rest a e z =
    ap (λ (b : Bool). cond (not b && nat_eq (open_after code n) 0) rest (behind (open_after code n) rest)) a
    ∙ ap (λ (k : ℕ). cond (nat_eq k 0) rest (behind k rest)) (sym e ∙ z)

goes_on : (code : Code) (n m : ℕ) (rest : List ℕ) → is_array code ≡ false → m ≡ open_after code n → (m ≡ 0 → ⊥) → by_code code n rest ≡ behind m rest
goes_on code n m rest a e z =
    ap (λ (b : Bool). cond (not b && nat_eq (open_after code n) 0) rest (behind (open_after code n) rest)) a
    ∙ ap (λ (k : ℕ). cond (nat_eq k 0) rest (behind k rest)) (sym e)
    ∙ ap (λ (b : Bool). cond b rest (behind m rest)) (ne_eqb m 0 z)

goes_on_in_array : (code : Code) (n m : ℕ) (rest : List ℕ) → is_array code ≡ true → m ≡ open_after code n → by_code code n rest ≡ behind m rest
goes_on_in_array code n m rest a e =
    ap (λ (b : Bool). cond (not b && nat_eq (open_after code n) 0) rest (behind (open_after code n) rest)) a
    ∙ ap (λ (k : ℕ). behind k rest) (sym e)

pub behind_ends : (bytes : List ℕ) (index n m : ℕ) (code : Code) → index < length bytes → code ≡ code_of (get_or bytes index 0)
    → is_array code ≡ false → m ≡ open_after code n → m ≡ 0 → behind n (drop index bytes) ≡ drop (index + 1) bytes
behind_ends bytes index n m code h e a o z = one_code bytes index n code h e ∙ ends code n m (drop (index + 1) bytes) a o z

pub behind_goes_on : (bytes : List ℕ) (index n m : ℕ) (code : Code) → index < length bytes → code ≡ code_of (get_or bytes index 0)
    → is_array code ≡ false → m ≡ open_after code n → (m ≡ 0 → ⊥) → behind n (drop index bytes) ≡ behind m (drop (index + 1) bytes)
behind_goes_on bytes index n m code h e a o z = one_code bytes index n code h e ∙ goes_on code n m (drop (index + 1) bytes) a o z

pub behind_in_array : (bytes : List ℕ) (index n m : ℕ) (code : Code) → index < length bytes → code ≡ code_of (get_or bytes index 0)
    → is_array code ≡ true → m ≡ open_after code n → behind n (drop index bytes) ≡ behind m (drop (index + 1) bytes)
behind_in_array bytes index n m code h e a o = one_code bytes index n code h e ∙ goes_on_in_array code n m (drop (index + 1) bytes) a o

none_left : (bytes : List ℕ) (index : ℕ) → length bytes ≤ index → drop index bytes ≡ []
none_left [] zero h = refl
none_left [] (suc i) h = refl
none_left (c ∷ bytes) zero h = absurd (omega arith)
none_left (c ∷ bytes) (suc i) h = none_left bytes i (omega arith)

pub behind_all : (bytes : List ℕ) (index n : ℕ) → length bytes ≤ index → behind n (drop index bytes) ≡ []
behind_all bytes index n h = ap (behind n) (none_left bytes index h)

pub grows : (code : Code) (n : ℕ) → open_after code n ≤ n + 1
grows Unknown n = omega arith
grows Basic n = omega arith
grows Variant n = omega arith
grows Array n = omega arith
grows StructStart n = omega arith
grows StructEnd n = omega arith
grows EntryStart n = omega arith
grows EntryEnd n = omega arith
