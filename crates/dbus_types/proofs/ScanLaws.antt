-- The pass keeps of each tree what the limits ask for, and finds the fault that the trees have.
use Rattle.std.proofs.Common.{◌≡◌, ℕ, ◌≤◌, Bool, true, false, not, ◌&&◌, cond, nat_eq, nat_le, min, max, List, [], ◌∷◌, refl, sym, ap, ap₂, ◌∙◌, arith, inl, inr, Option, Some, None}
use Rattle.std.specs.Prelude.{option_map, option_and_then, slice_index}
use Rattle.std.specs.List.{list_all}
use Rattle.std.proofs.lemmas.Bool.{cases_lt, agree_below_at, eqb-true}
use Rattle.std.proofs.lemmas.Bool.Decides.{nat_tests}
use Rattle.std.proofs.lemmas.List.{get_or_past}
use Rattle.std.proofs.Math.Bool.{and-true}
use Rattle.byte_lists.proofs.Options.{some}
use Rattle.dbus_types.specs.Signature.{Basic as BasicOf, Complete, basic, variant, array, struct, entry, Completes, no_types, and, is_basic, is_complete, is_element_type, are_complete, arrays, arrays_of, structs, structs_of, is_shallow, Open, outside, in_struct, in_entry, put, put_array, put_struct, put_entry, put_code, members, basic_of, read_back, closed, types_of, fault_of_types}
use Rattle.dbus_types.specs.declared.BadSignature.{BadSignature}
use Rattle.dbus_types.specs.declared.BadSignature.TheVariants.{Depth, Form}
use Rattle.dbus_types.specs.declared.codes.Code.{Code}
use Rattle.dbus_types.specs.declared.codes.Code.TheVariants.{Array, StructStart, EntryStart}
use Rattle.dbus_types.specs.declared.codes.TheConstants.{CODES}
use Rattle.dbus_types.specs.declared.level.Kind.TheVariants.{BasicType, Container}
use Rattle.dbus_types.specs.declared.level.Count.{Count}
use Rattle.dbus_types.specs.declared.level.Count.TheVariants.{Nothing, One, Two, More}
use Rattle.dbus_types.specs.declared.level.Bracket.{Bracket}
use Rattle.dbus_types.specs.declared.level.Bracket.TheVariants.{Outside, Parentheses, Braces}
use Rattle.dbus_types.specs.declared.level.Shape.{Shape}
use Rattle.dbus_types.specs.declared.level.Level.{Level}
use Rattle.dbus_types.specs.Codes.{code_of, code_at}
use Rattle.dbus_types.specs.Scan.{is_entry, is_basic_type, flat_shape, array_shape, more, empty_level, with_type, all_types, with_array, array_by, shape_of_struct, struct_by, shape_of_entry, entry_by, Levels, with_last, step, scan_back, fault_of_levels}

-- ---- what the pass knows of trees

abbrev mutual
  shape_of : Complete → Shape
  shape_of (basic b) = flat_shape BasicType
  shape_of variant = flat_shape Container
  shape_of (array t) = array_shape (shape_of t)
  shape_of (struct t ts) = shape_of_struct (with_type (shape_of t) (members_level ts))
  shape_of (entry k t) = shape_of_entry (with_type (shape_of k) (with_type (shape_of t) (empty_level Braces)))

  members_level : Completes → Level
  members_level no_types = empty_level Parentheses
  members_level (and t ts) = with_type (shape_of t) (members_level ts)

abbrev level_of : Bracket → List Complete → Level
level_of b [] = empty_level b
level_of b (t ∷ ts) = with_type (shape_of t) (level_of b ts)

abbrev levels : Open → Levels
levels (outside ts) = (level_of Outside ts, [])
levels (in_struct ts o) = (level_of Parentheses ts, (levels o).0 ∷ (levels o).1)
levels (in_entry ts o) = (level_of Braces ts, (levels o).0 ∷ (levels o).1)

level_of-bracket : (b : Bracket) (ts : List Complete) → (level_of b ts).bracket ≡ b
level_of-bracket b [] = refl
level_of-bracket b (t ∷ ts) = level_of-bracket b ts

members-level : (ts : List Complete) → members_level (members ts) ≡ level_of Parentheses ts
members-level [] = refl
members-level (t ∷ ts) = ap (with_type (shape_of t)) (members-level ts)

levels-put : (t : Complete) (o : Open) → levels (put t o) ≡ (with_type (shape_of t) (levels o).0, (levels o).1)
levels-put t (outside ts) = refl
levels-put t (in_struct ts o) = refl
levels-put t (in_entry ts o) = refl

-- ---- each step of the pass

pub array_by-more : (n : Count) (l : Level) → array_by (more n) l ≡ some (with_array l)
array_by-more Nothing l = refl
array_by-more One l = refl
array_by-more Two l = refl
array_by-more More l = refl

abbrev with_outer : List Level → Option Level → Option Levels
with_outer ls o = option_map (λ l. (l, ls)) o

levels-array : (o : Open) → option_map levels (put_array o) ≡ step Array (levels o)
levels-array (outside []) = refl
levels-array (in_struct [] o) = refl
levels-array (in_entry [] o) = refl
levels-array (outside (t ∷ ts)) = sym (ap (with_outer []) (array_by-more (level_of Outside ts).count (level_of Outside (t ∷ ts))))
levels-array (in_struct (t ∷ ts) o) =
    sym (ap (with_outer ((levels o).0 ∷ (levels o).1)) (array_by-more (level_of Parentheses ts).count (level_of Parentheses (t ∷ ts))))
levels-array (in_entry (t ∷ ts) o) =
    sym (ap (with_outer ((levels o).0 ∷ (levels o).1)) (array_by-more (level_of Braces ts).count (level_of Braces (t ∷ ts))))

struct_by-more : (n : Count) (l : Level) → struct_by Parentheses (more n) l ≡ some (shape_of_struct l)
struct_by-more Nothing l = refl
struct_by-more One l = refl
struct_by-more Two l = refl
struct_by-more More l = refl

abbrev onto : List Level → Option Shape → Option Levels
onto ls made = option_and_then (λ t. with_last t ls) made

levels-struct : (o : Open) → option_map levels (put_struct o) ≡ step StructStart (levels o)
levels-struct (outside ts) = sym (ap (λ (b : Bracket). onto [] (struct_by b (level_of Outside ts).count (level_of Outside ts))) (level_of-bracket Outside ts))
levels-struct (in_entry ts o) =
    sym (ap (λ (b : Bracket). onto ((levels o).0 ∷ (levels o).1) (struct_by b (level_of Braces ts).count (level_of Braces ts))) (level_of-bracket Braces ts))
levels-struct (in_struct [] o) = refl
levels-struct (in_struct (t ∷ ts) o) =
    ap some (levels-put (struct t (members ts)) o)
    ∙ ap (λ (l : Level). some (with_type (shape_of_struct (with_type (shape_of t) l)) (levels o).0, (levels o).1)) (members-level ts)
    ∙ sym (ap (onto ((levels o).0 ∷ (levels o).1))
    (ap (λ (b : Bracket). struct_by b (more (level_of Parentheses ts).count) (level_of Parentheses (t ∷ ts))) (level_of-bracket Parentheses ts)
    ∙ struct_by-more (level_of Parentheses ts).count (level_of Parentheses (t ∷ ts))))

entry_by-more : (n : Count) (l : Level) → entry_by Braces (more (more (more n))) l ≡ None
entry_by-more Nothing l = refl
entry_by-more One l = refl
entry_by-more Two l = refl
entry_by-more More l = refl

levels-entry : (o : Open) → option_map levels (put_entry o) ≡ step EntryStart (levels o)
levels-entry (outside ts) = sym (ap (λ (b : Bracket). onto [] (entry_by b (level_of Outside ts).count (level_of Outside ts))) (level_of-bracket Outside ts))
levels-entry (in_struct ts o) =
    sym (ap (λ (b : Bracket). onto ((levels o).0 ∷ (levels o).1) (entry_by b (level_of Parentheses ts).count (level_of Parentheses ts))) (level_of-bracket Parentheses ts))
levels-entry (in_entry [] o) = refl
levels-entry (in_entry (k ∷ []) o) = refl
levels-entry (in_entry (k ∷ t ∷ []) o) = ap some (levels-put (entry k t) o)
levels-entry (in_entry (k ∷ t ∷ u ∷ ts) o) =
    sym (ap (onto ((levels o).0 ∷ (levels o).1))
    (ap (λ (b : Bracket). entry_by b (level_of Braces (k ∷ t ∷ u ∷ ts)).count (level_of Braces (k ∷ t ∷ u ∷ ts))) (level_of-bracket Braces ts)
    ∙ entry_by-more (level_of Braces ts).count (level_of Braces (k ∷ t ∷ u ∷ ts))))

-- ---- the codes by the table

abbrev basic_digit : Option BasicOf → ℕ
basic_digit None = 48
basic_digit (Some b) = 49

abbrev digit_of : ℕ → ℕ
digit_of c =
    cond (nat_eq c 97) 51 (cond (nat_eq c 118) 50 (cond (nat_eq c 41) 53 (cond (nat_eq c 40) 52 (cond (nat_eq c 125) 55 (cond (nat_eq c 123) 54 (basic_digit (basic_of c)))))))

past_digit : (c : ℕ) → 256 ≤ c → digit_of c ≡ 48
past_digit c h = grind (arith, nat_tests)

code_of-digit : (c : ℕ) → code_of c ≡ code_at (digit_of c)
unfolding code_of
code_of-digit c = elim (cases_lt c 256) [
  | inl l ↦ ap code_at (eqb-true (slice_index CODES c) (digit_of c) (agree_below_at (λ x. nat_eq (slice_index CODES x) (digit_of x)) (λ x. true) 256 c refl l))
  | inr l ↦ ap code_at (get_or_past CODES c 0 l) ∙ sym (ap code_at (past_digit c l))
]

-- one test of a chain
tested : (b : Bool) (x y : ℕ) (p q : Option Open) (s : Levels) → option_map levels p ≡ step (code_at x) s → option_map levels q ≡ step (code_at y) s
    → option_map levels (cond b p q) ≡ step (code_at (cond b x y)) s
tested true x y p q s h k = h
tested false x y p q s h k = k

levels-basic : (f : Option BasicOf) (o : Open) → option_map levels (option_map (λ b. put (basic b) o) f) ≡ step (code_at (basic_digit f)) (levels o)
levels-basic None o = refl
levels-basic (Some b) o = ap some (levels-put (basic b) o)

levels-code : (c : ℕ) (o : Open) → option_map levels (put_code c o) ≡ step (code_of c) (levels o)
levels-code c o =
    tested (nat_eq c 97) _ _ _ _ (levels o) (levels-array o)
    (tested (nat_eq c 118) _ _ _ _ (levels o) (ap some (levels-put variant o))
    (tested (nat_eq c 41) _ _ _ _ (levels o) refl
    (tested (nat_eq c 40) _ _ _ _ (levels o) (levels-struct o)
    (tested (nat_eq c 125) _ _ _ _ (levels o) refl
    (tested (nat_eq c 123) _ _ _ _ (levels o) (levels-entry o)
    (levels-basic (basic_of c) o))))))
    ∙ ap (λ (d : Code). step d (levels o)) (sym (code_of-digit c))

after : (c : ℕ) (r : Option Open) → option_and_then (step (code_of c)) (option_map levels r) ≡ option_map levels (option_and_then (put_code c) r)
after c None = refl
after c (Some o) = sym (levels-code c o)

scan_back-is : (bytes : List ℕ) → scan_back bytes ≡ option_map levels (read_back bytes)
scan_back-is [] = refl
scan_back-is (c ∷ bytes) = ap (option_and_then (step (code_of c))) (scan_back-is bytes) ∙ after c (read_back bytes)

-- ---- what the pass finds

basic_kind : (t : Complete) → is_basic_type (shape_of t).kind ≡ is_basic t
basic_kind (basic b) = refl
basic_kind variant = refl
basic_kind (array t) = refl
basic_kind (struct t ts) = refl
basic_kind (entry k t) = refl

abbrev stands : Shape → Bool
stands t = t.complete && not (is_entry t.kind)

mutual
  element-is : (t : Complete) → (shape_of t).complete ≡ is_element_type t
  element-is (basic b) = refl
  element-is variant = refl
  element-is (array t) = element-is t
  element-is (struct t ts) = ap₂ (λ (a b : Bool). a && b) (complete-is t) (members-are ts)
  element-is (entry k t) = ap₂ (λ (a b : Bool). a && b) (basic_kind k) (and-true (stands (shape_of t)) ∙ complete-is t)

  complete-is : (t : Complete) → stands (shape_of t) ≡ is_complete t
  complete-is (basic b) = refl
  complete-is variant = refl
  complete-is (array t) = and-true (shape_of t).complete ∙ element-is t
  complete-is (struct t ts) = and-true (shape_of (struct t ts)).complete ∙ ap₂ (λ (a b : Bool). a && b) (complete-is t) (members-are ts)
  complete-is (entry k t) = grind (arith)

  members-are : (ts : Completes) → (all_types (members_level ts)).complete ≡ are_complete ts
  members-are no_types = refl
  members-are (and t ts) = ap₂ (λ (a b : Bool). a && b) (complete-is t) (members-are ts)

mutual
  arrays-is : (t : Complete) → (shape_of t).arrays ≡ min (arrays t) 255
  arrays-is (basic b) = refl
  arrays-is variant = refl
  arrays-is (array t) = omega (arith, arrays-is t)
  arrays-is (struct t ts) = omega (arith, arrays-is t, arrays_of-is ts)
  arrays-is (entry k t) = omega (arith, arrays-is t)

  arrays_of-is : (ts : Completes) → (all_types (members_level ts)).arrays ≡ min (arrays_of ts) 255
  arrays_of-is no_types = refl
  arrays_of-is (and t ts) = omega (arith, arrays-is t, arrays_of-is ts)

mutual
  structs-is : (t : Complete) → (shape_of t).structs ≡ min (structs t) 255
  structs-is (basic b) = refl
  structs-is variant = refl
  structs-is (array t) = structs-is t
  structs-is (struct t ts) = omega (arith, structs-is t, structs_of-is ts)
  structs-is (entry k t) = omega (arith, structs-is t)

  structs_of-is : (ts : Completes) → (all_types (members_level ts)).structs ≡ min (structs_of ts) 255
  structs_of-is no_types = refl
  structs_of-is (and t ts) = omega (arith, structs-is t, structs_of-is ts)

level_complete : (b : Bracket) (ts : List Complete) → (all_types (level_of b ts)).complete ≡ list_all is_complete ts
level_complete b [] = refl
level_complete b (t ∷ ts) = ap₂ (λ (x y : Bool). x && y) (complete-is t) (level_complete b ts)

max_below : (a b c d : ℕ) → (nat_le (max a b) 32 && nat_le (max c d) 32) ≡ ((nat_le a 32 && nat_le c 32) && (nat_le b 32 && nat_le d 32))
max_below a b c d = grind (arith, nat_tests)

capped : (a : ℕ) → nat_le (min a 255) 32 ≡ nat_le a 32
capped a = grind (arith, nat_tests)

shallow-is : (t : Complete) → (nat_le (shape_of t).arrays 32 && nat_le (shape_of t).structs 32) ≡ is_shallow t
shallow-is t =
    ap₂ (λ (x y : Bool). x && y)
    (ap (λ (n : ℕ). nat_le n 32) (arrays-is t) ∙ capped (arrays t))
    (ap (λ (n : ℕ). nat_le n 32) (structs-is t) ∙ capped (structs t))

level_shallow : (b : Bracket) (ts : List Complete) → (nat_le (all_types (level_of b ts)).arrays 32 && nat_le (all_types (level_of b ts)).structs 32) ≡ list_all is_shallow ts
level_shallow b [] = refl
level_shallow b (t ∷ ts) =
    max_below (shape_of t).arrays (all_types (level_of b ts)).arrays (shape_of t).structs (all_types (level_of b ts)).structs
    ∙ ap₂ (λ (x y : Bool). x && y) (shallow-is t) (level_shallow b ts)

fault_by : Bool → Bool → Option BadSignature
fault_by a b = cond (not a) (some Form) (cond b None (some Depth))

fault-levels : (r : Option Open) → fault_of_levels (option_map levels r) ≡ fault_of_types (option_and_then closed r)
unfolding fault_by
fault-levels None = refl
fault-levels (Some (outside ts)) = ap₂ fault_by (level_complete Outside ts) (level_shallow Outside ts)
fault-levels (Some (in_struct ts o)) = refl
fault-levels (Some (in_entry ts o)) = refl

-- the pass finds the fault of the types
pub fault_of_levels-is : (bytes : List ℕ) → fault_of_levels (scan_back bytes) ≡ fault_of_types (types_of bytes)
fault_of_levels-is bytes = ap fault_of_levels (scan_back-is bytes) ∙ fault-levels (read_back bytes)
