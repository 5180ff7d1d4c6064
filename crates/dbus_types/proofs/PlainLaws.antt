-- Types without brackets are within the limits.
use Rattle.std.proofs.Common.{◌≡◌, ℕ, ◌+◌, ◌≤◌, ◌<◌, Bool, true, false, not, ◌&&◌, cond, nat_le, nat_lt, length, List, [], ◌∷◌, refl, sym, ap, subst, ◌∙◌, arith, Option, Some, None}
use Rattle.std.specs.Prelude.{option_and_then, option_map}
use Rattle.std.proofs.lemmas.Bool.{and_parts, eqb-true, ltb-true, le-leb, le-ltb}
use Rattle.dbus_types.specs.Signature.{fault_of_types, signature_fault, types_of}
use Rattle.dbus_types.specs.declared.BadSignature.{BadSignature}
use Rattle.dbus_types.specs.declared.BadSignature.TheVariants.{TooLong, Depth, Form}
use Rattle.dbus_types.specs.declared.codes.Code.{Code}
use Rattle.dbus_types.specs.declared.codes.Code.TheVariants.{Unknown, Basic, Variant, Array, StructStart, StructEnd, EntryStart, EntryEnd}
use Rattle.dbus_types.specs.declared.level.Count.{Count}
use Rattle.dbus_types.specs.declared.level.Count.TheVariants.{Nothing, One, Two, More}
use Rattle.dbus_types.specs.declared.level.Kind.{Kind}
use Rattle.dbus_types.specs.declared.level.Kind.TheVariants.{BasicType, Container}
use Rattle.dbus_types.specs.declared.level.Bracket.TheVariants.{Outside}
use Rattle.dbus_types.specs.declared.level.Others.{Others}
use Rattle.dbus_types.specs.declared.level.Level.{Level}
use Rattle.dbus_types.specs.Codes.{code_of}
use Rattle.dbus_types.specs.Scan.{Levels, is_entry, flat_shape, with_type, with_array, array_by, array_in, all_types, empty_level, step, scan_back, fault_of_all, fault_of_levels}
use Rattle.dbus_types.specs.Plain.{plain_by, is_plain}
use Rattle.dbus_types.proofs.ScanLaws.{fault_of_levels-is, array_by-more}

abbrev levels_alone : Level → Levels
levels_alone l = (l, [])

-- a level without fault, after this number of arrays
record Fits (arrays : ℕ) (l : Level) : Type 0 where
  complete : (all_types l).complete ≡ true
  first : arrays + l.first.arrays ≤ 32
  others : l.others.arrays ≤ 32
  structs : (all_types l).structs ≡ 0
  element : 0 < arrays → array_in l ≡ Some (with_array l)

abbrev Scanned : ℕ → List ℕ → Type 0
Scanned arrays bytes = (l : Level) × ((scan_back bytes ≡ Some (l, [])) × Fits arrays l)

single : (k : Kind) → is_entry k ≡ false → (arrays : ℕ) (l : Level) → arrays ≤ 32 → Fits 0 l → Fits arrays (with_type (flat_shape k) l)
single k e arrays l h f = record {
  complete = ap (λ b. not b && (all_types l).complete) e ∙ f.complete;
  first = omega arith;
  others = omega (arith, f.first, f.others);
  structs = omega (arith, f.structs);
  element = λ p. array_by-more l.count (with_type (flat_shape k) l);
}

array_again : (n : Count) (l m : Level) → array_by n l ≡ Some (with_array l) → array_by n m ≡ Some (with_array m)
array_again Nothing l m e = cc
array_again One l m e = refl
array_again Two l m e = refl
array_again More l m e = refl

element_complete : (a b c : Bool) → ((a && b) && c) ≡ true → ((a && true) && c) ≡ true
element_complete true true c e = e
element_complete true false c e = cc
element_complete false b c e = e

in_array : (arrays : ℕ) (l : Level) → Fits (arrays + 1) l → Fits arrays (with_array l)
in_array arrays l f = record {
  complete = element_complete l.first.complete (not (is_entry l.first.kind)) l.others.complete f.complete;
  first = omega (arith, f.first);
  others = f.others;
  structs = f.structs;
  element = λ p. array_again l.count l (with_array l) (f.element (omega arith));
}

empty_fits : Fits 0 (empty_level Outside)
empty_fits = record {
  complete = refl;
  first = omega arith;
  others = omega arith;
  structs = refl;
  element = λ p. absurd (omega arith);
}

stepped : (c : ℕ) (bytes : List ℕ) (l : Level) (k : Code) → code_of c ≡ k → scan_back bytes ≡ Some (l, []) → scan_back (c ∷ bytes) ≡ step k (l, [])
stepped c bytes l k e was = ap (option_and_then (step (code_of c))) was ∙ ap (λ (d : Code). step d (l, [])) e

in_limit : (arrays : ℕ) (b : Bool) → cond (nat_lt arrays 32) b false ≡ true → (arrays < 32) × (b ≡ true)
in_limit arrays b p =
    let both = and_parts (nat_lt arrays 32) b (same (nat_lt arrays 32) b ∙ p) in
    (ltb-true arrays 32 both.0, both.1)
  where
    same : (a b : Bool) → (a && b) ≡ cond a b false
    same true b = refl
    same false b = refl

plain_step : (c : ℕ) (bytes : List ℕ) (arrays : ℕ) → arrays ≤ 32 → (k : Code) → code_of c ≡ k
    → (is_plain 0 bytes ≡ true → Scanned 0 bytes) → (arrays + 1 ≤ 32 → is_plain (arrays + 1) bytes ≡ true → Scanned (arrays + 1) bytes)
    → plain_by k arrays (is_plain 0 bytes) (is_plain (arrays + 1) bytes) ≡ true → Scanned arrays (c ∷ bytes)
plain_step c bytes arrays h Basic e now later p =
    let s = now p in (with_type (flat_shape BasicType) s.0, (stepped c bytes s.0 Basic e s.1.0, single BasicType refl arrays s.0 h s.1.1))
plain_step c bytes arrays h Variant e now later p =
    let s = now p in (with_type (flat_shape Container) s.0, (stepped c bytes s.0 Variant e s.1.0, single Container refl arrays s.0 h s.1.1))
plain_step c bytes arrays h Array e now later p =
    let limit = in_limit arrays (is_plain (arrays + 1) bytes) p in
    let s = later (omega (arith, limit.0)) limit.1 in (
      with_array s.0,
      (
        stepped c bytes s.0 Array e s.1.0 ∙ ap (λ (o : Option Level). option_map (λ l. levels_alone l) o) (s.1.1.element (omega arith)),
        in_array arrays s.0 s.1.1,
      ),
    )
plain_step c bytes arrays h Unknown e now later p = cc
plain_step c bytes arrays h StructStart e now later p = cc
plain_step c bytes arrays h StructEnd e now later p = cc
plain_step c bytes arrays h EntryStart e now later p = cc
plain_step c bytes arrays h EntryEnd e now later p = cc

plain_scanned : (bytes : List ℕ) (arrays : ℕ) → arrays ≤ 32 → is_plain arrays bytes ≡ true → Scanned arrays bytes
plain_scanned [] arrays h p =
    let none : arrays ≡ 0 = eqb-true arrays 0 p in
    (empty_level Outside, (refl, subst (λ n. Fits n (empty_level Outside)) (sym none) empty_fits))
plain_scanned (c ∷ bytes) arrays h p =
    plain_step c bytes arrays h (code_of c) refl (plain_scanned bytes 0 (omega arith)) (plain_scanned bytes (arrays + 1)) p

faultless : (all : Others) → all.complete ≡ true → all.arrays ≤ 32 → all.structs ≡ 0 → fault_of_all all ≡ None
faultless all c a s =
    ap (λ b. cond (not b) (some Form) (cond (nat_le all.arrays 32 && nat_le all.structs 32) None (some Depth))) c
    ∙ ap (λ b. cond (b && nat_le all.structs 32) None (some Depth)) (le-leb all.arrays 32 a)
    ∙ ap (λ (n : ℕ). cond (nat_le n 32) None (some Depth)) s
  where
    some : BadSignature → Option BadSignature
    some x = Some x

-- types with no brackets have no fault
plain_is_faultless : (bytes : List ℕ) → is_plain 0 bytes ≡ true → fault_of_types (types_of bytes) ≡ None
plain_is_faultless bytes p =
    let s = plain_scanned bytes 0 (omega arith) p in
    sym (fault_of_levels-is bytes) ∙ ap fault_of_levels s.1.0 ∙ faultless (all_types s.0) s.1.1.complete (omega (arith, s.1.1.first, s.1.1.others)) s.1.1.structs

pub plain_signature : (bytes : List ℕ) → length bytes ≤ 255 → is_plain 0 bytes ≡ true → None ≡ signature_fault bytes
plain_signature bytes h p =
    sym (ap (λ b. cond b (Some TooLong) (fault_of_types (types_of bytes))) (le-ltb 255 (length bytes) h) ∙ plain_is_faultless bytes p)
