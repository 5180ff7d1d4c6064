-- What is spelled is read again: each signature has one spelling, and no two signatures share one.
use Rattle.std.proofs.Common.{◌≡◌, ℕ, List, [], ◌∷◌, ◌++◌, refl, sym, ap, ◌∙◌, append_assoc, Option, Some, None}
use Rattle.std.specs.Prelude.{option_map, option_and_then}
use Rattle.dbus_types.specs.Signature.{byte, boolean, int16, uint16, int32, uint32, int64, uint64, double, handle, Basic, number, string, path, signature, Complete, basic, variant, array, struct, entry, Completes, no_types, and, code, spelled_type, spelled_members, spelled_types, Open, outside, in_struct, in_entry, put, members, put_code, read_back, closed, types_of}

basic_back : (b : Basic) (r : Option Open) → option_and_then (put_code (code b)) r ≡ option_map (put (basic b)) r
basic_back b None = refl
basic_back (number byte) (Some o) = refl
basic_back (number boolean) (Some o) = refl
basic_back (number int16) (Some o) = refl
basic_back (number uint16) (Some o) = refl
basic_back (number int32) (Some o) = refl
basic_back (number uint32) (Some o) = refl
basic_back (number int64) (Some o) = refl
basic_back (number uint64) (Some o) = refl
basic_back (number double) (Some o) = refl
basic_back (number handle) (Some o) = refl
basic_back string (Some o) = refl
basic_back path (Some o) = refl
basic_back signature (Some o) = refl

array_back : (t : Complete) (r : Option Open) → option_and_then (put_code 97) (option_map (put t) r) ≡ option_map (put (array t)) r
array_back t None = refl
array_back t (Some (outside ts)) = refl
array_back t (Some (in_struct ts o)) = refl
array_back t (Some (in_entry ts o)) = refl

variant_back : (r : Option Open) → option_and_then (put_code 118) r ≡ option_map (put variant) r
variant_back None = refl
variant_back (Some o) = refl

-- types before those read so far, the first of them first
abbrev put_all : Completes → Open → Open
put_all no_types o = o
put_all (and t ts) o = put t (put_all ts o)

abbrev listed : Completes → List Complete
listed no_types = []
listed (and t ts) = t ∷ listed ts

members-listed : (ts : Completes) → members (listed ts) ≡ ts
members-listed no_types = refl
members-listed (and t ts) = ap (and t) (members-listed ts)

put_all-in_struct : (ts : Completes) (o : Open) → put_all ts (in_struct [] o) ≡ in_struct (listed ts) o
put_all-in_struct no_types o = refl
put_all-in_struct (and t ts) o = ap (put t) (put_all-in_struct ts o)

struct_back : (t : Complete) (ts : Completes) (r : Option Open) → option_and_then (put_code 40) (option_map (put t) (option_map (put_all ts) (option_and_then (put_code 41) r))) ≡ option_map (put (struct t ts)) r
struct_back t ts None = refl
struct_back t ts (Some o) =
    ap (λ (p : Open). put_code 40 (put t p)) (put_all-in_struct ts o) ∙ ap (λ (us : Completes). some (put (struct t us) o)) (members-listed ts)
  where
    some : Open → Option Open
    some p = Some p

entry_back : (k t : Complete) (r : Option Open) → option_and_then (put_code 123) (option_map (put k) (option_map (put t) (option_and_then (put_code 125) r))) ≡ option_map (put (entry k t)) r
entry_back k t None = refl
entry_back k t (Some o) = refl

unmapped : (r : Option Open) → r ≡ option_map (put_all no_types) r
unmapped None = refl
unmapped (Some o) = refl

mapped_twice : (t : Complete) (ts : Completes) (r : Option Open) → option_map (put t) (option_map (put_all ts) r) ≡ option_map (put_all (and t ts)) r
mapped_twice t ts None = refl
mapped_twice t ts (Some o) = refl

mutual
  type_back : (t : Complete) (rest : List ℕ) → read_back (spelled_type t ++ rest) ≡ option_map (put t) (read_back rest)
  type_back (basic b) rest = basic_back b (read_back rest)
  type_back variant rest = variant_back (read_back rest)
  type_back (array t) rest = ap (option_and_then (put_code 97)) (type_back t rest) ∙ array_back t (read_back rest)
  type_back (struct t ts) rest =
      ap read_back (append_assoc ((40 ∷ spelled_type t) ++ spelled_members ts) (41 ∷ []) rest ∙ append_assoc (40 ∷ spelled_type t) (spelled_members ts) (41 ∷ rest))
      ∙ ap (option_and_then (put_code 40)) (type_back t (spelled_members ts ++ 41 ∷ rest) ∙ ap (option_map (put t)) (members_back ts (41 ∷ rest)))
      ∙ struct_back t ts (read_back rest)
  type_back (entry k t) rest =
      ap read_back (append_assoc ((123 ∷ spelled_type k) ++ spelled_type t) (125 ∷ []) rest ∙ append_assoc (123 ∷ spelled_type k) (spelled_type t) (125 ∷ rest))
      ∙ ap (option_and_then (put_code 123)) (type_back k (spelled_type t ++ 125 ∷ rest) ∙ ap (option_map (put k)) (type_back t (125 ∷ rest)))
      ∙ entry_back k t (read_back rest)

  members_back : (ts : Completes) (rest : List ℕ) → read_back (spelled_members ts ++ rest) ≡ option_map (put_all ts) (read_back rest)
  members_back no_types rest = unmapped (read_back rest)
  members_back (and t ts) rest =
      ap read_back (append_assoc (spelled_type t) (spelled_members ts) rest)
      ∙ type_back t (spelled_members ts ++ rest)
      ∙ ap (option_map (put t)) (members_back ts rest)
      ∙ mapped_twice t ts (read_back rest)

types_back : (ts : List Complete) → read_back (spelled_types ts) ≡ Some (outside ts)
types_back [] = refl
types_back (t ∷ ts) = type_back t (spelled_types ts) ∙ ap (option_map (put t)) (types_back ts)

-- what is spelled is read again
pub types_of-spelled_types : (ts : List Complete) → types_of (spelled_types ts) ≡ Some ts
types_of-spelled_types ts = ap (option_and_then closed) (types_back ts)

abbrev found : List Complete → Option (List Complete)
found ts = Some ts

found_is : (ts us : List Complete) → found ts ≡ found us → ts ≡ us
found_is ts us e = cc

-- no two signatures have one spelling
pub spelled_types_is : (ts us : List Complete) → spelled_types ts ≡ spelled_types us → ts ≡ us
spelled_types_is ts us e = found_is ts us (sym (types_of-spelled_types ts) ∙ ap types_of e ∙ types_of-spelled_types us)

-- no type's spelling begins another's
pub spelled_type_front : (t u : Complete) (x y : List ℕ) (p q : Open) → read_back x ≡ Some p → read_back y ≡ Some q → spelled_type t ++ x ≡ spelled_type u ++ y → put t p ≡ put u q
spelled_type_front t u x y p q ex ey e = open_is (put t p) (put u q) (sym (type_back t x ∙ ap (option_map (put t)) ex) ∙ ap read_back e ∙ type_back u y ∙ ap (option_map (put u)) ey)
  where
    some : Open → Option Open
    some o = Some o

    open_is : (a b : Open) → some a ≡ some b → a ≡ b
    open_is a b h = cc
