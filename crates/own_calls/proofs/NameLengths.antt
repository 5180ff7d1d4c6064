-- A well-known name has three bytes or more.
use Rattle.std.proofs.Common.{◌≡◌, ℕ, suc, ◌+◌, ◌≤◌, Bool, true, false, cond, ◌==◌, nat_le, List, [], ◌∷◌, length, refl, arith}
use Rattle.std.specs.List.{list_all, onto_first, slice_split}
use Rattle.std.proofs.lemmas.Bool.{and_parts}
use Rattle.std.proofs.lemmas.Bool.Decides.{nat_tests}
use Rattle.dbus_names.specs.Names.{are_joined, are_two_joined, is_bus_element, is_short, is_well_known, parts_at}
use Rattle.dbus_names.specs.Texts.{Text}

abbrev total : List Text → ℕ
total [] = 0
total (part ∷ parts) = length part + total parts

longer : (c : ℕ) (parts : List Text) (n : ℕ) → total parts + length parts ≡ n + 1 → total (onto_first c parts) + length (onto_first c parts) ≡ suc n + 1
longer c [] n is = absurd (omega arith)
longer c (part ∷ parts) n is = omega arith

-- the parts, and the separators between them
parts-total : (separator : ℕ) (text : Text) → total (parts_at separator text) + length (parts_at separator text) ≡ length text + 1
parts-total separator [] = refl
parts-total separator (c ∷ text) = by (c == separator) (parts-total separator text)
  where
    others : List Text
    others = slice_split (λ b. b == separator) text

    by : (b : Bool) → total others + length others ≡ length text + 1 → total (cond b ([] ∷ others) (onto_first c others)) + length (cond b ([] ∷ others) (onto_first c others)) ≡ suc (length text) + 1
    by true is = omega (arith, is)
    by false is = longer c others (length text) is

each-some : (parts : List Text) → list_all is_bus_element parts ≡ true → length parts ≤ total parts
each-some [] all = omega arith
each-some ([] ∷ parts) all = absurd cc
each-some ((c ∷ part) ∷ parts) all =
    let others = each-some parts (and_parts (is_bus_element (c ∷ part)) (list_all is_bus_element parts) all).1 in omega arith

pub well-known-long : (name : Text) → is_well_known name ≡ true → 3 ≤ length name
well-known-long name is =
    let joined = (and_parts (is_short name) (are_two_joined is_bus_element name) is).1 in
    let parts = and_parts (nat_le 2 (length (parts_at 46 name))) (are_joined is_bus_element name) joined in
    let two : 2 ≤ length (parts_at 46 name) = grind (arith, nat_tests, parts.0) in
    omega (arith, two, each-some (parts_at 46 name) parts.1, parts-total 46 name)
