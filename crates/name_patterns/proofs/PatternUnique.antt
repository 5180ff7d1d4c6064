-- No pattern covers a unique name.
use Rattle.std.proofs.Common.{◌≡◌, ℕ, Bool, true, false, not, ◌&&◌, nat_eq, nat_le, List, [], ◌∷◌, ◌++◌, length, take, if◌then◌else◌, ap, ap₂, sym, ◌∙◌}
use Rattle.std.specs.Prelude.{◌||◌}
use Rattle.std.specs.Str.{bytes_eq}
use Rattle.std.proofs.Math.Bool.{and-false}
use Rattle.std.proofs.lemmas.Bool.{and_parts, eqb-false, eqb-true, ne_eqb}
use Rattle.dbus_names.specs.Names.{are_joined, are_two_joined, is_bus_element, is_short, is_unique, is_unique_element, is_well_known, parts_at}
use Rattle.dbus_names.specs.Texts.{begins_with}
use Rattle.dbus_names.proofs.NameBytes.{joined-no_colon}
use Rattle.name_patterns.specs.Patterns.{Pattern, covers, is_pattern, is_subtree_name}

-- what a pattern names is elements joined by dots
joined : (p : Pattern) → is_pattern p ≡ true → are_joined is_bus_element p.name ≡ true
joined p e = by p.exact e
  where
    by : (exact : Bool) → (if exact then is_well_known p.name else is_subtree_name p.name) ≡ true → are_joined is_bus_element p.name ≡ true
    by true e =
        (and_parts (nat_le 2 (length (parts_at 46 p.name))) (are_joined is_bus_element p.name)
        (and_parts (is_short p.name) (are_two_joined is_bus_element p.name) e).1).1
    by false e = (and_parts (is_short p.name) (are_joined is_bus_element p.name) e).1

-- a text with another first byte isn't covered
apart : (name : List ℕ) (exact : Bool) (d : ℕ) (text : List ℕ) → are_joined is_bus_element name ≡ true → d ≡ 58 →
    (bytes_eq (d ∷ text) name || (not exact && begins_with (name ++ 46 ∷ []) (d ∷ text))) ≡ false
apart [] exact d text e colon = absurd cc
apart (c ∷ name) exact d text e colon =
    let other : nat_eq c 58 ≡ false = joined-no_colon c name e in
    let first : nat_eq c d ≡ false = ap (nat_eq c) colon ∙ other in
    let turned : nat_eq d c ≡ false = ne_eqb d c (λ same. eqb-false c d first (sym same)) in
    ap₂ (λ a b. (a && bytes_eq text name) || (not exact && (b && bytes_eq (name ++ 46 ∷ []) (take (length (name ++ 46 ∷ [])) text)))) turned first
    ∙ and-false (not exact)

pub covers_no_unique : (p : Pattern) (name : List ℕ) → is_pattern p ≡ true → is_unique name ≡ true → covers p name ≡ false
covers_no_unique p [] e unique = absurd cc
covers_no_unique p (d ∷ text) e unique =
    let both = and_parts (is_short (d ∷ text) && nat_eq d 58) (are_two_joined is_unique_element text) unique in
    apart p.name p.exact d text (joined p e) (eqb-true d 58 (and_parts (is_short (d ∷ text)) (nat_eq d 58) both.0).1)
