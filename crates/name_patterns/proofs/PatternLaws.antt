-- A pattern and the text that gives it.
use Rattle.std.proofs.Common.{◌≡◌, ℕ, Bool, true, false, ◌&&◌, nat_eq, nat_le, List, [], ◌∷◌, ◌++◌, length, codes, Option, Some, None, if◌then◌else◌, refl, ap, sym, ◌∙◌}
use Rattle.std.specs.List.{list_all, onto_first}
use Rattle.std.proofs.lemmas.Bool.{and_parts}
use Rattle.std.proofs.lemmas.Option.{same_Some}
use Rattle.dbus_names.specs.Names.{are_joined, is_bus_byte, is_bus_element, is_short, is_well_known, parts_at}
use Rattle.dbus_names.specs.Texts.{has_end, without_last}
use Rattle.dbus_names.proofs.Texts.{elements-bytes}
use Rattle.name_patterns.specs.Patterns.{Pattern, is_pattern, is_subtree_name, pattern_of, pattern_text}
use Rattle.name_patterns.proofs.PatternCuts.{at_end, ends}

-- what the tests on a text give
abbrev by_tests : List ℕ → Bool → Bool → Bool → Option Pattern
by_tests text starred below known =
    if starred
    then (if below then Some (record { name = without_last 2 text; exact = false }) else None)
    else (if known then Some (record { name = text; exact = true }) else None)

-- a pattern has the text that was read
pub pattern_of-is : (text : List ℕ) (p : Pattern) → pattern_of text ≡ Some p → pattern_text p ≡ text
pattern_of-is text p e = go (has_end (codes ".*") text) (is_subtree_name (without_last 2 text)) (is_well_known text) refl e
  where
    go : (starred below known : Bool) → has_end (codes ".*") text ≡ starred → by_tests text starred below known ≡ Some p → pattern_text p ≡ text
    go true true known h e = ap pattern_text (sym (same_Some (record { name = without_last 2 text; exact = false }) p e)) ∙ ends (codes ".*") text h
    go true false known h e = absurd cc
    go false below true h e = ap pattern_text (sym (same_Some (record { name = text; exact = true }) p e))
    go false below false h e = absurd cc

-- what is read is a pattern
pub is_pattern-of : (text : List ℕ) (p : Pattern) → pattern_of text ≡ Some p → is_pattern p ≡ true
is_pattern-of text p e = go (has_end (codes ".*") text) (is_subtree_name (without_last 2 text)) (is_well_known text) refl refl e
  where
    go : (starred below known : Bool) → is_subtree_name (without_last 2 text) ≡ below → is_well_known text ≡ known → by_tests text starred below known ≡ Some p → is_pattern p ≡ true
    go true true known h k e = ap is_pattern (sym (same_Some (record { name = without_last 2 text; exact = false }) p e)) ∙ h
    go true false known h k e = absurd cc
    go false below true h k e = ap is_pattern (sym (same_Some (record { name = text; exact = true }) p e)) ∙ k
    go false below false h k e = absurd cc

-- ---- no name ends in .*

star-parts : (front : List ℕ) → list_all (list_all is_bus_byte) (parts_at 46 (front ++ codes ".*")) ≡ false
star-parts [] = refl
star-parts (c ∷ front) = step (parts_at 46 (front ++ codes ".*")) (nat_eq c 46) (star-parts front)
  where
    one_more : (a b d : Bool) → (b && d) ≡ false → ((a && b) && d) ≡ false
    one_more true b d e = e
    one_more false b d e = refl

    step : (parts : List (List ℕ)) (b : Bool) → list_all (list_all is_bus_byte) parts ≡ false → list_all (list_all is_bus_byte) (if b then [] ∷ parts else onto_first c parts) ≡ false
    step parts true e = e
    step [] false e = absurd cc
    step (part ∷ parts) false e = one_more (is_bus_byte c) (list_all is_bus_byte part) (list_all (list_all is_bus_byte) parts) e

no-star : (name : List ℕ) → are_joined is_bus_element name ≡ true → has_end (codes ".*") name ≡ false
no-star name e = go (has_end (codes ".*") name) refl
  where
    go : (b : Bool) → has_end (codes ".*") name ≡ b → b ≡ false
    go false h = refl
    go true h =
        absurd (let impossible : false ≡ true =
        sym (star-parts (without_last 2 name)) ∙ ap (λ (t : List ℕ). list_all (list_all is_bus_byte) (parts_at 46 t)) (ends (codes ".*") name h)
        ∙ elements-bytes (parts_at 46 name) e in cc)

-- the text of a pattern is read as that pattern
pub pattern_of-text : (p : Pattern) → is_pattern p ≡ true → pattern_of (pattern_text p) ≡ Some p
pattern_of-text p e = go p.exact refl e
  where
    of : Bool → Pattern
    of exact = record { name = p.name; exact = exact }

    go : (b : Bool) → p.exact ≡ b → (if b then is_well_known p.name else is_subtree_name p.name) ≡ true → pattern_of (pattern_text p) ≡ Some p
    go true h e =
        let joined = (and_parts (nat_le 2 (length (parts_at 46 p.name))) (are_joined is_bus_element p.name) (and_parts (is_short p.name) _ e).1).1 in
        ap (λ (b : Bool). pattern_of (if b then p.name else p.name ++ codes ".*")) h
        ∙ ap (λ (b : Bool). by_tests p.name b (is_subtree_name (without_last 2 p.name)) (is_well_known p.name)) (no-star p.name joined)
        ∙ ap (by_tests p.name false (is_subtree_name (without_last 2 p.name))) e
        ∙ ap (λ (b : Bool). Some (of b)) (sym h)
    go false h e =
        let whole = p.name ++ codes ".*" in
        let both = at_end p.name (codes ".*") in
        ap (λ (b : Bool). pattern_of (if b then p.name else p.name ++ codes ".*")) h
        ∙ ap (λ (b : Bool). by_tests whole b (is_subtree_name (without_last 2 whole)) (is_well_known whole)) both.0
        ∙ ap (λ (n : List ℕ). if is_subtree_name n then Some (record { name = n; exact = false }) else None) both.1
        ∙ ap (λ (b : Bool). if b then Some (of false) else None) e
        ∙ ap (λ (b : Bool). Some (of b)) (sym h)
