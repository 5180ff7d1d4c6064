-- What the tests on bytes find is what the definitions of names say.
use Rattle.std.proofs.Common.{◌≡◌, ℕ, ◌-◌, ◌≤◌, Bool, true, false, cond, ◌&&◌, ◌||◌, List, [], ◌∷◌, length, take, drop, get_or, refl, ap, ◌∙◌, sym, arith, nat_eq}
use Rattle.std.specs.Prelude.{Some, None, is_some}
use Rattle.std.specs.List.{list_all}
use Rattle.std.proofs.lemmas.Bool.{le-leb, eq-eqb}
use Rattle.std.proofs.lemmas.List.{take_all}
use Rattle.byte_lists.proofs.Bytes.{not_empty}
use Rattle.dbus_names.specs.Names.{parts_at, is_empty, is_short, is_interface, is_member, is_well_known, is_unique, is_path, is_unique_element, is_path_element, are_two_joined}
use Rattle.dbus_names.specs.Elements.{is_among, is_element_of, element_count, are_two_elements}
use Rattle.dbus_names.proofs.NameKinds.{list_all_same, element-is, path_element-is, interface_elements, bus_elements, unique_elements}

-- a text by its first byte and the others
pub first_and_others : (text : List ℕ) → 1 ≤ length text → text ≡ get_or text 0 0 ∷ take (length text - 1) (drop 1 text)
first_and_others [] l = absurd (omega arith)
first_and_others (c ∷ text) l = ap (λ t. c ∷ t) (sym (take_all (length (c ∷ text) - 1) text (omega arith)))

pub element_from : (first rest : ℕ) (text : List ℕ) (c : ℕ) (others : List ℕ) → text ≡ c ∷ others → is_among first c ≡ true
    → list_all (is_among rest) others ≡ is_element_of first rest text
element_from first rest text c others e h = ap (λ b. b && list_all (is_among rest) others) (sym h) ∙ sym (ap (is_element_of first rest) e)

short_and : (text : List ℕ) (b : Bool) → length text ≤ 255 → b ≡ (is_short text && b)
short_and text b l = ap (λ s. s && b) (sym (le-leb (length text) 255 l))

pub interface_from : (text : List ℕ) → length text ≤ 255 → are_two_elements 1 3 text ≡ is_interface text
interface_from text l = interface_elements text ∙ short_and text _ l

pub well_known_from : (text : List ℕ) → length text ≤ 255 → are_two_elements 5 7 text ≡ is_well_known text
well_known_from text l = bus_elements text ∙ short_and text _ l

pub member_from : (text : List ℕ) → length text ≤ 255 → is_element_of 1 3 text ≡ is_member text
member_from text l = element-is text ∙ short_and text _ l

three_and : (x y z : Bool) → x ≡ true → y ≡ true → z ≡ ((x && y) && z)
three_and x y z h k = ap (λ b. (b && true) && z) (sym h) ∙ ap (λ b. (x && b) && z) (sym k)

pub unique_from : (text : List ℕ) (c : ℕ) (others : List ℕ) → text ≡ c ∷ others → c ≡ 58 → length text ≤ 255
    → are_two_elements 7 7 others ≡ is_unique text
unique_from text c others e h l =
    unique_elements others
    ∙ three_and (is_short (c ∷ others)) (nat_eq c 58) (are_two_joined is_unique_element others)
    (le-leb (length (c ∷ others)) 255 (omega (arith, ap length e))) (eq-eqb c 58 h)
    ∙ sym (ap is_unique e)

some_of : (b : Bool) (n : ℕ) → is_some (cond b (Some n) None) ≡ b
some_of true n = refl
some_of false n = refl

path_elements : (text : List ℕ) → is_some (element_count 3 3 47 text) ≡ list_all is_path_element (parts_at 47 text)
unfolding element_count
path_elements text =
    some_of (list_all (is_element_of 3 3) (parts_at 47 text)) (length (parts_at 47 text))
    ∙ list_all_same (is_element_of 3 3) is_path_element path_element-is (parts_at 47 text)

pub path_from : (text : List ℕ) (c : ℕ) (others : List ℕ) → text ≡ c ∷ others → c ≡ 47 → 2 ≤ length text
    → is_some (element_count 3 3 47 others) ≡ is_path text
path_from text c others e h l =
    path_elements others
    ∙ ap (λ b. b || list_all is_path_element (parts_at 47 others)) (sym (not_empty others (omega (arith, ap length e))))
    ∙ ap (λ b. b && (is_empty others || list_all is_path_element (parts_at 47 others))) (sym (eq-eqb c 47 h))
    ∙ sym (ap is_path e)
