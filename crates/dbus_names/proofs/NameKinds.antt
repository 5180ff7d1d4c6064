-- The kinds of bytes are those of the definitions of names.
use Rattle.std.proofs.Common.{◌≡◌, ℕ, ◌<◌, ◌≤◌, Bool, true, false, not, ◌&&◌, ◌||◌, List, [], ◌∷◌, length, refl, ap, ◌∙◌, sym, arith, inl, inr, nat_eq, nat_le, get_or}
use Rattle.std.specs.Char.{is_ascii_digit, is_ascii_alphanumeric}
use Rattle.std.specs.Int.{is_in_range}
use Rattle.std.specs.Prelude.{bit_and}
use Rattle.std.specs.List.{list_all}
use Rattle.std.proofs.lemmas.Bool.{cases_lt, agree_below_at, and_right, or_from, lt-leb, ne_eqb}
use Rattle.std.proofs.lemmas.List.{get_or_past}
use Rattle.dbus_names.specs.declared.TheConstants.{KINDS}
use Rattle.dbus_names.specs.Names.{parts_at, is_word_byte, is_bus_byte, is_element, is_bus_element, is_unique_element, is_path_element, are_two_joined}
use Rattle.dbus_names.specs.Elements.{is_among, is_element_of, are_two_elements}

-- past the bytes, which have no kind
past_range : (low high c : ℕ) → high < 256 → 256 ≤ c → is_in_range low high c ≡ false
past_range low high c h l = and_right (nat_le low c) (nat_le c high) (lt-leb c high (omega arith))

past_word : (c : ℕ) → 256 ≤ c → is_word_byte c ≡ false
past_word c l =
    or_from (is_ascii_alphanumeric c) (nat_eq c 95)
    (or_from (is_in_range 48 57 c || is_in_range 65 90 c) (is_in_range 97 122 c)
    (or_from (is_in_range 48 57 c) (is_in_range 65 90 c) (past_range 48 57 c (omega arith) l) (past_range 65 90 c (omega arith) l))
    (past_range 97 122 c (omega arith) l))
    (ne_eqb c 95 (λ e. omega arith))

pub past_bus : (c : ℕ) → 256 ≤ c → is_bus_byte c ≡ false
past_bus c l = or_from (is_word_byte c) (nat_eq c 45) (past_word c l) (ne_eqb c 45 (λ e. omega arith))

no_kind : (table : List ℕ) (kinds c : ℕ) → length table ≤ c → not (nat_eq (bit_and (get_or table c 0) kinds) 0) ≡ not (nat_eq (bit_and 0 kinds) 0)
no_kind table kinds c l = ap (λ n. not (nat_eq (bit_and n kinds) 0)) (get_or_past table c 0 l)

pub among_word : (c : ℕ) → is_among 3 c ≡ is_word_byte c
unfolding is_among
among_word c = elim (cases_lt c 256) [
  | inl l ↦ agree_below_at (λ x. is_among 3 x) is_word_byte 256 c refl l
  | inr l ↦ no_kind KINDS 3 c l ∙ sym (past_word c l)
]

pub among_any : (c : ℕ) → is_among 7 c ≡ is_bus_byte c
unfolding is_among
among_any c = elim (cases_lt c 256) [
  | inl l ↦ agree_below_at (λ x. is_among 7 x) is_bus_byte 256 c refl l
  | inr l ↦ no_kind KINDS 7 c l ∙ sym (past_bus c l)
]

pub among_letter : (c : ℕ) → is_among 1 c ≡ (not (is_ascii_digit c) && is_word_byte c)
unfolding is_among
among_letter c = elim (cases_lt c 256) [
  | inl l ↦ agree_below_at (λ x. is_among 1 x) (λ x. not (is_ascii_digit x) && is_word_byte x) 256 c refl l
  | inr l ↦ no_kind KINDS 1 c l ∙ sym (and_right (not (is_ascii_digit c)) (is_word_byte c) (past_word c l))
]

pub among_letter_or_dash : (c : ℕ) → is_among 5 c ≡ (not (is_ascii_digit c) && is_bus_byte c)
unfolding is_among
among_letter_or_dash c = elim (cases_lt c 256) [
  | inl l ↦ agree_below_at (λ x. is_among 5 x) (λ x. not (is_ascii_digit x) && is_bus_byte x) 256 c refl l
  | inr l ↦ no_kind KINDS 5 c l ∙ sym (and_right (not (is_ascii_digit c)) (is_bus_byte c) (past_bus c l))
]

pub list_all_same : {X : Type 0} (p q : X → Bool) → ((x : X) → p x ≡ q x) → (xs : List X) → list_all p xs ≡ list_all q xs
list_all_same p q h [] = refl
list_all_same p q h (x ∷ xs) = ap (λ b. b && list_all p xs) (h x) ∙ ap (λ b. q x && b) (list_all_same p q h xs)

and_assoc : (x y z : Bool) → ((x && y) && z) ≡ (x && (y && z))
and_assoc true y z = refl
and_assoc false y z = refl

same_element : (first rest : ℕ) (start byte : ℕ → Bool) → ((c : ℕ) → is_among first c ≡ (start c && byte c)) → ((c : ℕ) → is_among rest c ≡ byte c)
    → (c : ℕ) (text : List ℕ) → is_element_of first rest (c ∷ text) ≡ (start c && list_all byte (c ∷ text))
same_element first rest start byte f r c text =
    ap (λ b. b && list_all (is_among rest) text) (f c)
    ∙ ap (λ b. (start c && byte c) && b) (list_all_same (is_among rest) byte r text)
    ∙ and_assoc (start c) (byte c) (list_all byte text)

pub element-is : (text : List ℕ) → is_element_of 1 3 text ≡ is_element text
element-is [] = refl
element-is (c ∷ text) = same_element 1 3 (λ x. not (is_ascii_digit x)) is_word_byte among_letter among_word c text

pub bus_element-is : (text : List ℕ) → is_element_of 5 7 text ≡ is_bus_element text
bus_element-is [] = refl
bus_element-is (c ∷ text) = same_element 5 7 (λ x. not (is_ascii_digit x)) is_bus_byte among_letter_or_dash among_any c text

pub unique_element-is : (text : List ℕ) → is_element_of 7 7 text ≡ is_unique_element text
unique_element-is [] = refl
unique_element-is (c ∷ text) = same_element 7 7 (λ x. true) is_bus_byte among_any among_any c text

pub path_element-is : (text : List ℕ) → is_element_of 3 3 text ≡ is_path_element text
path_element-is [] = refl
path_element-is (c ∷ text) = same_element 3 3 (λ x. true) is_word_byte among_word among_word c text

two_joined : (first rest : ℕ) (element : List ℕ → Bool) → ((text : List ℕ) → is_element_of first rest text ≡ element text)
    → (text : List ℕ) → are_two_elements first rest text ≡ are_two_joined element text
unfolding are_two_elements
two_joined first rest element h text = ap (λ b. nat_le 2 (length (parts_at 46 text)) && b) (list_all_same (is_element_of first rest) element h (parts_at 46 text))

pub interface_elements : (text : List ℕ) → are_two_elements 1 3 text ≡ are_two_joined is_element text
interface_elements text = two_joined 1 3 is_element element-is text

pub bus_elements : (text : List ℕ) → are_two_elements 5 7 text ≡ are_two_joined is_bus_element text
bus_elements text = two_joined 5 7 is_bus_element bus_element-is text

pub unique_elements : (text : List ℕ) → are_two_elements 7 7 text ≡ are_two_joined is_unique_element text
unique_elements text = two_joined 7 7 is_unique_element unique_element-is text
