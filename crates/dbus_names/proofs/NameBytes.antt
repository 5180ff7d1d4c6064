-- Names and paths are ASCII without NUL, and no well-known name is unique.
use Rattle.std.proofs.Common.{◌≡◌, ℕ, Bool, true, false, cond, not, ◌&&◌, List, [], ◌∷◌, refl, ap, ◌∙◌, sym, inl, inr, nat_eq, nat_le, length}
use Rattle.std.specs.List.{list_all, onto_first}
use Rattle.std.proofs.lemmas.Bool.{cases_lt, agree_below_at, and_parts, and_from, and_left, and_right, or_left, or_cases, eqb-true, not-true}
use Rattle.dbus_names.specs.Names.{is_ascii_text_byte, is_empty, is_short, begins_with_digit, parts_at, are_joined, are_two_joined, is_word_byte, is_bus_byte, is_element, is_bus_element, is_unique_element, is_path_element, is_interface, is_member, is_error_name, is_well_known, is_unique, is_bus_name, is_path}
use Rattle.dbus_names.proofs.NameKinds.{past_bus}

list_all_from : (p q : ℕ → Bool) → ((x : ℕ) → p x ≡ true → q x ≡ true) → (xs : List ℕ) → list_all p xs ≡ true → list_all q xs ≡ true
list_all_from p q h [] e = refl
list_all_from p q h (x ∷ xs) e =
    let both = and_parts (p x) (list_all p xs) e in
    and_from (q x) (list_all q xs) (h x both.0) (list_all_from p q h xs both.1)

-- ---- what holds of a separator and of the bytes of elements holds of all bytes that they join

module _ (test : ℕ → Bool) where
  byte_step : (separator c : ℕ) (text : List ℕ) (parts : List (List ℕ)) (b : Bool) → nat_eq c separator ≡ b → test separator ≡ true
      → (list_all (list_all test) parts ≡ true → list_all test text ≡ true)
      → list_all (list_all test) (cond b ([] ∷ parts) (onto_first c parts)) ≡ true → list_all test (c ∷ text) ≡ true
  byte_step separator c text parts true e t h a =
      and_from (test c) (list_all test text) (ap test (eqb-true c separator e) ∙ t) (h a)
  byte_step separator c text [] false e t h a =
      let both = and_parts (test c && true) true a in
      let first = and_parts (test c) true both.0 in
      and_from (test c) (list_all test text) first.0 (h refl)
  byte_step separator c text (part ∷ parts) false e t h a =
      let both = and_parts (test c && list_all test part) (list_all (list_all test) parts) a in
      let first = and_parts (test c) (list_all test part) both.0 in
      and_from (test c) (list_all test text) first.0 (h (and_from (list_all test part) (list_all (list_all test) parts) first.1 both.1))

  bytes_of_parts : (separator : ℕ) → test separator ≡ true → (text : List ℕ) → list_all (list_all test) (parts_at separator text) ≡ true → list_all test text ≡ true
  bytes_of_parts separator t [] a = refl
  bytes_of_parts separator t (c ∷ text) a =
      byte_step separator c text (parts_at separator text) (nat_eq c separator) refl t (bytes_of_parts separator t text) a

  parts_from : (element : List ℕ → Bool) → ((part : List ℕ) → element part ≡ true → list_all test part ≡ true)
      → (parts : List (List ℕ)) → list_all element parts ≡ true → list_all (list_all test) parts ≡ true
  parts_from element h [] a = refl
  parts_from element h (part ∷ parts) a =
      let both = and_parts (element part) (list_all element parts) a in
      and_from (list_all test part) (list_all (list_all test) parts) (h part both.0) (parts_from element h parts both.1)

  bytes_of_joined : (element : List ℕ → Bool) → ((part : List ℕ) → element part ≡ true → list_all test part ≡ true)
      → (separator : ℕ) → test separator ≡ true → (text : List ℕ) → list_all element (parts_at separator text) ≡ true → list_all test text ≡ true
  bytes_of_joined element h separator t text a = bytes_of_parts separator t text (parts_from element h (parts_at separator text) a)

  bytes_of_two_joined : (element : List ℕ → Bool) → ((part : List ℕ) → element part ≡ true → list_all test part ≡ true)
      → test 46 ≡ true → (text : List ℕ) → are_two_joined element text ≡ true → list_all test text ≡ true
  bytes_of_two_joined element h t text a = bytes_of_joined element h 46 t text (and_parts (nat_le 2 (length (parts_at 46 text))) (are_joined element text) a).1

-- ---- the bytes of elements

if_bus : (test : ℕ → Bool) → ((c : ℕ) → cond (is_bus_byte c) (test c) true ≡ true) → (c : ℕ) → is_bus_byte c ≡ true → test c ≡ true
if_bus test h c e = ap (λ b. cond b (test c) true) (sym e) ∙ h c

bus_is_ascii : (c : ℕ) → is_bus_byte c ≡ true → is_ascii_text_byte c ≡ true
bus_is_ascii c e = if_bus is_ascii_text_byte (λ x. elim (cases_lt x 256) [
  | inl l ↦ agree_below_at (λ y. cond (is_bus_byte y) (is_ascii_text_byte y) true) (λ y. true) 256 x refl l
  | inr l ↦ ap (λ b. cond b (is_ascii_text_byte x) true) (past_bus x l)
]) c e

bus_is_no_colon : (c : ℕ) → is_bus_byte c ≡ true → not (nat_eq c 58) ≡ true
bus_is_no_colon c e = if_bus (λ x. not (nat_eq x 58)) (λ x. elim (cases_lt x 256) [
  | inl l ↦ agree_below_at (λ y. cond (is_bus_byte y) (not (nat_eq y 58)) true) (λ y. true) 256 x refl l
  | inr l ↦ ap (λ b. cond b (not (nat_eq x 58)) true) (past_bus x l)
]) c e

word_is_ascii : (c : ℕ) → is_word_byte c ≡ true → is_ascii_text_byte c ≡ true
word_is_ascii c e = bus_is_ascii c (or_left (is_word_byte c) (nat_eq c 45) e)

element-ascii : (text : List ℕ) → is_element text ≡ true → list_all is_ascii_text_byte text ≡ true
element-ascii text e =
    list_all_from is_word_byte is_ascii_text_byte word_is_ascii text
    (and_parts (not (is_empty text) && not (begins_with_digit text)) (list_all is_word_byte text) e).1

bus_element_bytes : (test : ℕ → Bool) → ((c : ℕ) → is_bus_byte c ≡ true → test c ≡ true) → (text : List ℕ) → is_bus_element text ≡ true → list_all test text ≡ true
bus_element_bytes test h text e =
    list_all_from is_bus_byte test h text
    (and_parts (not (is_empty text) && not (begins_with_digit text)) (list_all is_bus_byte text) e).1

unique_element-ascii : (text : List ℕ) → is_unique_element text ≡ true → list_all is_ascii_text_byte text ≡ true
unique_element-ascii text e =
    list_all_from is_bus_byte is_ascii_text_byte bus_is_ascii text (and_parts (not (is_empty text)) (list_all is_bus_byte text) e).1

path_element-ascii : (text : List ℕ) → is_path_element text ≡ true → list_all is_ascii_text_byte text ≡ true
path_element-ascii text e =
    list_all_from is_word_byte is_ascii_text_byte word_is_ascii text (and_parts (not (is_empty text)) (list_all is_word_byte text) e).1

-- ---- names and paths

pub is_interface-ascii : (text : List ℕ) → is_interface text ≡ true → list_all is_ascii_text_byte text ≡ true
is_interface-ascii text e =
    bytes_of_two_joined is_ascii_text_byte is_element element-ascii refl text (and_parts (is_short text) (are_two_joined is_element text) e).1

pub is_error_name-ascii : (text : List ℕ) → is_error_name text ≡ true → list_all is_ascii_text_byte text ≡ true
is_error_name-ascii text e = is_interface-ascii text e

pub is_member-ascii : (text : List ℕ) → is_member text ≡ true → list_all is_ascii_text_byte text ≡ true
is_member-ascii text e = element-ascii text (and_parts (is_short text) (is_element text) e).1

pub is_well_known-ascii : (text : List ℕ) → is_well_known text ≡ true → list_all is_ascii_text_byte text ≡ true
is_well_known-ascii text e =
    bytes_of_two_joined is_ascii_text_byte is_bus_element (bus_element_bytes is_ascii_text_byte bus_is_ascii) refl text
    (and_parts (is_short text) (are_two_joined is_bus_element text) e).1

pub is_unique-ascii : (text : List ℕ) → is_unique text ≡ true → list_all is_ascii_text_byte text ≡ true
is_unique-ascii [] e = refl
is_unique-ascii (c ∷ text) e =
    let both = and_parts (is_short (c ∷ text) && nat_eq c 58) (are_two_joined is_unique_element text) e in
    let colon = eqb-true c 58 (and_parts (is_short (c ∷ text)) (nat_eq c 58) both.0).1 in
    and_from (is_ascii_text_byte c) (list_all is_ascii_text_byte text) (ap is_ascii_text_byte colon)
    (bytes_of_two_joined is_ascii_text_byte is_unique_element unique_element-ascii refl text both.1)

pub is_bus_name-ascii : (text : List ℕ) → is_bus_name text ≡ true → list_all is_ascii_text_byte text ≡ true
is_bus_name-ascii text e = elim (or_cases (is_well_known text) (is_unique text) e) [
  | inl known ↦ is_well_known-ascii text known
  | inr unique ↦ is_unique-ascii text unique
]

path_rest : (text : List ℕ) → (is_empty text ≡ true) → list_all is_ascii_text_byte text ≡ true
path_rest [] e = refl
path_rest (c ∷ text) e = cc

pub is_path-ascii : (text : List ℕ) → is_path text ≡ true → list_all is_ascii_text_byte text ≡ true
is_path-ascii [] e = refl
is_path-ascii (c ∷ text) e =
    let both = and_parts (nat_eq c 47) _ e in
    and_from (is_ascii_text_byte c) (list_all is_ascii_text_byte text) (ap is_ascii_text_byte (eqb-true c 47 both.0))
    (elim (or_cases (is_empty text) (list_all is_path_element (parts_at 47 text)) both.1) [
      | inl root ↦ path_rest text root
      | inr elements ↦ bytes_of_joined is_ascii_text_byte is_path_element path_element-ascii 47 refl text elements
    ])

-- elements of a well-known name, joined by dots, don't begin with a colon
pub joined-no_colon : (c : ℕ) (text : List ℕ) → are_joined is_bus_element (c ∷ text) ≡ true → nat_eq c 58 ≡ false
joined-no_colon c text e =
    let bytes = bytes_of_joined (λ x. not (nat_eq x 58)) is_bus_element (bus_element_bytes (λ x. not (nat_eq x 58)) bus_is_no_colon) 46 refl (c ∷ text) e in
    not-true (nat_eq c 58) (and_parts (not (nat_eq c 58)) (list_all (λ x. not (nat_eq x 58)) text) bytes).0

pub well_known_is_not_unique : (text : List ℕ) → is_well_known text ≡ true → is_unique text ≡ false
well_known_is_not_unique [] e = refl
well_known_is_not_unique (c ∷ text) e =
    let joined = (and_parts (nat_le 2 (length (parts_at 46 (c ∷ text)))) (are_joined is_bus_element (c ∷ text))
    (and_parts (is_short (c ∷ text)) (are_two_joined is_bus_element (c ∷ text)) e).1).1 in
    and_left (is_short (c ∷ text) && nat_eq c 58) (are_two_joined is_unique_element text) (and_right (is_short (c ∷ text)) (nat_eq c 58) (joined-no_colon c text joined))
