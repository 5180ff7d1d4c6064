-- The body of a message of signature `as`: an array of strings.
use Rattle.std.proofs.Common.{◌≡◌, ℕ, ◌+◌, true, ◌&&◌, ◌%◌, List, [], ◌∷◌, ◌++◌, length, map, Some, codes, replicate, refl, ap, ap₂, sym, subst, ◌∙◌, arith, append-nil}
use Rattle.std.proofs.lemmas.Bool.{and_parts}
use Rattle.dbus_names.specs.Texts.{Text}
use Rattle.dbus_types.specs.Signature.{Complete, basic, string, array, spelled_type}
use Rattle.dbus_types.proofs.SignatureLaws.{spelled_types_is}
use Rattle.dbus_values.specs.Bodies.{IsBody, list_in, strings}
use Rattle.dbus_values.specs.Values.{Value, a_number, a_string, a_path, a_signature, a_variant, an_array, a_struct, an_entry, Values, no_values, value, values_of, type_of, has_type, have_type, is_value, are_values, is_within, elements_place, number_bytes, spelled, padding}
use Rattle.std.specs.Int.{w32}
use Rattle.name_filters.specs.Names.{names_bytes}
use Rattle.byte_lists.proofs.Bytes.{bytes_eq-true}
use Rattle.dbus_values.specs.declared.Order.{Order}
use Rattle.dbus_header.specs.Contents.{body_bytes}
use Rattle.dbus_header.specs.Message.{Message, Valid, are_valid, body_place, signature, spelled_fields, spelled_list, string_values, text_list}
use Rattle.dbus_header.proofs.MessageBodies.{body-is, place_of_body}

abbrev pub names_array : List Text → Value
names_array names = an_array (basic string) (values_of (string_values names))

-- ---- an array of strings

is_string : (t : Complete) → spelled_type (basic string) ≡ spelled_type t → t ≡ basic string
is_string t e =
    let same : t ∷ [] ≡ basic string ∷ [] = spelled_types_is (t ∷ []) (basic string ∷ []) (ap (λ s. s ++ []) (sym e)) in cc

string_of : (v : Value) → type_of v ≡ basic string → (text : Text) × (v ≡ a_string text)
string_of (a_number n x) e = absurd cc
string_of (a_string text) e = (text, refl)
string_of (a_path text) e = absurd cc
string_of (a_signature ts) e = absurd cc
string_of (a_variant v) e = absurd cc
string_of (an_array t vs) e = absurd cc
string_of (a_struct v vs) e = absurd cc
string_of (an_entry k v) e = absurd cc

all-strings : (vs : Values) → have_type (basic string) vs ≡ true → (names : List Text) × (vs ≡ values_of (string_values names))
all-strings no_values e = ([], refl)
all-strings (value v vs) e =
    let parts = and_parts (has_type (basic string) v) (have_type (basic string) vs) e in
    let first = string_of v (is_string (type_of v) (bytes_eq-true (spelled_type (basic string)) (spelled_type (type_of v)) parts.0)) in
    let others = all-strings vs parts.1 in
    (first.0 ∷ others.0, ap (λ w. value w vs) first.1 ∙ ap (λ ws. value (a_string first.0) ws) others.1)

array_of : (v : Value) (t : Complete) → type_of v ≡ array t → (vs : Values) × (v ≡ an_array t vs)
array_of (a_number n x) t e = absurd cc
array_of (a_string text) t e = absurd cc
array_of (a_path text) t e = absurd cc
array_of (a_signature ts) t e = absurd cc
array_of (a_variant v) t e = absurd cc
array_of (an_array u vs) t e = let same : u ≡ t = cc in (vs, ap (λ (w : Complete). an_array w vs) same)
array_of (a_struct v vs) t e = absurd cc
array_of (an_entry k v) t e = absurd cc

one_value : (vs : List Value) (t : Complete) → map type_of vs ≡ t ∷ [] → (v : Value) × (vs ≡ v ∷ []) × (type_of v ≡ t)
one_value [] t e = absurd cc
one_value (v ∷ []) t e = let same : type_of v ≡ t = cc in (v, refl, same)
one_value (v ∷ w ∷ vs) t e = absurd cc

pub strings-of : (names : List Text) → strings (values_of (string_values names)) ≡ names
strings-of [] = refl
strings-of (name ∷ names) = ap (λ ns. name ∷ ns) (strings-of names)

-- ---- the body

-- a message whose body is an array of these strings
pub record IsList (m : Message) : Type 0 where
  pub names : List Text
  pub body : m.body ≡ names_array names ∷ []
  pub texts : text_list m ≡ Some names

list_of : (m : Message) (o : Order) (p : ℕ) (vs : List Value) → m.body ≡ vs → are_valid o p vs ≡ true → map type_of vs ≡ array (basic string) ∷ [] → IsList m
list_of m o p vs body valid types =
    let one = one_value vs (array (basic string)) types in
    let is = array_of one.0 (basic string) one.2 in
    let whole : m.body ≡ an_array (basic string) is.0 ∷ [] = body ∙ one.1 ∙ ap (λ (v : Value). v ∷ []) is.1 in
    let good : are_valid o p (an_array (basic string) is.0 ∷ []) ≡ true = ap (are_valid o p) (sym (ap (λ (v : Value). v ∷ []) is.1) ∙ sym one.1) ∙ valid in
    let fits = and_parts (is_within 64 (an_array (basic string) is.0) && is_value o p (an_array (basic string) is.0)) _ good in
    let array_good = and_parts (is_within 64 (an_array (basic string) is.0)) (is_value o p (an_array (basic string) is.0)) fits.0 in
    let first = and_parts (have_type (basic string) is.0 && are_values o (elements_place (basic string) p) is.0) _ array_good.1 in
    let typed = and_parts (have_type (basic string) is.0) (are_values o (elements_place (basic string) p) is.0) first.0 in
    let names = all-strings is.0 typed.0 in
    let is_names : m.body ≡ names_array names.0 ∷ [] = whole ∙ ap (λ (ws : Values). an_array (basic string) ws ∷ []) names.1 in
    record { names = names.0; body = is_names; texts = ap list_in is_names ∙ ap Some (strings-of names.0) }

pub is_list : (m : Message) → Valid m → signature m ≡ codes "as" → IsList m
is_list m valid e =
    list_of m m.order (body_place (length (spelled_fields m.order m.fields))) m.body refl valid.body_values (spelled_types_is (map type_of m.body) (array (basic string) ∷ []) e)

-- what is read of it
pub read_body : (m : Message) → Valid m → signature m ≡ codes "as" →
    IsBody m.order (codes "as") (body_bytes m) (place_of_body m) (array (basic string) ∷ []) m.body
read_body m valid e =
    let types : map type_of m.body ≡ array (basic string) ∷ [] = spelled_types_is (map type_of m.body) (array (basic string) ∷ []) e in
    subst (λ (ts : List Complete). IsBody m.order (codes "as") (body_bytes m) (place_of_body m) ts m.body) types
    (subst (λ (s : List ℕ). IsBody m.order s (body_bytes m) (place_of_body m) (map type_of m.body) m.body) e (body-is m valid))

-- ---- how the array is spelled at a multiple of 8

pub array_spelled : (o : Order) (p : ℕ) (names : List Text) → p % 8 ≡ 0 →
    spelled_list o p (names_array names ∷ []) ≡ number_bytes o w32 (length (names_bytes o (p + 4) names)) ++ names_bytes o (p + 4) names
array_spelled o p names start =
    append-nil (spelled o p (names_array names))
    ∙ ap₂ (λ before behind. let elements = names_bytes o (p + before + 4 + behind) names in replicate before 0 ++ number_bytes o w32 (length elements) ++ replicate behind 0 ++ elements) none gone
    ∙ ap (λ q. number_bytes o w32 (length (names_bytes o q names)) ++ [] ++ names_bytes o q names) place
    ∙ ap (λ bytes. bytes ++ names_bytes o (p + 4) names) (append-nil (number_bytes o w32 (length (names_bytes o (p + 4) names))))
  where
    none : padding 4 p ≡ 0
    none = omega arith

    gone : padding 4 (p + padding 4 p + 4) ≡ 0
    gone = omega arith

    place : p + 0 + 4 + 0 ≡ p + 4
    place = omega arith
