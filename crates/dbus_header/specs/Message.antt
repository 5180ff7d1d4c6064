-- Messages: their parts, their spelling, and which of them are valid.
use Rattle.std.specs.Prelude.{◌≡◌, ◌<◌, ◌≤◌, unwrap_or, take, drop, ℕ, ◌+◌, ◌^◌, Bool, true, false, not, ◌&&◌, ◌||◌, ◌==◌, nat_lt, List, [], ◌∷◌, ◌++◌, length, map, Option, Some, None, IsTrue, if◌then◌else◌, is_some}
use Rattle.std.specs.Int.{w32}
use Rattle.std.specs.List.{list_all, list_any}
use Rattle.dbus_names.specs.Names.{is_interface, is_error_name, is_member, is_bus_name}
use Rattle.dbus_types.specs.Signature.{uint32, byte, string, Complete, basic, spelled_types}
use Rattle.dbus_values.specs.Values.{Value, a_number, a_string, a_path, a_signature, a_variant, an_array, a_struct, no_values, value, values_of, type_of, padding, zeros, number_bytes, spelled, is_value, is_within}
use Rattle.dbus_values.specs.Bodies.{first_text_of, two_of, three_of, list_in}
use Rattle.dbus_values.specs.declared.Order.{Order}
use Rattle.dbus_values.specs.declared.Order.TheVariants.{Little, Big}

-- ---- messages

-- a header field: its code and its value
pub record Field : Type 0 where
  pub code : ℕ
  pub value : Value

pub record Message : Type 0 where
  pub order : Order
  pub kind : ℕ
  pub flags : ℕ
  pub serial : ℕ
  pub fields : List Field
  pub body : List Value

-- ---- the parts by their names

-- the value of the first field with the code
abbrev pub field_in : ℕ → List Field → Option Value
field_in code [] = None
field_in code (f ∷ fields) = if f.code == code then Some f.value else field_in code fields

abbrev pub text_in : Option Value → Option (List ℕ)
text_in (Some (a_string text)) = Some text
text_in (Some (a_path text)) = Some text
text_in _ = None

abbrev pub number_in : Option Value → Option ℕ
number_in (Some (a_number n x)) = Some x
number_in _ = None

abbrev pub types_in : Option Value → List Complete
types_in (Some (a_signature ts)) = ts
types_in _ = []

abbrev pub path : Message → Option (List ℕ)
path m = text_in (field_in 1 m.fields)

abbrev pub interface : Message → Option (List ℕ)
interface m = text_in (field_in 2 m.fields)

abbrev pub member : Message → Option (List ℕ)
member m = text_in (field_in 3 m.fields)

abbrev pub error_name : Message → Option (List ℕ)
error_name m = text_in (field_in 4 m.fields)

abbrev pub reply_serial : Message → Option ℕ
reply_serial m = number_in (field_in 5 m.fields)

abbrev pub destination : Message → Option (List ℕ)
destination m = text_in (field_in 6 m.fields)

abbrev pub sender : Message → Option (List ℕ)
sender m = text_in (field_in 7 m.fields)

-- a field whose code the specification doesn't name, so its meaning isn't known
abbrev pub is_unknown : Field → Bool
is_unknown f = nat_lt 9 f.code

abbrev pub has_unknown : List Field → Bool
has_unknown fields = list_any is_unknown fields

abbrev pub has_unknown_field : Message → Bool
has_unknown_field m = has_unknown m.fields

-- the types that the SIGNATURE field states; none if it is absent
abbrev pub stated : List Field → List Complete
stated fields = types_in (field_in 8 fields)

-- the body's signature, spelled
abbrev pub signature : Message → List ℕ
signature m = spelled_types (map type_of m.body)

-- ---- the body's texts

-- the first body value, if the body's signature begins with s
abbrev pub first_text : Message → Option (List ℕ)
first_text m = first_text_of m.body

-- the first two body values, if the body's signature begins with ss
abbrev pub two_texts : Message → Option (List ℕ × List ℕ)
two_texts m = two_of m.body

-- the texts of a body of signature sss
abbrev pub three_texts : Message → Option (List ℕ × List ℕ × List ℕ)
three_texts m = three_of m.body

-- the texts of a body of signature as
abbrev pub text_list : Message → Option (List (List ℕ))
text_list m = list_in m.body

-- the text of a body of signature s
abbrev pub only_of : List Value → Option (List ℕ)
only_of (a_string text ∷ []) = Some text
only_of _ = None

abbrev pub only_text : Message → Option (List ℕ)
only_text m = only_of m.body

-- ---- a message with a part changed

abbrev pub with_serial : ℕ → Message → Message
with_serial serial m = record m { serial = serial }

abbrev pub set_field : ℕ → Value → Field → Field
set_field code v f = if f.code == code then record f { value = v } else f

-- the number of the REPLY_SERIAL field replaced, in any position
abbrev pub with_reply_serial : ℕ → Message → Message
with_reply_serial serial m = record m { fields = map (set_field 5 (a_number uint32 serial)) m.fields }

abbrev pub string_values : List (List ℕ) → List Value
string_values texts = map a_string texts

-- the body replaced by an array of these strings
abbrev pub with_names : List (List ℕ) → Message → Message
with_names names m = record m { body = an_array (basic string) (values_of (string_values names)) ∷ [] }

-- ---- spelling

abbrev pub order_byte : Order → ℕ
order_byte Little = 108
order_byte Big = 66

-- a field is a struct of its code and a variant
abbrev pub field_value : Field → Value
field_value f = a_struct (a_number byte f.code) (value (a_variant f.value) no_values)

-- values one after the other, from a place on
abbrev pub spelled_list : Order → ℕ → List Value → List ℕ
spelled_list order place [] = []
spelled_list order place (v ∷ vs) =
    let first = spelled order place v in first ++ spelled_list order (place + length first) vs

-- the fields begin at 16, after their length
abbrev pub spelled_fields : Order → List Field → List ℕ
spelled_fields order fields = spelled_list order 16 (map field_value fields)

-- where the body begins, after this many bytes of fields
abbrev pub body_place : ℕ → ℕ
body_place n = 16 + n + padding 8 (16 + n)

unfoldable pub spell : Message → List ℕ
spell m =
    let fields = spelled_fields m.order m.fields in
    let body = spelled_list m.order (body_place (length fields)) m.body in
    order_byte m.order ∷ m.kind ∷ m.flags ∷ 1 ∷ number_bytes m.order w32 (length body) ++ number_bytes m.order w32 m.serial
    ++ number_bytes m.order w32 (length fields) ++ fields ++ zeros 8 (16 + length fields) ++ body

-- the place of REPLY_SERIAL's number if the fields begin at a place: after the padding, the field's code and the
-- signature `u`
abbrev pub number_place : Order → ℕ → List Field → Option ℕ
number_place order place [] = None
number_place order place (f ∷ fields) =
    if f.code == 5 then Some (place + padding 8 place + 4)
    else number_place order (place + length (spelled order place (field_value f))) fields

-- the place of REPLY_SERIAL's number in the message's bytes, if it has one
abbrev pub reply_place : Message → Option ℕ
reply_place m = number_place m.order 16 m.fields

-- the bytes with the four-byte number at a place replaced
abbrev pub with_number : Order → ℕ → ℕ → List ℕ → List ℕ
with_number order place n bytes = take place bytes ++ number_bytes order w32 n ++ drop (place + 4) bytes

-- ---- which messages are valid

abbrev pub text_passes : (List ℕ → Bool) → Value → Bool
text_passes test (a_string text) = test text
text_passes test _ = false

abbrev pub is_a_path : Value → Bool
is_a_path (a_path text) = true
is_a_path _ = false

abbrev pub is_a_signature : Value → Bool
is_a_signature (a_signature ts) = true
is_a_signature _ = false

abbrev pub number_passes : (ℕ → Bool) → Value → Bool
number_passes test (a_number uint32 x) = test x
number_passes test _ = false

-- code 0 is none; a known code's value has its type and grammar; any other code may hold any value
abbrev pub is_field_of : ℕ → Value → Bool
is_field_of code v =
    if code == 0 then false
    else (if code == 1 then is_a_path v
    else (if code == 2 then text_passes is_interface v
    else (if code == 3 then text_passes is_member v
    else (if code == 4 then text_passes is_error_name v
    else (if code == 5 then number_passes (nat_lt 0) v
    else (if code == 6 then text_passes is_bus_name v
    else (if code == 7 then text_passes is_bus_name v
    else (if code == 8 then is_a_signature v
    else (if code == 9 then number_passes (λ x. true) v
    else nat_lt code 256)))))))))

abbrev pub has_field : ℕ → List Field → Bool
has_field code fields = is_some (field_in code fields)

-- a field that may follow these: in its grammar, and no repetition of a known field
abbrev pub may_follow : List Field → Field → Bool
may_follow before f = is_field_of f.code f.value && (nat_lt 9 f.code || not (has_field f.code before))

-- the fields that a message of the kind needs
abbrev pub required : ℕ → List ℕ
required kind =
    if kind == 1 then 1 ∷ 3 ∷ []
    else (if kind == 2 then 5 ∷ []
    else (if kind == 3 then 4 ∷ 5 ∷ []
    else (if kind == 4 then 1 ∷ 2 ∷ 3 ∷ [] else [])))

abbrev pub has_required : ℕ → List Field → Bool
has_required kind fields = list_all (λ code. has_field code fields) (required kind)

-- UNIX_FDS is absent or 0
abbrev pub has_no_descriptors : List Field → Bool
has_no_descriptors fields = unwrap_or (number_in (field_in 9 fields)) 0 == 0

-- values one after the other from a place on, each within the limits
abbrev pub are_valid : Order → ℕ → List Value → Bool
are_valid order place [] = true
are_valid order place (v ∷ vs) = is_within 64 v && is_value order place v && are_valid order (place + length (spelled order place v)) vs

-- fields one after the other from a place on, each within the limits; containers are counted from the field's variant
-- on
abbrev pub are_valid_fields : Order → ℕ → List Field → Bool
are_valid_fields order place [] = true
are_valid_fields order place (f ∷ fields) =
    is_within 64 (a_variant f.value) && is_value order place (field_value f) && are_valid_fields order (place + length (spelled order place (field_value f))) fields

-- each may follow those before it
abbrev pub may_all_follow : List Field → List Field → Bool
may_all_follow before [] = true
may_all_follow before (f ∷ fields) = may_follow before f && may_all_follow (f ∷ before) fields

-- a message within the wire's grammar and limits
pub record Valid (m : Message) : Type 0 where
  pub kind : (0 < m.kind) × (m.kind < 256)
  pub flags : m.flags < 256
  pub serial : (0 < m.serial) × (m.serial < 2 ^ 32)
  pub field_values : IsTrue (are_valid_fields m.order 16 m.fields)
  pub field_list : IsTrue (may_all_follow [] m.fields)
  pub fields_len : length (spelled_fields m.order m.fields) ≤ 2 ^ 26
  pub required : IsTrue (has_required m.kind m.fields)
  pub descriptors : IsTrue (has_no_descriptors m.fields)
  pub body_values : IsTrue (are_valid m.order (body_place (length (spelled_fields m.order m.fields))) m.body)
  pub agreement : spelled_types (stated m.fields) ≡ signature m
  pub len : length (spell m) ≤ 2 ^ 27
