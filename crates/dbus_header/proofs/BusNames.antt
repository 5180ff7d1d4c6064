-- The fields of a valid message are in the grammars of their codes; so DESTINATION and SENDER are bus names.
use Rattle.std.proofs.Common.{◌≡◌, ℕ, Bool, true, false, cond, List, [], ◌∷◌, Option, Some, None, refl, ap, sym, ◌∙◌}
use Rattle.std.specs.Prelude.{not, ◌||◌, ◌==◌, nat_lt, option_map}
use Rattle.std.proofs.lemmas.Bool.{and_parts, eqb-true}
use Rattle.dbus_names.specs.Names.{is_bus_name}
use Rattle.dbus_values.specs.Values.{Value, a_number, a_string, a_path, a_signature, a_variant, an_array, a_struct, an_entry}
use Rattle.dbus_header.specs.Contents.{Contents, contents_of, message_of}
use Rattle.dbus_header.specs.Message.{Field, Message, Valid, destination, sender, field_in, has_field, is_field_of, may_follow, may_all_follow, text_in, text_passes}
use Rattle.dbus_header.specs.Seen.{AreBusNames}
use Rattle.dbus_header.proofs.MessageBodies.{AreValid, message-read}

-- a field that is found is in the grammar of its code
in_grammar : (code : ℕ) (fields before : List Field) (v : Value) → may_all_follow before fields ≡ true → field_in code fields ≡ Some v → is_field_of code v ≡ true
in_grammar code [] before v follow at = absurd cc
in_grammar code (f ∷ fields) before v follow at = by (λ left. in_grammar code fields (f ∷ before) v k.1 left) (f.code == code) refl at
  where
    k : (may_follow before f ≡ true) × (may_all_follow (f ∷ before) fields ≡ true)
    k = and_parts (may_follow before f) (may_all_follow (f ∷ before) fields) follow

    rules : is_field_of f.code f.value ≡ true
    rules = (and_parts (is_field_of f.code f.value) (nat_lt 9 f.code || not (has_field f.code before)) k.0).0

    by : (field_in code fields ≡ Some v → is_field_of code v ≡ true) → (b : Bool) → (f.code == code) ≡ b → cond b (Some f.value) (field_in code fields) ≡ Some v → is_field_of code v ≡ true
    by later true is e =
        let same : f.value ≡ v = cc in
        ap (is_field_of code) (sym same) ∙ ap (λ (n : ℕ). is_field_of n f.value) (sym (eqb-true f.code code is)) ∙ rules
    by later false is e = later e

-- the text of a value whose text passes a test
text-passes : (test : List ℕ → Bool) (value : Option Value) (text : List ℕ) → ((v : Value) → value ≡ Some v → text_passes test v ≡ true) → text_in value ≡ Some text → test text ≡ true
text-passes test None text passes at = absurd cc
text-passes test (Some (a_number n x)) text passes at = absurd cc
text-passes test (Some (a_string found)) text passes at = let same : found ≡ text = cc in ap test (sym same) ∙ passes (a_string found) refl
text-passes test (Some (a_path found)) text passes at = absurd (let no : false ≡ true = passes (a_path found) refl in cc)
text-passes test (Some (a_signature ts)) text passes at = absurd cc
text-passes test (Some (a_variant v)) text passes at = absurd cc
text-passes test (Some (an_array t vs)) text passes at = absurd cc
text-passes test (Some (a_struct v vs)) text passes at = absurd cc
text-passes test (Some (an_entry k v)) text passes at = absurd cc

destination_named : (m : Message) → Valid m → AreBusNames (destination m)
destination_named m valid = λ name at. text-passes is_bus_name (field_in 6 m.fields) name (λ v found. in_grammar 6 m.fields [] v valid.field_list found) at

sender_named : (m : Message) → Valid m → AreBusNames (sender m)
sender_named m valid = λ name at. text-passes is_bus_name (field_in 7 m.fields) name (λ v found. in_grammar 7 m.fields [] v valid.field_list found) at

-- so they are in a message that was read
pub destination-read : (bytes : List ℕ) (q : Contents) → option_map contents_of (message_of bytes) ≡ Some q → AreValid bytes → AreBusNames q.parts.destination
destination-read bytes q read valid =
    let found = message-read bytes q read in
    λ name at. destination_named found.0 (valid found.0 found.1) name (ap (λ (c : Contents). c.parts.destination) found.2 ∙ at)

pub sender-read : (bytes : List ℕ) (q : Contents) → option_map contents_of (message_of bytes) ≡ Some q → AreValid bytes → AreBusNames q.parts.sender
sender-read bytes q read valid =
    let found = message-read bytes q read in
    λ name at. sender_named found.0 (valid found.0 found.1) name (ap (λ (c : Contents). c.parts.sender) found.2 ∙ at)
