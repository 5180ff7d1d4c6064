-- The body of a message that was read, as the values of its signature, and the texts in it by that signature.
use Rattle.std.proofs.Common.{◌≡◌, ℕ, ◌+◌, true, false, List, [], ◌∷◌, length, get_or, map, codes, Option, Some, None, refl, ap, ap₂, sym, subst, ◌∙◌}
use Rattle.std.specs.Prelude.{bytes_eq, option_map}
use Rattle.std.specs.List.{list_all}
use Rattle.std.proofs.lemmas.List.{append-nil}
use Rattle.byte_lists.proofs.Bytes.{bytes_eq-refl}
use Rattle.dbus_types.specs.Signature.{basic, string, is_complete, spelled_types}
use Rattle.dbus_types.proofs.SignatureLaws.{spelled_types_is}
use Rattle.dbus_values.specs.Bodies.{HasBody, IsBody, first_text_of, list_in, listed, three_of}
use Rattle.dbus_values.specs.Reading.{values_at}
use Rattle.dbus_values.specs.Values.{Value, a_string, an_array, type_of}
use Rattle.dbus_values.proofs.ValueLaws.{at}
use Rattle.dbus_header.specs.Contents.{Contents, body_bytes, contents_of, message_of}
use Rattle.dbus_header.specs.Message.{Message, Valid, body_place, only_of, signature, spelled_fields, stated}
use Rattle.dbus_header.proofs.MessageAgain.{map_len, stated_complete, values_again}
use Rattle.dbus_header.proofs.Aligned.{aligned_8}
use denote.Bor.{Bor}

-- ---- the body

-- where a message's body begins
abbrev pub place_of_body : Message → ℕ
place_of_body m = body_place (length (spelled_fields m.order m.fields))

-- the body of a valid message is the values of its signature
pub body-is : (m : Message) → Valid m → IsBody m.order (signature m) (body_bytes m) (place_of_body m) (map type_of m.body) m.body
body-is m valid =
    let types : stated m.fields ≡ map type_of m.body = spelled_types_is (stated m.fields) (map type_of m.body) valid.agreement in
    let complete : list_all is_complete (map type_of m.body) ≡ true = ap (list_all is_complete) (sym types) ∙ stated_complete m.fields m.order 16 valid.field_values in
    record {
      start = aligned_8 (16 + length (spelled_fields m.order m.fields));
      spelled = refl;
      read = ap (λ (bytes : List ℕ). values_at m.order (map type_of m.body) (at (place_of_body m) bytes)) (sym (append-nil (body_bytes m)))
          ∙ values_again m.body m.order (place_of_body m) [] valid.body_values complete;
      all = sym (map_len type_of m.body);
    }

-- ---- what was read

-- the message that contents are read of
pub message-read : (bytes : List ℕ) (q : Contents) → option_map contents_of (message_of bytes) ≡ Some q → (m : Message) × (message_of bytes ≡ Some m) × (contents_of m ≡ q)
message-read bytes q read = by (message_of bytes) refl read
  where
    by : (o : Option Message) → message_of bytes ≡ o → option_map contents_of o ≡ Some q → (m : Message) × (message_of bytes ≡ Some m) × (contents_of m ≡ q)
    by None is e = absurd cc
    by (Some m) is e = let same : contents_of m ≡ q = cc in (m, is, same)

pub same-contents : (bytes : List ℕ) (q : Contents) (m : Message) → message_of bytes ≡ Some m → option_map contents_of (message_of bytes) ≡ Some q → contents_of m ≡ q
same-contents bytes q m is read =
    let both : ◌≡◌ {A = Option Contents} (Some (contents_of m)) (Some q) = ap (option_map contents_of) (sym is) ∙ read in cc

abbrev pub AreValid : List ℕ → Type 0
AreValid bytes = (m : Message) → message_of bytes ≡ Some m → Valid m

-- the body that was read is that message's
pub read-body : (bytes : List ℕ) (q : Contents) (m : Message) → option_map contents_of (message_of bytes) ≡ Some q → AreValid bytes → message_of bytes ≡ Some m →
    IsBody q.order q.signature q.body (place_of_body m) (map type_of m.body) m.body
read-body bytes q m read valid is =
    subst (λ (c : Contents). IsBody c.order c.signature c.body (place_of_body m) (map type_of m.body) m.body) (same-contents bytes q m is read) (body-is m (valid m is))

pub has-body : (bytes : List ℕ) (q : Contents) → option_map contents_of (message_of bytes) ≡ Some q → AreValid bytes → HasBody q.order q.signature q.body
has-body bytes q read valid =
    let found = message-read bytes q read in
    (place_of_body found.0, map type_of found.0.body, found.0.body, read-body bytes q found.0 read valid found.1)

-- by a signature that is known

pub differ : (xs ys : List ℕ) → bytes_eq xs ys ≡ false → xs ≡ ys → ⊥
differ xs ys unlike same = let alike : bytes_eq xs ys ≡ true = ap (bytes_eq xs) (sym same) ∙ bytes_eq-refl xs in cc

pub read-body-of : (bytes : List ℕ) (q : Contents) (m : Message) (text : List ℕ) → q.signature ≡ text → option_map contents_of (message_of bytes) ≡ Some q → AreValid bytes → message_of bytes ≡ Some m →
    IsBody q.order text q.body (place_of_body m) (map type_of m.body) m.body
read-body-of bytes q m text named read valid is =
    subst (λ s. IsBody q.order s q.body (place_of_body m) (map type_of m.body) m.body) named (read-body bytes q m read valid is)

pub has-body-of : (bytes : List ℕ) (q : Contents) (text : List ℕ) → q.signature ≡ text → option_map contents_of (message_of bytes) ≡ Some q → AreValid bytes → HasBody q.order text q.body
has-body-of bytes q text named read valid =
    subst (λ s. HasBody q.order s q.body) named (has-body bytes q read valid)

-- ---- which bodies have texts

-- the values that a signature states
pub signature-read : (bytes : List ℕ) (q : Contents) (m : Message) → message_of bytes ≡ Some m → option_map contents_of (message_of bytes) ≡ Some q → q.signature ≡ spelled_types (map type_of m.body)
signature-read bytes q m is read = sym (ap (λ (c : Contents). c.signature) (same-contents bytes q m is read))

pub only-first : (vs : List Value) → spelled_types (map type_of vs) ≡ codes "s" → only_of vs ≡ first_text_of vs
only-first vs e = by vs (spelled_types_is (map type_of vs) (basic string ∷ []) e)
  where
    by : (vs : List Value) → map type_of vs ≡ basic string ∷ [] → only_of vs ≡ first_text_of vs
    by [] e = refl
    by (a_string text ∷ []) e = refl
    by (v ∷ []) e = refl
    by (v ∷ w ∷ vs) e = absurd cc

pub only-none : (vs : List Value) → (spelled_types (map type_of vs) ≡ codes "s" → ⊥) → only_of vs ≡ None
only-none (a_string text ∷ []) other = absurd (other refl)
only-none _ other = refl

together : (x y : List ℕ × List ℕ × List ℕ) → x.0 ≡ y.0 → x.1 ≡ y.1 → x.2 ≡ y.2 → ◌≡◌ {A = Option (List ℕ × List ℕ × List ℕ)} (Some x) (Some y)
together x y first second third = ap₂ (λ a b. Some (a, b, x.2)) first second ∙ ap (λ c. Some (y.0, y.1, c)) third

-- the texts of three values, as they were read one after the other
pub three-told : (three : Option (List ℕ × List ℕ × List ℕ)) (texts : List (Bor (List ℕ))) (none : Bor (List ℕ)) → option_map listed three ≡ Some (map (λ t. t.now) texts) →
    Some ((get_or texts 0 none).now, (get_or texts 1 none).now, (get_or texts 2 none).now) ≡ three
three-told None texts none e = absurd cc
three-told (Some x) [] none e = absurd cc
three-told (Some x) (p ∷ []) none e = absurd cc
three-told (Some x) (p ∷ q ∷ []) none e = absurd cc
three-told (Some x) (p ∷ q ∷ r ∷ []) none e =
    let first : p.now ≡ x.0 = cc in let second : q.now ≡ x.1 = cc in let third : r.now ≡ x.2 = cc in together (p.now, q.now, r.now) x first second third
three-told (Some x) (p ∷ q ∷ r ∷ s ∷ texts) none e = absurd cc

pub three-none : (vs : List Value) → (spelled_types (map type_of vs) ≡ codes "sss" → ⊥) → three_of vs ≡ None
three-none (a_string a ∷ a_string b ∷ a_string c ∷ []) other = absurd (other refl)
three-none _ other = refl

pub list-none : (vs : List Value) → (spelled_types (map type_of vs) ≡ codes "as" → ⊥) → list_in vs ≡ None
list-none (an_array (basic string) elements ∷ []) other = absurd (other refl)
list-none _ other = refl
