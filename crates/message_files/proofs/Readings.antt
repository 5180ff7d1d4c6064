-- What a text is read as.
use Rattle.std.proofs.Common.{◌≡◌, ℕ, ◌^◌, Bool, true, false, List, [], length, Option, Some, None, Result, Ok, Err, if◌then◌else◌, refl, sym, ap, subst, ◌∙◌}
use Rattle.std.specs.Prelude.{◌&&◌, bytes_eq}
use Rattle.std.proofs.lemmas.Bool.{and_parts, and_from, ltb-true, lt-ltb, leb-true, le-leb}
use Rattle.std.proofs.lemmas.List.{append-nil}
use Rattle.std.proofs.lemmas.Option.{same_Some}
use Rattle.byte_lists.specs.Bytes.{is_empty}
use Rattle.byte_lists.proofs.Bytes.{bytes_eq-true, bytes_eq-refl}
use Rattle.dbus_values.specs.Reading.{◌>>=◌, when}
use Rattle.dbus_types.specs.Signature.{spelled_types}
use Rattle.dbus_header.specs.Message.{Message, Valid, stated, signature, spelled_fields, spell}
use Rattle.dbus_header.specs.Malformed.{front}
use Rattle.dbus_header.specs.Contents.{message_of}
use Rattle.dbus_header.proofs.MessageAgain.{front-spell}
use Rattle.message_text.specs.MessageText.{Text, message_text, ReadsAs, is_message, is_shape, is_neither}
use Rattle.message_text.specs.TextOf.{IsTextOf}
use Rattle.message_text.specs.Reading.{read_message}
use Rattle.message_text.specs.declared.BadText.{BadText}
use Rattle.message_text.specs.declared.BadText.TheVariants.{Form, NotValid}
use Rattle.message_text.proofs.ReadAnswers.{shape_answer, no_answer}
use Rattle.message_text.proofs.TextsRead.{message_read, shape_read}
use Rattle.message_text.proofs.TextsFound.{shape_found}
use Rattle.message_files.specs.Files.{has_numbers, has_fields, has_body, is_valid, reading, reading_by_bytes, reading_by_message}

-- ---- the test for valid messages

valid_is : (m : Message) → Valid m → is_valid m ≡ true
valid_is m v = and_from (has_numbers m) (has_fields m && has_body m) numbers (and_from (has_fields m) (has_body m) fields body)
  where
    numbers : has_numbers m ≡ true
    numbers =
        and_from _ _ (lt-ltb 0 m.kind v.kind.0)
        (and_from _ _ (lt-ltb m.kind 256 v.kind.1)
        (and_from _ _ (lt-ltb m.flags 256 v.flags)
        (and_from _ _ (lt-ltb 0 m.serial v.serial.0) (lt-ltb m.serial (2 ^ 32) v.serial.1))))

    fields : has_fields m ≡ true
    fields =
        and_from _ _ v.field_values
        (and_from _ _ v.field_list
        (and_from _ _ (le-leb (length (spelled_fields m.order m.fields)) (2 ^ 26) v.fields_len)
        (and_from _ _ v.required v.descriptors)))

    same : bytes_eq (spelled_types (stated m.fields)) (signature m) ≡ true
    same = ap (λ (s : List ℕ). bytes_eq s (signature m)) v.agreement ∙ bytes_eq-refl (signature m)

    body : has_body m ≡ true
    body = and_from _ _ v.body_values (and_from _ _ same (le-leb (length (spell m)) (2 ^ 27) v.len))

is_valid-means : (m : Message) → is_valid m ≡ true → Valid m
is_valid-means m e =
    let all = and_parts (has_numbers m) (has_fields m && has_body m) e in
    let rest = and_parts (has_fields m) (has_body m) all.1 in
    let n0 = and_parts _ _ all.0 in
    let n1 = and_parts _ _ n0.1 in
    let n2 = and_parts _ _ n1.1 in
    let n3 = and_parts _ _ n2.1 in
    let f0 = and_parts _ _ rest.0 in
    let f1 = and_parts _ _ f0.1 in
    let f2 = and_parts _ _ f1.1 in
    let f3 = and_parts _ _ f2.1 in
    let b0 = and_parts _ _ rest.1 in
    let b1 = and_parts _ _ b0.1 in
    record {
      kind = (ltb-true 0 m.kind n0.0, ltb-true m.kind 256 n1.0);
      flags = ltb-true m.flags 256 n2.0;
      serial = (ltb-true 0 m.serial n3.0, ltb-true m.serial (2 ^ 32) n3.1);
      field_values = f0.0;
      field_list = f1.0;
      fields_len = leb-true (length (spelled_fields m.order m.fields)) (2 ^ 26) f2.0;
      required = f3.0;
      descriptors = f3.1;
      body_values = b0.0;
      agreement = bytes_eq-true (spelled_types (stated m.fields)) (signature m) b1.0;
      len = leb-true (length (spell m)) (2 ^ 27) b1.1;
    }

-- ---- what a text is read as

spelled_again : (m : Message) → Valid m → message_of (spell m) ≡ Some m
unfolding message_of
spelled_again m v =
    ap (λ (q : Option (Message × List ℕ)). q >>= λ x. when (is_empty x.1) x.0) (ap front (sym (append-nil (spell m))) ∙ front-spell m [] v)

abbrev chosen : Message → Bool → Result Message BadText
chosen m b = if b then Ok m else Err NotValid

-- the text of a valid message
message_is : (m : Message) (text : Text) → Valid m → message_text m ≡ text → reading text ≡ Ok m
unfolding reading
message_is m text v e =
    ap (reading_by_bytes text) (ap read_message (sym e) ∙ message_read m v)
    ∙ ap (reading_by_message text) (spelled_again m v)
    ∙ ap (chosen m) (and_from (is_valid m) (bytes_eq (message_text m) text) (valid_is m v) (ap (λ (t : Text). bytes_eq t text) e ∙ bytes_eq-refl text))

-- a text of the form that no valid message has
form_is : (text : Text) (bytes : List ℕ) → read_message text ≡ Some bytes → ((m : Message) → Valid m → message_text m ≡ text → ⊥) → reading text ≡ Err NotValid
unfolding reading
form_is text bytes e none = ap (reading_by_bytes text) e ∙ go (message_of bytes)
  where
    by : (m : Message) (b : Bool) → is_valid m && bytes_eq (message_text m) text ≡ b → chosen m b ≡ Err NotValid
    by m false q = refl
    by m true q = let p = and_parts (is_valid m) (bytes_eq (message_text m) text) q in absurd (none m (is_valid-means m p.0) (bytes_eq-true (message_text m) text p.1))

    go : (o : Option Message) → reading_by_message text o ≡ Err NotValid
    go None = refl
    go (Some m) = by m (is_valid m && bytes_eq (message_text m) text) refl

-- a text of no form
formless_is : (text : Text) → read_message text ≡ None → reading text ≡ Err Form
unfolding reading
formless_is text e = ap (reading_by_bytes text) e

pub one_reading : (text : Text) (answer : Result Message BadText) → ReadsAs text answer → answer ≡ reading text
one_reading text answer (is_message m v e) = sym (message_is m text v e)
one_reading text answer (is_shape s h e none) = sym (form_is text _ (ap read_message (sym e) ∙ shape_read s h) none)
one_reading text answer (is_neither none) = go (read_message text) refl
  where
    go : (o : Option (List ℕ)) → read_message text ≡ o → Err Form ≡ reading text
    go None e = sym (formless_is text e)
    go (Some bytes) e = let s = shape_found text bytes e in absurd (none s.0 s.1 s.2)

by_bytes : (text : Text) (bytes : List ℕ) → read_message text ≡ Some bytes → reading text ≡ reading_by_message text (message_of bytes)
unfolding reading
by_bytes text bytes e = ap (reading_by_bytes text) e

apart : false ≡ true → ⊥
apart e = absurd cc

pub reads : (text : Text) → ReadsAs text (reading text)
reads text = go (read_message text) refl
  where
    chosen_as : (bytes : List ℕ) (m : Message) (b : Bool) → read_message text ≡ Some bytes → message_of bytes ≡ Some m → is_valid m && bytes_eq (message_text m) text ≡ b → ReadsAs text (chosen m b)
    chosen_as bytes m true e q t =
        let p = and_parts (is_valid m) (bytes_eq (message_text m) text) t in
        is_message m (is_valid-means m p.0) (bytes_eq-true (message_text m) text p.1)
    chosen_as bytes m false e q t = shape_answer text bytes e (λ i. never (message_of bytes) i q i.is)
      where
        never : (o : Option Message) (i : IsTextOf bytes text) → o ≡ Some m → o ≡ Some i.message → ⊥
        never None i a b = absurd cc
        never (Some x) i a b =
            let same : m ≡ i.message = sym (same_Some x m a) ∙ same_Some x i.message b in
            apart (sym t ∙ ap (λ (y : Message). is_valid y && bytes_eq (message_text y) text) same
            ∙ and_from (is_valid i.message) (bytes_eq (message_text i.message) text) (valid_is i.message i.valid) (ap (λ (w : Text). bytes_eq w text) i.text_is ∙ bytes_eq-refl text))

    found : (bytes : List ℕ) (o : Option Message) → read_message text ≡ Some bytes → message_of bytes ≡ o → ReadsAs text (reading_by_message text o)
    found bytes None e q = shape_answer text bytes e (λ i. never (message_of bytes) i q i.is)
      where
        never : (o : Option Message) (i : IsTextOf bytes text) → o ≡ None → o ≡ Some i.message → ⊥
        never None i a b = absurd cc
        never (Some x) i a b = absurd cc
    found bytes (Some m) e q = chosen_as bytes m (is_valid m && bytes_eq (message_text m) text) e q refl

    go : (o : Option (List ℕ)) → read_message text ≡ o → ReadsAs text (reading text)
    go None e = subst (λ (r : Result Message BadText). ReadsAs text r) (sym (formless_is text e)) (no_answer text e)
    go (Some bytes) e = subst (λ (r : Result Message BadText). ReadsAs text r) (sym (by_bytes text bytes e)) (found bytes (message_of bytes) e refl)
