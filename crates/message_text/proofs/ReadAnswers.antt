-- What reading a text answers, by the bytes that it gives.
use Rattle.std.proofs.Common.{◌≡◌, ℕ, List, [], Option, Some, None, Result, Ok, Err, refl, sym, ap, ◌∙◌, option_map, IfOk}
use Rattle.std.specs.Prelude.{IsSome}
use Rattle.std.proofs.lemmas.List.{append-nil}
use Rattle.std.proofs.lemmas.Option.{same_Some}
use Rattle.byte_lists.specs.Bytes.{is_empty, AreBytes}
use Rattle.byte_lists.proofs.Options.{some}
use Rattle.dbus_values.specs.Reading.{◌>>=◌, when}
use Rattle.dbus_header.specs.Message.{Message, Valid, spell}
use Rattle.dbus_header.specs.Malformed.{front}
use Rattle.dbus_header.specs.Contents.{Contents, contents_of, message_of}
use Rattle.dbus_header.proofs.MessageAgain.{front-spell}
use Rattle.dbus_header.proofs.NumberLaws.{message_of-is}
use Rattle.message_text.specs.MessageText.{Text, said_message, message_text, ReadsAs, is_message, is_shape, is_neither}
use Rattle.message_text.specs.declared.BadText.{BadText}
use Rattle.message_text.specs.declared.BadText.TheVariants.{Form, NotValid}
use Rattle.message_text.specs.Reading.{read_message}
use Rattle.message_text.specs.TextOf.{IsTextOf}
use Rattle.message_text.proofs.ShapeLaws.{said_shape}
use Rattle.message_text.proofs.TextsRead.{message_bytes, shape_read, message_read, one_message}
use Rattle.message_text.proofs.TextsFound.{shape_found}

message_spelled : (m : Message) → Valid m → message_of (spell m) ≡ Some m
unfolding message_of
message_spelled m v =
    ap (λ (q : Option (Message × List ℕ)). q >>= λ x. when (is_empty x.1) x.0) (ap front (sym (append-nil (spell m))) ∙ front-spell m [] v)

-- the message of the bytes, if it has the text
pub text_answer : (text : Text) (bytes : List ℕ) → IsTextOf bytes text → (m : Message) × ReadsAs text (Ok m) × (bytes ≡ spell m)
text_answer text bytes t = (t.message, is_message t.message t.valid t.text_is, t.bytes_are)

-- the form, but no message
pub shape_answer : (text : Text) (bytes : List ℕ) → read_message text ≡ Some bytes → (IsTextOf bytes text → ⊥) → ReadsAs text (Err NotValid)
shape_answer text bytes e apart =
    let s = shape_found text bytes e in
    is_shape s.0 s.1 s.2 (λ m v is. apart (found m v is))
  where
    found : (m : Message) → Valid m → message_text m ≡ text → IsTextOf bytes text
    found m v is =
        let spelled : bytes ≡ spell m = same_Some bytes (spell m) (sym e ∙ ap read_message (sym is) ∙ message_read m v) in
        record { message = m; valid = v; is = ap message_of spelled ∙ message_spelled m v; bytes_are = spelled; text_is = is }

-- no form
pub no_answer : (text : Text) → read_message text ≡ None → ReadsAs text (Err Form)
no_answer text e = is_neither (λ s h is. never (message_bytes s) (sym e ∙ ap read_message (sym is) ∙ shape_read s h))
  where
    never : (bytes : List ℕ) → None ≡ some bytes → ⊥
    never bytes q = absurd cc

-- ---- whether bytes are the message of a text

there : {A B : Type 0} (f : A → B) (o : Option A) (y : B) → option_map f o ≡ Some y → (x : A) × (o ≡ Some x)
there f None y e = absurd cc
there f (Some x) y e = (x, refl)

pub text_is : (bytes own text printed : List ℕ) (x : Contents) → own ≡ bytes → AreBytes bytes → option_map contents_of (message_of own) ≡ Some x → ((m : Message) → message_of own ≡ Some m → printed ≡ message_text m) → printed ≡ text → IsTextOf bytes text
text_is bytes own text printed x same are read prints e =
    let m = there contents_of (message_of own) x read in
    let found : message_of bytes ≡ Some m.0 = ap message_of (sym same) ∙ m.1 in
    let of = message_of-is bytes m.0 are found in
    record { message = m.0; valid = of.valid; is = found; bytes_are = of.bytes_are; text_is = sym (prints m.0 m.1) ∙ e }

pub text_is_not : (bytes own text printed : List ℕ) → own ≡ bytes → ((m : Message) → message_of own ≡ Some m → printed ≡ message_text m) → (printed ≡ text → ⊥) → IsTextOf bytes text → ⊥
text_is_not bytes own text printed same prints apart t = apart (prints t.message (ap message_of same ∙ t.is) ∙ t.text_is)

pub some_message : (bytes text : List ℕ) → IsTextOf bytes text → IsSome (message_of bytes)
some_message bytes text t = go (message_of bytes) t.is
  where
    go : (o : Option Message) → o ≡ Some t.message → IsSome o
    go None e = absurd cc
    go (Some m) e = refl

-- ---- laws

ok : Message → Result Message BadText
ok m = Ok m

pub read_again : (m : Message) (answer : Result Message BadText) → Valid m → ReadsAs (message_text m) answer → answer ≡ Ok m
unfolding ok
read_again m answer v r = go (message_text m) answer refl r
  where
    go : (text : Text) (answer : Result Message BadText) → text ≡ message_text m → ReadsAs text answer → answer ≡ Ok m
    go text answer is (is_message n w e) = ap ok (one_message n m w v (e ∙ is))
    go text answer is (is_shape s h e none) = absurd (none m v (sym is))
    go text answer is (is_neither none) = absurd (none (said_message m) (said_shape m v) (sym is))

pub printed_again : (text : Text) (answer : Result Message BadText) → ReadsAs text answer → IfOk answer (λ m. Valid m × (message_text m ≡ text))
printed_again text answer (is_message m v e) = (v, e)
printed_again text answer (is_shape s h e none) = tt
printed_again text answer (is_neither none) = tt
