-- A message under a new serial or reply serial is its bytes with another number at one place.
use Rattle.std.proofs.Common.{◌≡◌, ℕ, ◌+◌, ◌≤◌, Bool, true, false, cond, IsSome, List, [], ◌∷◌, ◌++◌, length, take, drop, Option, Some, None, Result, Ok, Err, refl, sym, ap, ◌∙◌, append_assoc, arith, rules}
use Rattle.std.specs.Prelude.{◌==◌, is_some, is_none, unwrap_or, option_and_then, option_map}
use Rattle.std.specs.Int.{w32}
use Rattle.std.proofs.lemmas.List.{length-append, append-nil, length-drop, take_at, drop_at, drop-drop}
use Rattle.std.proofs.lemmas.Option.{same_Some}
use Rattle.byte_lists.proofs.Bytes.{empty_is}
use Rattle.byte_lists.specs.Bytes.{AreBytes}
use Rattle.dbus_values.specs.Values.{Value, number_bytes, padding, spelled}
use Rattle.dbus_values.specs.declared.Order.{Order}
use Rattle.dbus_values.specs.declared.Order.TheVariants.{Little, Big}
use Rattle.dbus_values.proofs.ValueRead.{bind_case, when_is}
use Rattle.dbus_names.specs.Names.{is_empty}
use Rattle.dbus_values.specs.Reading.{when}
use Rattle.dbus_header.specs.declared.Malformed.{Malformed}
use Rattle.dbus_values.proofs.ValueLaws.{wide_32}
use Rattle.dbus_header.specs.Message.{Message, Valid, spell, with_serial, with_reply_serial, reply_serial, reply_place, with_number, order_byte, Field, field_value, field_in, number_in, has_field, number_place}
use Rattle.dbus_header.specs.Malformed.{front, order_of, order_in, head_fault, whole_len, whole, fault, fault_in, message_in}
use Rattle.dbus_header.specs.Contents.{Contents, contents_of, IsSerialPlace, IsReplySerialPlace, message_of}
use Rattle.dbus_header.proofs.StreamLaws.{front_parts}
use Rattle.dbus_header.proofs.MessageRead.{front-is}
use Rattle.dbus_header.proofs.WholeMessage.{IsWhole, fault_of_whole, take_all}
use Rattle.dbus_header.proofs.MessageLaws.{spell-with_serial}
use Rattle.dbus_header.proofs.ReplyLaws.{spell-with_reply_serial}

-- a new serial is written at place 8
pub serial_patched : (n : ℕ) (m : Message) → spell (with_serial n m) ≡ with_number m.order 8 n (spell m)
serial_patched n m = spell-with_serial n m

pub patched : (o : Order) (x n place : ℕ) (before after old new : List ℕ) → old ≡ before ++ (number_bytes o w32 x ++ after) → new ≡ before ++ (number_bytes o w32 n ++ after) → place ≡ length before → new ≡ with_number o place n old
patched o x n place before after old new old_is new_is at =
    let front : take place old ≡ before = ap (take place) old_is ∙ take_at before (number_bytes o w32 x ++ after) place (sym at) in
    let behind : drop (place + 4) old ≡ after =
    sym (drop-drop 4 place old)
    ∙ ap (λ (t : List ℕ). drop 4 (drop place t)) old_is
    ∙ ap (drop 4) (drop_at before (number_bytes o w32 x ++ after) place (sym at))
    ∙ drop_at (number_bytes o w32 x) after 4 (wide_32.len o x) in
    new_is
    ∙ sym (append_assoc before (number_bytes o w32 n) after)
    ∙ ap (λ (t : List ℕ). t ++ number_bytes o w32 n ++ after) (sym front)
    ∙ ap (λ (t : List ℕ). take place old ++ number_bytes o w32 n ++ t) (sym behind)

place_is : (place n : ℕ) → ◌≡◌ {A = Option ℕ} (Some place) (Some (0 + n)) → place ≡ n
place_is place n e = let h : place ≡ 0 + n = cc in omega (arith, h)

pub record ReplyPatched (n place : ℕ) (m : Message) : Type 0 where
  pub bytes : spell (with_reply_serial n m) ≡ with_number m.order place n (spell m)
  pub inside : place + 4 ≤ length (spell m)

-- and a new reply serial at the place of its number
pub reply_patched : (n x place : ℕ) (m : Message) → Valid m → reply_serial m ≡ Some x → reply_place m ≡ Some place → ReplyPatched n place m
reply_patched n x place m v r e =
    let one = spell-with_reply_serial n x m v r in
    let at : place ≡ length one.before = place_is place (length one.before) (sym e ∙ one.place_is) in
    record {
      bytes = patched m.order x n place one.before one.after (spell m) (spell (with_reply_serial n m)) one.old_is one.new_is at;
      inside = omega (arith, at, ap length one.old_is, length-append one.before (number_bytes m.order w32 x ++ one.after), length-append (number_bytes m.order w32 x) one.after, wide_32.len m.order x);
    }

pub there : {A : Type 0} (o : Option A) → is_some o ≡ true → (x : A) × (o ≡ Some x)
there None e = absurd cc
there (Some x) e = (x, refl)

pub some_true : {A : Type 0} (o : Option A) → IsSome o → is_some o ≡ true
some_true None s = absurd cc
some_true (Some x) s = refl

-- ---- messages that bytes are

pub record OfBytes (bytes : List ℕ) (m : Message) : Type 0 where
  pub valid : Valid m
  pub bytes_are : bytes ≡ spell m
  pub front_is : front bytes ≡ Some (m, [])
  pub order_is : order_in bytes ≡ m.order

order_spelled : (m : Message) → order_in (spell m) ≡ m.order
unfolding spell
order_spelled m = by m.order
  where
    by : (o : Order) → unwrap_or (order_of (order_byte o)) Little ≡ o
    by Little = refl
    by Big = refl

-- the valid message that bytes are
pub message_of-is : (bytes : List ℕ) (m : Message) → AreBytes bytes → message_of bytes ≡ Some m → OfBytes bytes m
unfolding message_of
message_of-is bytes m are e =
    bind_case (front bytes) (λ x. when (is_empty x.1) x.0) m e (λ x ex e1.
    let w = when_is (is_empty x.1) x.0 m e1 in
    let none : x.1 ≡ [] = empty_is x.1 w.0 in
    let whole : front bytes ≡ Some (m, []) = ex ∙ ap (λ (r : List ℕ). both x.0 r) none ∙ ap (λ (y : Message). both y []) w.1 in
    let f = front-is bytes m [] are whole in
    let is : bytes ≡ spell m = f.1 ∙ append-nil (spell m) in
    record { valid = f.0; bytes_are = is; front_is = whole; order_is = ap order_in is ∙ order_spelled m })
  where
    both : Message → List ℕ → Option (Message × List ℕ)
    both y r = Some (y, r)

-- so they are as many as they state, and their first sixteen are in order
pub is_whole : (bytes : List ℕ) → AreBytes bytes → IsSome (message_of bytes) → IsWhole bytes
is_whole bytes are s =
    let m = there (message_of bytes) (some_true (message_of bytes) s) in
    let f = message_of-is bytes m.0 are m.1 in
    let p = front_parts bytes m.0 [] f.front_is in
    let none : length (drop (whole_len bytes) bytes) ≡ 0 = ap length p.rest in
    let stands = p.stands in
    record { are = are; long = p.long; head = is_none_of (head_fault bytes) p.sound; exact = omega (arith, none, length-drop (whole_len bytes) bytes) }
  where
    is_none_of : (o : Option Malformed) → is_none o ≡ true → o ≡ None
    is_none_of None e = refl
    is_none_of (Some x) e = absurd cc

-- and have no fault
pub accepted : (bytes : List ℕ) → AreBytes bytes → IsSome (message_of bytes) → fault bytes ≡ None
accepted bytes are s =
    let w = is_whole bytes are s in
    let m = there (message_of bytes) (some_true (message_of bytes) s) in
    let f = message_of-is bytes m.0 are m.1 in
    let p = front_parts bytes m.0 [] f.front_is in
    fault_of_whole bytes w ∙ read (whole bytes) m.0 (ap (λ (t : List ℕ). message_in (whole t)) (sym (take_all (whole_len bytes) bytes (sym w.exact))) ∙ p.is)
  where
    read : (r : Result Message Malformed) (m : Message) → message_in r ≡ Some m → fault_in r ≡ None
    read (Ok n) m e = refl
    read (Err k) m e = absurd cc

-- a reply serial's number has a place exactly if there is one
pub place_stands : (o : Order) (p : ℕ) (fs : List Field) → is_some (number_place o p fs) ≡ has_field 5 fs
place_stands o p [] = refl
place_stands o p (f ∷ fs) = go (f.code == 5) (place_stands o (p + length (spelled o p (field_value f))) fs)
  where
    go : (b : Bool) → is_some (number_place o (p + length (spelled o p (field_value f))) fs) ≡ has_field 5 fs → is_some (cond b (Some (p + padding 8 p + 4)) (number_place o (p + length (spelled o p (field_value f))) fs)) ≡ is_some (cond b (Some f.value) (field_in 5 fs))
    go true e = refl
    go false e = e

pub reply_stands : (m : Message) (x : ℕ) → reply_serial m ≡ Some x → (place : ℕ) × (reply_place m ≡ Some place)
reply_stands m x e = there (reply_place m) (place_stands m.order 16 m.fields ∙ holds (field_in 5 m.fields) e)
  where
    holds : (o : Option Value) → number_in o ≡ Some x → is_some o ≡ true
    holds None e = absurd cc
    holds (Some v) e = refl

-- with a new serial
set_serial-is : (n : ℕ) (bytes : List ℕ) (m : Message) → AreBytes bytes → message_of bytes ≡ Some m → with_number m.order 8 n bytes ≡ spell (with_serial n m)
set_serial-is n bytes m are e =
    let f = message_of-is bytes m are e in
    ap (with_number m.order 8 n) f.bytes_are ∙ sym (serial_patched n m)

-- a message has sixteen bytes and more, so the serial has its place
pub serial_at : (bytes : List ℕ) → AreBytes bytes → IsSome (message_of bytes) → IsSerialPlace bytes 8
serial_at bytes are s =
    let m = there (message_of bytes) (some_true (message_of bytes) s) in
    let f = message_of-is bytes m.0 are m.1 in
    let long : 16 ≤ length bytes = (front_parts bytes m.0 [] f.front_is).long in
    record { inside = omega arith; patched = λ n k is. set_serial-is n bytes k are is }

-- with a new reply serial
pub reply_at : (bytes : List ℕ) (place : ℕ) → AreBytes bytes → IsSome (option_and_then reply_serial (message_of bytes)) → option_and_then reply_place (message_of bytes) ≡ Some place → IsReplySerialPlace bytes place
reply_at bytes place are s e = go (message_of bytes) refl s e
  where
    go : (o : Option Message) → message_of bytes ≡ o → IsSome (option_and_then reply_serial o) → option_and_then reply_place o ≡ Some place → IsReplySerialPlace bytes place
    go None is s e = absurd cc
    go (Some m) is s e =
        let f = message_of-is bytes m are is in
        let x = there (reply_serial m) (some_true (reply_serial m) s) in
        let inside = (reply_patched 0 x.0 place m f.valid x.1 e).inside in
        record {
          inside = omega (arith, inside, ap length f.bytes_are);
          patched = λ n k same.
              let k_is : m ≡ k = message_some m k (sym is ∙ same) in
              ap (λ (y : Message). with_number y.order place n bytes) (sym k_is)
              ∙ ap (with_number m.order place n) f.bytes_are
              ∙ sym (reply_patched n x.0 place m f.valid x.1 e).bytes
              ∙ ap (λ (y : Message). spell (with_reply_serial n y)) k_is;
        }
      where
        message_some : (a b : Message) → ◌≡◌ {A = Option Message} (Some a) (Some b) → a ≡ b
        message_some a b e = cc

-- so the place is found if the message has a reply serial
pub reply_none : (bytes : List ℕ) → IsSome (option_and_then reply_serial (message_of bytes)) → option_and_then reply_place (message_of bytes) ≡ None → ⊥
reply_none bytes s e = go (message_of bytes) s e
  where
    go : (o : Option Message) → IsSome (option_and_then reply_serial o) → option_and_then reply_place o ≡ None → ⊥
    go None s e = absurd cc
    go (Some m) s e =
        let x = there (reply_serial m) (some_true (reply_serial m) s) in
        let p = reply_stands m x.0 x.1 in
        let h : Some p.0 ≡ None = sym p.1 ∙ e in
        cc

-- there are four bytes at the place of a message's reply serial
pub reply_inside : (bytes : List ℕ) (q : Contents) → AreBytes bytes → option_map contents_of (message_of bytes) ≡ Some q →
    (x place : ℕ) → q.parts.reply_serial ≡ Some x → q.reply_place ≡ Some place → place + 4 ≤ length bytes
reply_inside bytes q are e x place number at = go (message_of bytes) refl e
  where
    go : (o : Option Message) → message_of bytes ≡ o → option_map contents_of o ≡ Some q → place + 4 ≤ length bytes
    go None is s = absurd cc
    go (Some m) is s =
        let same : contents_of m ≡ q = same_Some (contents_of m) q s in
        let f = message_of-is bytes m are is in
        let inside = (reply_patched 0 x place m f.valid (ap (λ (p : Contents). p.parts.reply_serial) same ∙ number) (ap (λ (p : Contents). p.reply_place) same ∙ at)).inside in
        omega (arith, inside, ap length f.bytes_are)

-- a message with a reply serial is one
pub has_message : (bytes : List ℕ) → IsSome (option_and_then reply_serial (message_of bytes)) → IsSome (message_of bytes)
has_message bytes s = by (message_of bytes) s
  where
    by : (o : Option Message) → IsSome (option_and_then reply_serial o) → IsSome o
    by None s = s
    by (Some m) s = search rules
