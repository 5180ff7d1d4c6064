-- What is read as a message is valid, and is spelled by the bytes that were taken.
use Rattle.std.proofs.Common.{◌≡◌, ℕ, zero, suc, ◌+◌, ◌-◌, ◌^◌, ◌<◌, ◌≤◌, Bool, true, false, cond, List, [], ◌∷◌, ◌++◌, length, map, take, drop, get_or, replicate, Option, Some, None, Result, Ok, Err, refl, sym, ap, subst, ◌∙◌, append_assoc, arith}
use Rattle.std.specs.Prelude.{not, ◌&&◌, ◌==◌, nat_lt, is_none, is_some, unwrap_or}
use Rattle.std.specs.List.{list_all}
use Rattle.std.specs.Int.{w32}
use Rattle.std.proofs.lemmas.List.{append-nil, take-append-drop, length-take-le, length-drop, drop-drop}
use Rattle.std.proofs.lemmas.Bool.{and_parts, and_from, not-false, ltb-false, le-leb, eqb-true, eqb-false}
use Rattle.std.proofs.lemmas.Option.{same_Some}
use Rattle.byte_lists.proofs.Bytes.{AreBytes-drop, AreBytes-take, two_pieces, empty_is, from_le_bytes-below}
use Rattle.byte_lists.specs.Bytes.{AreBytes}
use Rattle.byte_lists.proofs.Options.{some}
use Rattle.dbus_names.specs.Names.{is_empty}
use Rattle.dbus_types.specs.Signature.{byte, Complete, is_complete, spelled_types}
use Rattle.dbus_values.specs.Values.{Value, a_number, a_variant, a_struct, no_values, value, type_of, padding, zeros, number_bytes, spelled, depth, is_value, is_within}
use Rattle.dbus_values.specs.Reading.{At, ◌>>=◌, when, value_at, value_within, values_at, and_then_all, number_of}
use Rattle.dbus_header.specs.Message.{order_byte, Field, Message, field_value, spelled_list, spelled_fields, body_place, spell, stated, are_valid, are_valid_fields, may_follow, may_all_follow, has_required, has_no_descriptors, Valid}
use Rattle.dbus_header.specs.Malformed.{malformed, order_of, order_in, body_len, serial_in, fields_len, whole_len, head_fault, has_zeros, fields_of, values_in, whole_by, whole, message_in, front, field_type, field_at, field_of, valid_field_at, fields_at}
use Rattle.dbus_values.proofs.ValueRead.{Takes, takes_then, bind_case, when_is, back_32, all_zero-is, nothing_taken}
use Rattle.dbus_values.proofs.ValueIs.{within-is}
use Rattle.dbus_header.proofs.StreamLaws.{front_parts, same_head, whole_len_low}
use Rattle.dbus_header.proofs.MessageAgain.{stated_complete, head, spelled_from}
use Rattle.dbus_values.specs.declared.Order.{Order}
use Rattle.dbus_values.specs.declared.Order.TheVariants.{Little, Big}
use Rattle.dbus_header.specs.declared.Malformed.{Malformed}
use Rattle.dbus_header.specs.declared.MalformedKind.TheVariants.{ByteOrder, MessageType, Version, Length, Serial}

-- ---- fields

field_of-is : (v : Value) (f : Field) → field_of v ≡ Some f → v ≡ field_value f
field_of-is (a_struct (a_number byte c) (value (a_variant v) no_values)) f e = ap field_value (same_Some (record { code = c; value = v }) f e)
field_of-is _ f e = absurd cc

abbrev pub FieldSpelt : Order → At → Field × At → Type 0
FieldSpelt o a x = (is_within 64 (a_variant x.0.value) ≡ true) × (is_value o a.place (field_value x.0) ≡ true) × Takes a (spelled o a.place (field_value x.0)) x.1

pub field_is : (o : Order) (a : At) (x : Field × At) → AreBytes a.bytes → field_at o a ≡ Some x → FieldSpelt o a x
field_is o a x h e =
    bind_case (value_within 66 o field_type a) (λ y. field_of y.0 >>= λ f. Some (f, y.1)) x e (λ y ey e1.
    bind_case (field_of y.0) (λ f. Some (f, y.1)) x e1 (λ f ef e2.
    let s = within-is 66 o field_type a y refl h ey in
    let is = field_of-is y.0 f ef in
    let deep : depth (field_value f) < 66 = subst (λ (v : Value). depth v < 66) is s.deep in
    let sound : is_value o a.place (field_value f) ≡ true = subst (λ (v : Value). is_value o a.place v ≡ true) is s.sound in
    let takes : Takes a (spelled o a.place (field_value f)) y.1 = subst (λ (v : Value). Takes a (spelled o a.place v) y.1) is s.takes in
    subst (FieldSpelt o a) (same_Some (f, y.1) x e2) (le-leb (depth (a_variant f.value)) 64 (omega (arith, deep)), sound, takes)))

abbrev pub FieldsSpelt : Order → List Field → At → List Field × At → Type 0
FieldsSpelt o before a x = (are_valid_fields o a.place x.0 ≡ true) × (may_all_follow before x.0 ≡ true) × Takes a (spelled_from o a.place x.0) x.1

pub fields_are : (n : ℕ) (o : Order) (before : List Field) (a : At) → AreBytes a.bytes → FieldsSpelt o before a (fields_at o n before a)
fields_are zero o before a h = (refl, refl, nothing_taken a h)
fields_are (suc n) o before a h = go (λ f b. fields_are n o (f ∷ before) b) (valid_field_at o before a) refl
  where
    go : ((f : Field) (b : At) → AreBytes b.bytes → FieldsSpelt o (f ∷ before) b (fields_at o n (f ∷ before) b)) → (r : Option (Field × At)) → valid_field_at o before a ≡ r → FieldsSpelt o before a (and_then_all r a (λ f rest. fields_at o n (f ∷ before) rest))
    go ih None e = (refl, refl, nothing_taken a h)
    go ih (Some x) e =
        bind_case (field_at o a) (λ y. when (may_follow before y.0) y) x e (λ y ey e1.
        let w = when_is (may_follow before y.0) y x e1 in
        let s : FieldSpelt o a x = subst (FieldSpelt o a) w.1 (field_is o a y h ey) in
        let follows : may_follow before x.0 ≡ true = ap (λ (z : Field × At). may_follow before z.0) (sym w.1) ∙ w.0 in
        let r = ih x.0 x.1 s.2.are in
        let rest = fields_at o n (x.0 ∷ before) x.1 in
        let next = a.place + length (spelled o a.place (field_value x.0)) in
        let sound : are_valid_fields o next rest.0 ≡ true = subst (λ (p : ℕ). are_valid_fields o p rest.0 ≡ true) s.2.place r.0 in
        let more : Takes x.1 (spelled_from o next rest.0) rest.1 = subst (λ (p : ℕ). Takes x.1 (spelled_from o p rest.0) rest.1) s.2.place r.2 in
        (and_from _ _ (and_from _ _ s.0 s.1) sound, and_from _ _ follows r.1, takes_then a x.1 rest.1 (spelled o a.place (field_value x.0)) (spelled_from o next rest.0) s.2 more))

-- ---- body values

abbrev pub ValuesSpelt : Order → List Complete → At → List Value × At → Type 0
ValuesSpelt o ts a x = (are_valid o a.place x.0 ≡ true) × (length x.0 ≡ length ts → map type_of x.0 ≡ ts) × Takes a (spelled_list o a.place x.0) x.1

less_than_all : {A B : Type 0} (t : A) (ts : List A) (xs : List B) → xs ≡ [] → length xs ≡ length (t ∷ ts) → ⊥
less_than_all t ts xs e h = omega (arith, h, ap length e)

pub values_are : (ts : List Complete) (o : Order) (a : At) → list_all is_complete ts ≡ true → AreBytes a.bytes → ValuesSpelt o ts a (values_at o ts a)
values_are [] o a c h = (refl, λ e. refl, nothing_taken a h)
values_are (t ∷ ts) o a c h = go (values_are ts o) (value_at o t a) refl
  where
    go : ((b : At) → list_all is_complete ts ≡ true → AreBytes b.bytes → ValuesSpelt o ts b (values_at o ts b)) → (r : Option (Value × At)) → value_at o t a ≡ r → ValuesSpelt o (t ∷ ts) a (and_then_all r a (λ v rest. values_at o ts rest))
    go ih None e = (refl, λ k. absurd (omega (arith, k)), nothing_taken a h)
    go ih (Some x) e =
        let cs = and_parts (is_complete t) (list_all is_complete ts) c in
        let s = within-is 65 o t a x cs.0 h e in
        let r = ih x.1 cs.1 s.takes.are in
        let rest = values_at o ts x.1 in
        let next = a.place + length (spelled o a.place x.0) in
        let deep : is_within 64 x.0 ≡ true = le-leb (depth x.0) 64 (omega (arith, s.deep)) in
        let sound : are_valid o next rest.0 ≡ true = subst (λ (p : ℕ). are_valid o p rest.0 ≡ true) s.takes.place r.0 in
        let more : Takes x.1 (spelled_list o next rest.0) rest.1 = subst (λ (p : ℕ). Takes x.1 (spelled_list o p rest.0) rest.1) s.takes.place r.2 in (
          and_from _ _ (and_from _ _ deep s.sound) sound,
          λ k. ap (λ (u : Complete). u ∷ map type_of rest.0) s.type ∙ ap (λ (us : List Complete). t ∷ us) (r.1 (omega (arith, k))),
          takes_then a x.1 rest.1 (spelled o a.place x.0) (spelled_list o next rest.0) s.takes more,
        )

-- ---- the first sixteen bytes

order_byte-is : (b : ℕ) (o : Order) → order_of b ≡ Some o → order_byte o ≡ b
order_byte-is b o e = go (b == 108) refl (b == 66) refl e
  where
    go : (x : Bool) → (b == 108) ≡ x → (y : Bool) → (b == 66) ≡ y → cond x (some Little) (cond y (some Big) None) ≡ Some o → order_byte o ≡ b
    go true p y q e = ap order_byte (sym (same_Some Little o e)) ∙ sym (eqb-true b 108 p)
    go false p true q e = ap order_byte (sym (same_Some Big o e)) ∙ sym (eqb-true b 66 q)
    go false p false q e = absurd cc

order_in-is : (t : List ℕ) (o : Order) → order_of (get_or t 0 0) ≡ Some o → order_in t ≡ o
order_in-is t o e = ap (λ (q : Option Order). unwrap_or q Little) e

-- four bytes are the number that they spell
four : (o : Order) (a b c d : ℕ) → a < 256 → b < 256 → c < 256 → d < 256 → number_bytes o w32 (number_of o w32 (a ∷ b ∷ c ∷ d ∷ [])) ≡ a ∷ b ∷ c ∷ d ∷ []
four o a b c d p q r s = back_32 o (a ∷ b ∷ c ∷ d ∷ []) refl are
  where
    are : AreBytes (a ∷ b ∷ c ∷ d ∷ [])
    are zero = p
    are (suc zero) = q
    are (suc (suc zero)) = r
    are (suc (suc (suc zero))) = s
    are (suc (suc (suc (suc i)))) = omega arith

pub head_is : (t : List ℕ) (o : Order) → 16 ≤ length t → AreBytes t → order_of (get_or t 0 0) ≡ Some o → get_or t 3 0 ≡ 1 → take 16 t ≡ head o (get_or t 1 0) (get_or t 2 0) (number_of o w32 (take 4 (drop 4 t))) (number_of o w32 (take 4 (drop 8 t))) (number_of o w32 (take 4 (drop 12 t)))
head_is (a ∷ b ∷ c ∷ d ∷ e ∷ f ∷ g ∷ h ∷ i ∷ j ∷ k ∷ l ∷ m ∷ n ∷ p ∷ q ∷ t) o long are oe one =
    let first = order_byte-is a o oe in
    let x = four o e f g h (are 4) (are 5) (are 6) (are 7) in
    let y = four o i j k l (are 8) (are 9) (are 10) (are 11) in
    let z = four o m n p q (are 12) (are 13) (are 14) (are 15) in
    let tail : d ∷ (e ∷ f ∷ g ∷ h ∷ []) ++ (i ∷ j ∷ k ∷ l ∷ []) ++ (m ∷ n ∷ p ∷ q ∷ []) ≡ 1 ∷ number_bytes o w32 (number_of o w32 (e ∷ f ∷ g ∷ h ∷ [])) ++ number_bytes o w32 (number_of o w32 (i ∷ j ∷ k ∷ l ∷ [])) ++ number_bytes o w32 (number_of o w32 (m ∷ n ∷ p ∷ q ∷ [])) =
    ap (λ (v : ℕ). v ∷ (e ∷ f ∷ g ∷ h ∷ []) ++ (i ∷ j ∷ k ∷ l ∷ []) ++ (m ∷ n ∷ p ∷ q ∷ [])) one
    ∙ ap (λ (v : List ℕ). 1 ∷ v ++ (i ∷ j ∷ k ∷ l ∷ []) ++ (m ∷ n ∷ p ∷ q ∷ [])) (sym x)
    ∙ ap (λ (v : List ℕ). 1 ∷ number_bytes o w32 (number_of o w32 (e ∷ f ∷ g ∷ h ∷ [])) ++ v ++ (m ∷ n ∷ p ∷ q ∷ [])) (sym y)
    ∙ ap (λ (v : List ℕ). 1 ∷ number_bytes o w32 (number_of o w32 (e ∷ f ∷ g ∷ h ∷ [])) ++ number_bytes o w32 (number_of o w32 (i ∷ j ∷ k ∷ l ∷ [])) ++ v) (sym z) in
    ap (λ (v : ℕ). v ∷ b ∷ c ∷ d ∷ e ∷ f ∷ g ∷ h ∷ i ∷ j ∷ k ∷ l ∷ m ∷ n ∷ p ∷ q ∷ []) (sym first)
    ∙ ap (λ (v : List ℕ). order_byte o ∷ b ∷ c ∷ v) tail
head_is _ o long are oe one = absurd (omega (arith, long))

-- a number of four bytes
pub below : (o : Order) (t : List ℕ) → AreBytes t → number_of o w32 t < 2 ^ 32
below Little t h = from_le_bytes-below t h
below Big t h = omega (arith, h 0, h 1, h 2, h 3)

-- ---- what a head without a fault says

not_both : (b : Bool) (x z : Option Malformed) → is_some x ≡ true → is_none (cond b x z) ≡ true → (b ≡ false) × (is_none z ≡ true)
not_both true None z s e = absurd cc
not_both true (Some x) z s e = absurd cc
not_both false x z s e = (refl, e)

pub record SoundHead (t : List ℕ) : Type 0 where
  pub order : (o : Order) × (order_of (get_or t 0 0) ≡ Some o)
  pub kind : 0 < get_or t 1 0
  pub version : get_or t 3 0 ≡ 1
  pub fields : fields_len t ≤ 2 ^ 26
  pub len : whole_len t ≤ 2 ^ 27
  pub serial : 0 < serial_in t

pub sound_head : (t : List ℕ) → is_none (head_fault t) ≡ true → SoundHead t
unfolding head_fault
sound_head t e =
    let one = not_both (is_none (order_of (get_or t 0 0))) (malformed ByteOrder 0) _ refl e in
    let two = not_both (get_or t 1 0 == 0) (malformed MessageType 1) _ refl one.1 in
    let three = not_both (not (get_or t 3 0 == 1)) (malformed Version 3) _ refl two.1 in
    let length_ = not_both (nat_lt (2 ^ 26) (fields_len t)) (malformed Length 12) _ refl three.1 in
    let five = not_both (nat_lt (2 ^ 27) (whole_len t)) (malformed Length 4) _ refl length_.1 in
    let six = not_both (serial_in t == 0) (malformed Serial 8) _ refl five.1 in
    record {
      order = there (order_of (get_or t 0 0)) one.0;
      kind = positive (get_or t 1 0) (eqb-false (get_or t 1 0) 0 two.0);
      version = eqb-true (get_or t 3 0) 1 (not-false (get_or t 3 0 == 1) three.0);
      fields = ltb-false (2 ^ 26) (fields_len t) length_.0;
      len = ltb-false (2 ^ 27) (whole_len t) five.0;
      serial = positive (serial_in t) (eqb-false (serial_in t) 0 six.0);
    }
  where
    there : (q : Option Order) → is_none q ≡ false → (o : Order) × (q ≡ Some o)
    there None e = absurd cc
    there (Some o) e = (o, refl)

    positive : (n : ℕ) → (n ≡ 0 → ⊥) → 0 < n
    positive zero h = absurd (h refl)
    positive (suc n) h = omega arith

-- ---- a whole message

guard_ok : (b : Bool) (f : Malformed) (z : Result Message Malformed) (m : Message) → cond b (Err f) z ≡ Ok m → (b ≡ false) × (z ≡ Ok m)
guard_ok true f z m e = absurd cc
guard_ok false f z m e = (refl, e)

abbrev ok : Message → Result Message Malformed
ok m = Ok m

ok_is : (m n : Message) → ok m ≡ ok n → m ≡ n
ok_is m n e = cc

abbrev pub built : List ℕ → List Field → List Value → Message
built t fields body = record { order = order_in t; kind = get_or t 1 0; flags = get_or t 2 0; serial = serial_in t; fields = fields; body = body }

pub record Checked (t : List ℕ) (m : Message) : Type 0 where
  pub fields_end : (fields_of t).1.bytes ≡ []
  pub gap : has_zeros t ≡ true
  pub required : has_required (get_or t 1 0) (fields_of t).0 ≡ true
  pub count : length (values_in t (stated (fields_of t).0)).0 ≡ length (stated (fields_of t).0)
  pub body_end : (values_in t (stated (fields_of t).0)).1.bytes ≡ []
  pub descriptors : has_no_descriptors (fields_of t).0 ≡ true
  pub is : built t (fields_of t).0 (values_in t (stated (fields_of t).0)).0 ≡ m

pub checked : (t : List ℕ) (m : Message) → whole t ≡ Ok m → Checked t m
unfolding whole
checked t m e = go (fields_of t) (values_in t (stated (fields_of t).0)) refl refl e
  where
    go : (f : List Field × At) (v : List Value × At) → fields_of t ≡ f → values_in t (stated (fields_of t).0) ≡ v → whole_by t (fields_of t) (values_in t (stated (fields_of t).0)) ≡ Ok m → Checked t m
    go f v p q e =
        let fields = fields_of t in
        let body = values_in t (stated (fields_of t).0) in
        let one = guard_ok (not (is_empty fields.1.bytes && has_zeros t)) _ _ m e in
        let two = guard_ok (not (has_required (get_or t 1 0) fields.0)) _ _ m one.1 in
        let three = guard_ok (not (length body.0 == length (stated fields.0) && is_empty body.1.bytes)) _ _ m two.1 in
        let last = guard_ok (not (has_no_descriptors fields.0)) _ _ m three.1 in
        let a = and_parts (is_empty fields.1.bytes) (has_zeros t) (not-false _ one.0) in
        let b = and_parts (length body.0 == length (stated fields.0)) (is_empty body.1.bytes) (not-false _ three.0) in
        record {
          fields_end = empty_is fields.1.bytes a.0;
          gap = a.1;
          required = not-false _ two.0;
          count = eqb-true (length body.0) (length (stated fields.0)) b.0;
          body_end = empty_is body.1.bytes b.1;
          descriptors = not-false _ last.0;
          is = ok_is (built t fields.0 body.0) m last.1;
        }

-- a list in four parts
pub pieces : {A : Type 0} (a b c : ℕ) (t : List A) → take a t ++ take b (drop a t) ++ take c (drop (a + b) t) ++ drop (a + b + c) t ≡ t
pieces a b c t =
    append_assoc (take a t ++ take b (drop a t)) (take c (drop (a + b) t)) (drop (a + b + c) t)
    ∙ ap (λ (x : List _). take a t ++ take b (drop a t) ++ (take c (drop (a + b) t) ++ x)) (sym (drop-drop c (a + b) t))
    ∙ ap (λ (x : List _). take a t ++ take b (drop a t) ++ x) (take-append-drop c (drop (a + b) t))
    ∙ two_pieces a b t

module _ (t : List ℕ) (m : Message) (are : AreBytes t) (long : 16 ≤ length t) (no_fault : is_none (head_fault t) ≡ true) (exact : whole_len t ≡ length t) (read : whole t ≡ Ok m) where
  sound : SoundHead t
  sound = sound_head t no_fault

  check : Checked t m
  check = checked t m read

  abbrev o : Order
  o = order_in t

  order_is : order_of (get_or t 0 0) ≡ Some o
  order_is = sound.order.1 ∙ ap some (sym (order_in-is t sound.order.0 sound.order.1))

  abbrev n : ℕ
  n = fields_len t

  abbrev fields : List Field × At
  fields = fields_of t

  abbrev body : List Value × At
  body = values_in t (stated fields.0)

  bytes_len : length t ≡ 16 + n + padding 8 (16 + n) + body_len t
  bytes_len = sym exact

  fields_spelt : FieldsSpelt o [] (record { place = 16; bytes = take n (drop 16 t) }) fields
  fields_spelt = fields_are n o [] (record { place = 16; bytes = take n (drop 16 t) }) (AreBytes-take n (drop 16 t) (AreBytes-drop 16 t are))

  abbrev field_bytes : List ℕ
  field_bytes = spelled_fields o fields.0

  front_is : take n (drop 16 t) ≡ field_bytes
  front_is = fields_spelt.2.bytes ∙ ap (λ (x : List ℕ). field_bytes ++ x) check.fields_end ∙ append-nil field_bytes

  fields_len_is : length field_bytes ≡ n
  fields_len_is = ap length (sym front_is) ∙ length-take-le n (drop 16 t) (omega (arith, length-drop 16 t, bytes_len))

  gap_is : take (padding 8 (16 + n)) (drop (16 + n) t) ≡ zeros 8 (16 + n)
  gap_is =
      all_zero-is (take (padding 8 (16 + n)) (drop (16 + n) t)) check.gap
      ∙ ap (λ (k : ℕ). replicate k 0) (length-take-le (padding 8 (16 + n)) (drop (16 + n) t) (omega (arith, length-drop (16 + n) t, bytes_len)))

  complete : list_all is_complete (stated fields.0) ≡ true
  complete = stated_complete fields.0 o 16 fields_spelt.0

  body_spelt : ValuesSpelt o (stated fields.0) (record { place = body_place n; bytes = drop (body_place n) t }) body
  body_spelt = values_are (stated fields.0) o (record { place = body_place n; bytes = drop (body_place n) t }) complete (AreBytes-drop (body_place n) t are)

  abbrev body_bytes : List ℕ
  body_bytes = spelled_list o (body_place n) body.0

  back_is : drop (body_place n) t ≡ body_bytes
  back_is = body_spelt.2.bytes ∙ ap (λ (x : List ℕ). body_bytes ++ x) check.body_end ∙ append-nil body_bytes

  body_len_is : length body_bytes ≡ body_len t
  body_len_is = ap length (sym back_is) ∙ length-drop (body_place n) t ∙ minus (length t) (body_place n) (body_len t) bytes_len
    where
      minus : (a b c : ℕ) → a ≡ b + c → a - b ≡ c
      minus a b c e = omega arith

  abbrev as_spelled : ℕ → ℕ → List ℕ
  as_spelled k b = head o (get_or t 1 0) (get_or t 2 0) b (serial_in t) k ++ field_bytes ++ zeros 8 (16 + k) ++ spelled_list o (body_place k) body.0

  spelled_so : spell (built t fields.0 body.0) ≡ t
  unfolding spell
  spelled_so =
      ap (λ (k : ℕ). as_spelled k (length (spelled_list o (body_place k) body.0))) fields_len_is
      ∙ ap (λ (b : ℕ). as_spelled n b) body_len_is
      ∙ ap (λ (x : List ℕ). x ++ field_bytes ++ zeros 8 (16 + n) ++ body_bytes) (sym (head_is t o long are order_is sound.version))
      ∙ ap (λ (x : List ℕ). take 16 t ++ x ++ zeros 8 (16 + n) ++ body_bytes) (sym front_is)
      ∙ ap (λ (x : List ℕ). take 16 t ++ take n (drop 16 t) ++ x ++ body_bytes) (sym gap_is)
      ∙ ap (λ (x : List ℕ). take 16 t ++ take n (drop 16 t) ++ take (padding 8 (16 + n)) (drop (16 + n) t) ++ x) (sym back_is)
      ∙ pieces 16 n (padding 8 (16 + n)) t

  built_valid : Valid (built t fields.0 body.0)
  built_valid = record {
    kind = (sound.kind, are 1);
    flags = are 2;
    serial = (sound.serial, below o (take 4 (drop 8 t)) (AreBytes-take 4 (drop 8 t) (AreBytes-drop 8 t are)));
    field_values = fields_spelt.0;
    field_list = fields_spelt.1;
    fields_len = omega (arith, fields_len_is, sound.fields);
    required = check.required;
    descriptors = check.descriptors;
    body_values = ap (λ (k : ℕ). are_valid o (body_place k) body.0) fields_len_is ∙ body_spelt.0;
    agreement = ap spelled_types (sym (body_spelt.1 check.count));
    len = omega (arith, ap length spelled_so, sym exact, sound.len);
  }

  pub whole_is_valid : Valid m × (spell m ≡ t)
  whole_is_valid = subst (λ (x : Message). Valid x × (spell x ≡ t)) check.is (built_valid, spelled_so)

  -- the body's bytes
  pub body_is : drop (body_place (fields_len t)) t ≡ spelled_list m.order (body_place (length (spelled_fields m.order m.fields))) m.body
  body_is =
      subst (λ (x : Message). drop (body_place (fields_len t)) t ≡ spelled_list x.order (body_place (length (spelled_fields x.order x.fields))) x.body) check.is
      (back_is ∙ ap (λ (k : ℕ). spelled_list o (body_place k) body.0) (sym fields_len_is))

-- what is read from the start is a valid message, and its spelling and the rest are the bytes
pub front-is : (s : List ℕ) (m : Message) (r : List ℕ) → AreBytes s → front s ≡ Some (m, r) → Valid m × (s ≡ spell m ++ r)
front-is s m r are e =
    let f = front_parts s m r e in
    let t = take (whole_len s) s in
    let split : t ++ drop (whole_len s) s ≡ s = take-append-drop (whole_len s) s in
    let len : length t ≡ whole_len s = length-take-le (whole_len s) s f.stands in
    let long : 16 ≤ length t = omega (arith, len, whole_len_low s) in
    let same = same_head t (drop (whole_len s) s) long in
    let no_fault : is_none (head_fault t) ≡ true = ap is_none (sym same.0) ∙ ap (λ (x : List ℕ). is_none (head_fault x)) split ∙ f.sound in
    let exact : whole_len t ≡ length t = sym same.1 ∙ ap whole_len split ∙ sym len in
    let v = whole_is_valid t m (AreBytes-take (whole_len s) s are) long no_fault exact (is_read (whole t) f.is) in
    (v.0, sym split ∙ ap (λ (x : List ℕ). x ++ drop (whole_len s) s) (sym v.1) ∙ ap (λ (x : List ℕ). spell m ++ x) f.rest)
  where
    is_read : (q : Result Message Malformed) → message_in q ≡ Some m → q ≡ Ok m
    is_read (Ok n) h = ap ok (same_Some n m h)
    is_read (Err f) h = absurd cc
