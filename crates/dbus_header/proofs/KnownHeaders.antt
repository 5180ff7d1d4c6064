-- Header fields that equal fields that were read, except for the number of REPLY_SERIAL, are read as those were.
use Rattle.std.proofs.Common.{◌≡◌, ℕ, ◌+◌, ◌-◌, ◌^◌, ◌<◌, ◌≤◌, Bool, true, false, cond, List, [], ◌∷◌, ◌++◌, length, map, take, drop, Option, Some, None, option_map, refl, sym, ap, subst, ◌∙◌, append_assoc, append-nil, arith, inl, inr}
use Rattle.std.specs.Prelude.{◌&&◌, ◌||◌, ◌==◌, ◌⊎◌, not, nat_le, nat_lt, is_some, bytes_eq}
use Rattle.std.specs.Int.{w32}
use Rattle.std.proofs.lemmas.List.{length-append, length-take-le, length-drop, take-take, drop-drop, drop-take, take_at, drop_at, take-append-drop}
use Rattle.std.proofs.lemmas.Bool.{and_parts, eqb-true, leb-true, ltb-true, or_cases, not-false}
use Rattle.std.proofs.lemmas.Option.{same_Some}
use Rattle.byte_lists.proofs.Options.{some}
use Rattle.std.specs.Str.{is_utf8}
use Rattle.byte_lists.proofs.Bytes.{AreBytes-drop, AreBytes-take, two_pieces, empty_is, bytes_eq-true}
use Rattle.byte_lists.specs.Bytes.{AreBytes}
use Rattle.dbus_names.specs.Names.{is_empty}
use Rattle.dbus_types.specs.Signature.{uint32, signature_fault}
use Rattle.dbus_values.specs.Values.{Value, a_number, a_variant, padding, number_bytes, spelled, is_value, is_within}
use Rattle.dbus_values.specs.Reading.{At, all_zero, number_of}
use Rattle.dbus_values.specs.declared.Order.{Order}
use Rattle.dbus_values.proofs.ValueLaws.{again_32, wide_32}
use Rattle.dbus_values.proofs.ValueRead.{back_32}
use Rattle.dbus_header.specs.Message.{Field, body_place, field_value, field_in, has_field, text_in, number_in, has_unknown, is_unknown, is_field_of, may_follow, may_all_follow, are_valid_fields, number_place}
use Rattle.dbus_header.specs.Malformed.{malformed, order_in, fields_len, fields_of, fields_at, has_zeros}
use Rattle.dbus_header.specs.declared.Malformed.{Malformed}
use Rattle.dbus_header.specs.declared.MalformedKind.TheVariants.{Fields}
use Rattle.dbus_header.specs.HeaderReading.{Found, nothing_found, number_at}
use Rattle.dbus_header.specs.HeaderFields.{spelled_in, found_of}
use Rattle.dbus_header.specs.Whole.{IsFieldsLen, fields_fault, fields_found}
use Rattle.dbus_header.specs.Seen.{fields_seen, text_seen, signature_seen}
use Rattle.dbus_header.specs.declared.fields.Fields.{Fields as FieldsRead}
use Rattle.dbus_types.specs.declared.signature.Signature.{Signature}
use denote.Bor.{Bor}
use Rattle.dbus_header.specs.KnownHeaders.{BeginsAt, BeginsIn, OfText, OfSignature, AllBeginAt, AllBeginIn, NumberIn, fields_bytes, fields_by, AreRead, cut, found_at, is_apart, HasText, HasSignature, AreWithin, AreApart, AreKnown, AreAlike}
use Rattle.dbus_header.specs.declared.spans.Span.{Span}
use Rattle.dbus_header.specs.declared.spans.Places.{Places}
use Rattle.dbus_header.proofs.MessageAgain.{spelled_from, fields_again}
use Rattle.dbus_header.proofs.MessageRead.{FieldsSpelt, fields_are, below}
use Rattle.dbus_header.proofs.FoundParts.{number_holds}
use Rattle.dbus_header.proofs.ReplyLaws.{OneNumber, set_reply, reply_field, is_reply, fields_reply}
use Rattle.dbus_header.proofs.ValidLaws.{code_is, field_same, follow_same, values_same, one_len}
use Rattle.dbus_header.proofs.NumberLaws.{patched, there, place_stands}
use Rattle.dbus_header.proofs.WholeMessage.{stands}

-- ---- the fields of a message depend only on its order and their own bytes

module _ (t : List ℕ) (o : Order) (n : ℕ) (order : o ≡ order_in t) (len : IsFieldsLen t n) where
  fields_same : fields_of t ≡ fields_by o n (fields_bytes n t)
  fields_same =
      ap (λ (p : Order). fields_at p (fields_len t) [] (record { place = 16; bytes = take (fields_len t) (drop 16 t) })) (sym order)
      ∙ ap (λ (k : ℕ). fields_at o k [] (record { place = 16; bytes = take k (drop 16 t) })) (sym len.stated)
      ∙ ap (λ (b : List ℕ). fields_at o n [] (record { place = 16; bytes = b })) (sym (take-take n (body_place n - 16) (drop 16 t) (omega arith)))

  zeros_same : has_zeros t ≡ all_zero (drop n (fields_bytes n t))
  zeros_same =
      let behind : n + padding 8 (16 + n) ≡ body_place n - 16 = omega arith in
      ap (λ (k : ℕ). all_zero (take (padding 8 (16 + k)) (drop (16 + k) t))) (sym len.stated)
      ∙ ap (λ (b : List ℕ). all_zero (take (padding 8 (16 + n)) b)) (sym (drop-drop n 16 t))
      ∙ ap all_zero (sym (drop-take n (padding 8 (16 + n)) (drop 16 t)))
      ∙ ap (λ (k : ℕ). all_zero (drop n (take k (drop 16 t)))) behind

  -- the fields of a message that have no fault are read, and so are their bytes
  pub read-found : (found : Found) → None ≡ fields_fault t → found ≡ fields_found t → AreRead o n (fields_bytes n t) found
  read-found found sound is = record {
    sound = sym (same fields_same zeros_same) ∙ no_fault (is_empty (fields_of t).1.bytes && has_zeros t) (sym sound);
    is = is ∙ ap (λ (p : Order). found_of p (fields_of t).0) (sym order) ∙ ap (λ (x : List Field × At). found_of o x.0) fields_same;
  }
    where
      same : fields_of t ≡ fields_by o n (fields_bytes n t) → has_zeros t ≡ all_zero (drop n (fields_bytes n t)) →
          (is_empty (fields_of t).1.bytes && has_zeros t) ≡ (is_empty (fields_by o n (fields_bytes n t)).1.bytes && all_zero (drop n (fields_bytes n t)))
      same e z = ap (λ (x : List Field × At). is_empty x.1.bytes && has_zeros t) e ∙ ap (λ (b : Bool). is_empty (fields_by o n (fields_bytes n t)).1.bytes && b) z

      no_fault : (b : Bool) → cond b None (malformed Fields (fields_of t).1.place) ≡ None → b ≡ true
      no_fault true e = refl
      no_fault false e = absurd cc

  pub found-read : (found : Found) → AreRead o n (fields_bytes n t) found → (None ≡ fields_fault t) × (found ≡ fields_found t)
  found-read found read = (
    sym (ap (λ (b : Bool). cond b none (malformed Fields (fields_of t).1.place))
        (ap (λ (x : List Field × At). is_empty x.1.bytes && has_zeros t) fields_same
        ∙ ap (λ (b : Bool). is_empty (fields_by o n (fields_bytes n t)).1.bytes && b) zeros_same
        ∙ read.sound)),
    read.is ∙ ap (λ (x : List Field × At). found_of o x.0) (sym fields_same) ∙ ap (λ (p : Order). found_of p (fields_of t).0) order,
  )
    where
      none : Option Malformed
      none = None

-- ---- what is found with another reply serial

abbrev pub with_reply : ℕ → Found → Found
with_reply y found = record found { parts = record (found.parts) { reply_serial = Some y } }

module _ (y : ℕ) (low : 0 < y) (high : y < 2 ^ 32) where
  unknown_same : (fs : List Field) → has_unknown (map (set_reply y) fs) ≡ has_unknown fs
  unknown_same [] = refl
  unknown_same (f ∷ fs) = ap (λ (k : ℕ). nat_lt 9 k || has_unknown (map (set_reply y) fs)) (code_is y low high f) ∙ ap (λ (b : Bool). is_unknown f || b) (unknown_same fs)

  place_same : (o : Order) (p : ℕ) (fs : List Field) → number_place o p (map (set_reply y) fs) ≡ number_place o p fs
  place_same o p [] = refl
  place_same o p (f ∷ fs) =
      ap (λ (k : ℕ). cond (k == 5) (Some (p + padding 8 p + 4)) (number_place o (p + length (spelled o p (field_value (set_reply y f)))) (map (set_reply y) fs))) (code_is y low high f)
      ∙ by (f.code == 5) (λ q. place_same o q fs)
    where
      by : (b : Bool) → ((q : ℕ) → number_place o q (map (set_reply y) fs) ≡ number_place o q fs) →
          cond b (Some (p + padding 8 p + 4)) (number_place o (p + length (spelled o p (field_value (cond b (record f { value = a_number uint32 y }) f)))) (map (set_reply y) fs))
          ≡ cond b (Some (p + padding 8 p + 4)) (number_place o (p + length (spelled o p (field_value f))) fs)
      by true ih = refl
      by false ih = ih (p + length (spelled o p (field_value f)))

  number_new : (fs : List Field) → has_field 5 fs ≡ true → number_in (field_in 5 (map (set_reply y) fs)) ≡ Some y
  number_new [] has = absurd cc
  number_new (f ∷ fs) has =
      ap (λ (k : ℕ). number_in (cond (k == 5) (some_value (set_reply y f).value) (field_in 5 (map (set_reply y) fs)))) (code_is y low high f)
      ∙ by (f.code == 5) (number_new fs) has
    where
      some_value : Value → Option Value
      some_value v = Some v

      by : (b : Bool) → (has_field 5 fs ≡ true → number_in (field_in 5 (map (set_reply y) fs)) ≡ Some y) → is_some (cond b (some_value f.value) (field_in 5 fs)) ≡ true →
          number_in (cond b (some_value (cond b (record f { value = a_number uint32 y }) f).value) (field_in 5 (map (set_reply y) fs))) ≡ Some y
      by true ih has = refl
      by false ih has = ih has

  abbrev made : Option ℕ → Bool → Option Value → Option Value → Option Value → Option Value → Option ℕ → Option Value → Option Value → Option Value → Option Value → Found
  made place unknown a b c d e f g h i = record {
    parts = record { path = text_in a; interface = text_in b; member = text_in c; error_name = text_in d; reply_serial = e; destination = text_in f; sender = text_in g };
    reply_place = place;
    unknown = unknown;
    signature = spelled_in h;
    descriptors = number_in i;
  }

  found_reply : (o : Order) (fs : List Field) → has_field 5 fs ≡ true → with_reply y (found_of o fs) ≡ found_of o (map (set_reply y) fs)
  found_reply o fs has =
      let new = map (set_reply y) fs in
      let s : (c : ℕ) → (c == 5) ≡ false → field_in c fs ≡ field_in c new = λ c e. sym (field_same y low high c fs e) in
      let old : ℕ → Option Value = λ c. field_in c fs in
      let now : ℕ → Option Value = λ c. field_in c new in
      ap (λ (p : Option ℕ). made p (has_unknown fs) (old 1) (old 2) (old 3) (old 4) (Some y) (old 6) (old 7) (old 8) (old 9)) (sym (place_same o 16 fs))
      ∙ ap (λ (b : Bool). made (number_place o 16 new) b (old 1) (old 2) (old 3) (old 4) (Some y) (old 6) (old 7) (old 8) (old 9)) (sym (unknown_same fs))
      ∙ ap (λ (x : Option Value). made (number_place o 16 new) (has_unknown new) x (old 2) (old 3) (old 4) (Some y) (old 6) (old 7) (old 8) (old 9)) (s 1 refl)
      ∙ ap (λ (x : Option Value). made (number_place o 16 new) (has_unknown new) (now 1) x (old 3) (old 4) (Some y) (old 6) (old 7) (old 8) (old 9)) (s 2 refl)
      ∙ ap (λ (x : Option Value). made (number_place o 16 new) (has_unknown new) (now 1) (now 2) x (old 4) (Some y) (old 6) (old 7) (old 8) (old 9)) (s 3 refl)
      ∙ ap (λ (x : Option Value). made (number_place o 16 new) (has_unknown new) (now 1) (now 2) (now 3) x (Some y) (old 6) (old 7) (old 8) (old 9)) (s 4 refl)
      ∙ ap (λ (x : Option ℕ). made (number_place o 16 new) (has_unknown new) (now 1) (now 2) (now 3) (now 4) x (old 6) (old 7) (old 8) (old 9)) (sym (number_new fs has))
      ∙ ap (λ (x : Option Value). made (number_place o 16 new) (has_unknown new) (now 1) (now 2) (now 3) (now 4) (number_in (now 5)) x (old 7) (old 8) (old 9)) (s 6 refl)
      ∙ ap (λ (x : Option Value). made (number_place o 16 new) (has_unknown new) (now 1) (now 2) (now 3) (now 4) (number_in (now 5)) (now 6) x (old 8) (old 9)) (s 7 refl)
      ∙ ap (λ (x : Option Value). made (number_place o 16 new) (has_unknown new) (now 1) (now 2) (now 3) (now 4) (number_in (now 5)) (now 6) (now 7) x (old 9)) (s 8 refl)
      ∙ ap (λ (x : Option Value). made (number_place o 16 new) (has_unknown new) (now 1) (now 2) (now 3) (now 4) (number_in (now 5)) (now 6) (now 7) (now 8) x) (s 9 refl)

-- ---- fields that were read

-- the bytes are these valid fields, spelled, and zeros
record AreSpelt (o : Order) (n : ℕ) (bytes : List ℕ) (fs : List Field) : Type 0 where
  valid : are_valid_fields o 16 fs ≡ true
  follow : may_all_follow [] fs ≡ true
  text : take n bytes ≡ spelled_from o 16 fs
  zeros : all_zero (drop n bytes) ≡ true

are_spelt : (o : Order) (n : ℕ) (bytes : List ℕ) (found : Found) → AreBytes bytes → AreRead o n bytes found → AreSpelt o n bytes (fields_by o n bytes).0
are_spelt o n bytes found are read =
    let fields = fields_by o n bytes in
    let spelt : FieldsSpelt o [] (record { place = 16; bytes = take n bytes }) fields = fields_are n o [] (record { place = 16; bytes = take n bytes }) (AreBytes-take n bytes are) in
    let parts = and_parts (is_empty fields.1.bytes) (all_zero (drop n bytes)) read.sound in
    record {
      valid = spelt.0;
      follow = spelt.1;
      text = spelt.2.bytes ∙ ap (λ (r : List ℕ). spelled_from o 16 fields.0 ++ r) (empty_is fields.1.bytes parts.0) ∙ append-nil (spelled_from o 16 fields.0);
      zeros = parts.1;
    }

-- if REPLY_SERIAL's number has a place, it is there
placed_number : (o : Order) (n : ℕ) (bytes : List ℕ) (fs : List Field) → AreSpelt o n bytes fs → (p : ℕ) → number_place o 16 fs ≡ Some p → (x : ℕ) × (number_in (field_in 5 fs) ≡ Some x)
placed_number o n bytes fs spelt p place = there (number_in (field_in 5 fs)) (stands number_in 5 refl (number_holds _) fs [] spelt.follow ∙ sym (place_stands o 16 fs) ∙ ap is_some place)

-- it has four bytes
number_small : (fields before : List Field) (o : Order) (p x : ℕ) → may_all_follow before fields ≡ true → are_valid_fields o p fields ≡ true → number_in (field_in 5 fields) ≡ Some x → x < 2 ^ 32
unfolding reply_field
number_small [] before o p x m v e = absurd cc
number_small (f ∷ fields) before o p x m v e = by (λ k. number_small fields (f ∷ before) o (p + length (spelled o p (field_value f))) x a.1 t.1 k) (f.code == 5) refl e
  where
    a : (may_follow before f ≡ true) × (may_all_follow (f ∷ before) fields ≡ true)
    a = and_parts (may_follow before f) (may_all_follow (f ∷ before) fields) m

    t : (((is_within 64 (a_variant f.value)) && is_value o p (field_value f)) ≡ true) × (are_valid_fields o (p + length (spelled o p (field_value f))) fields ≡ true)
    t = and_parts (is_within 64 (a_variant f.value) && is_value o p (field_value f)) (are_valid_fields o (p + length (spelled o p (field_value f))) fields) v

    by : (number_in (field_in 5 fields) ≡ Some x → x < 2 ^ 32) → (b : Bool) → (f.code == 5) ≡ b → number_in (cond b (Some f.value) (field_in 5 fields)) ≡ Some x → x < 2 ^ 32
    by later false five e = later e
    by later true five e =
        let rules = and_parts (is_field_of f.code f.value) (nat_lt 9 f.code || not (has_field f.code before)) a.0 in
        let is = is_reply f (eqb-true f.code 5 five) rules.0 in
        let same : is.0 ≡ x = same_Some is.0 x (ap (λ (g : Field). number_in (some g.value)) (sym is.1) ∙ e) in
        let valid : (nat_lt is.0 (2 ^ 32) && true) ≡ true = ap (λ (g : Field). is_within 64 (a_variant g.value) && is_value o p (field_value g)) (sym is.1) ∙ t.0 in
        let small : is.0 < 2 ^ 32 = ltb-true is.0 (2 ^ 32) (and_parts (nat_lt is.0 (2 ^ 32)) true valid).0 in
        omega (arith, same, small)

-- ---- bytes with another reply serial

module _ (o : Order) (n : ℕ) (kept bytes : List ℕ) (found : Found) (at : ℕ) (kept_are : AreBytes kept) (are : AreBytes bytes) (as_long : length bytes ≡ length kept) (few : n ≤ length kept) (inside : at + 4 ≤ length kept)
    (read : AreRead o n kept found) (placed : found.reply_place ≡ Some (16 + at)) (front : take at kept ≡ take at bytes) (back : drop (at + 4) kept ≡ drop (at + 4) bytes) (low : 0 < number_at o bytes at) where
  abbrev y : ℕ
  y = number_at o bytes at

  abbrev fs : List Field
  fs = (fields_by o n kept).0

  abbrev new : List Field
  new = map (set_reply y) fs

  high : y < 2 ^ 32
  high = below o (take 4 (drop at bytes)) (AreBytes-take 4 (drop at bytes) (AreBytes-drop at bytes are))

  spelt : AreSpelt o n kept fs
  spelt = are_spelt o n kept found kept_are read

  place_is : number_place o 16 fs ≡ Some (16 + at)
  place_is = ap (λ (f : Found). f.reply_place) (sym read.is) ∙ placed

  has : has_field 5 fs ≡ true
  has = sym (place_stands o 16 fs) ∙ ap is_some place_is

  number : (x : ℕ) × (number_in (field_in 5 fs) ≡ Some x)
  number = placed_number o n kept fs spelt (16 + at) place_is

  one : OneNumber o number.0 y 16 (number_place o 16 fs) (spelled_from o 16 fs) (spelled_from o 16 new)
  one = fields_reply y o fs [] 16 number.0 refl spelt.follow number.1

  at_is : at ≡ length one.before
  at_is = same (sym place_is ∙ one.place_is)
    where
      same : ◌≡◌ {A = Option ℕ} (Some (16 + at)) (Some (16 + length one.before)) → at ≡ length one.before
      same e = let h : 16 + at ≡ 16 + length one.before = cc in omega (arith, h)

  behind : List ℕ → List ℕ → List ℕ
  behind number rest = one.before ++ (number ++ (one.after ++ rest))

  joined : (number rest : List ℕ) → (one.before ++ (number ++ one.after)) ++ rest ≡ one.before ++ (number ++ (one.after ++ rest))
  joined number rest = append_assoc one.before (number ++ one.after) rest ∙ ap (λ (t : List ℕ). one.before ++ t) (append_assoc number one.after rest)

  kept_is : kept ≡ one.before ++ (number_bytes o w32 number.0 ++ (one.after ++ drop n kept))
  kept_is = sym (take-append-drop n kept) ∙ ap (λ (t : List ℕ). t ++ drop n kept) (spelt.text ∙ one.old_is) ∙ joined (number_bytes o w32 number.0) (drop n kept)

  new_is : spelled_from o 16 new ++ drop n kept ≡ one.before ++ (number_bytes o w32 y ++ (one.after ++ drop n kept))
  new_is = ap (λ (t : List ℕ). t ++ drop n kept) one.new_is ∙ joined (number_bytes o w32 y) (drop n kept)

  number_is : number_bytes o w32 y ≡ take 4 (drop at bytes)
  number_is = back_32 o (take 4 (drop at bytes)) (length-take-le 4 (drop at bytes) (omega (arith, as_long, inside, length-drop at bytes))) (AreBytes-take 4 (drop at bytes) (AreBytes-drop at bytes are))

  bytes_are : bytes ≡ spelled_from o 16 new ++ drop n kept
  bytes_are =
      sym (two_pieces at 4 bytes)
      ∙ ap (λ (t : List ℕ). t ++ take 4 (drop at bytes) ++ drop (at + 4) bytes) (sym front)
      ∙ ap (λ (t : List ℕ). take at kept ++ t ++ drop (at + 4) bytes) (sym number_is)
      ∙ ap (λ (t : List ℕ). take at kept ++ number_bytes o w32 y ++ t) (sym back)
      ∙ sym (patched o number.0 y at one.before (one.after ++ drop n kept) kept (spelled_from o 16 new ++ drop n kept) kept_is new_is at_is)

  new_len : length (spelled_from o 16 new) ≡ n
  new_len = one_len one ∙ ap length (sym spelt.text) ∙ length-take-le n kept few

  again : fields_by o n bytes ≡ (new, record { place = 16 + length (spelled_from o 16 new); bytes = [] })
  again =
      ap (λ (b : List ℕ). fields_at o n [] (record { place = 16; bytes = take n b })) bytes_are
      ∙ ap (λ (b : List ℕ). fields_at o n [] (record { place = 16; bytes = b })) (take_at (spelled_from o 16 new) (drop n kept) n new_len)
      ∙ fields_again new [] n o 16 (values_same y low high fs [] o 16 spelt.follow spelt.valid) (follow_same y low high fs [] spelt.follow) (omega (arith, new_len))

  pub read-again : AreRead o n bytes (with_reply y found)
  read-again = record {
    sound = ap (λ (x : List Field × At). is_empty x.1.bytes && all_zero (drop n bytes)) again
        ∙ ap (λ (b : List ℕ). all_zero (drop n b)) bytes_are
        ∙ ap all_zero (drop_at (spelled_from o 16 new) (drop n kept) n new_len)
        ∙ spelt.zeros;
    is = ap (with_reply y) read.is ∙ found_reply y low high o fs has ∙ ap (λ (x : List Field × At). found_of o x.0) (sym again);
  }

-- ---- parts at their places

-- a part that doesn't overlap the four bytes is unchanged
pub cut_same : (kept bytes : List ℕ) (at : ℕ) (s : Span) → take at kept ≡ take at bytes → drop (at + 4) kept ≡ drop (at + 4) bytes → is_apart (Some at) s ≡ true → cut bytes s ≡ cut kept s
cut_same kept bytes at s front back apart = go (or_cases (nat_le (s.start + s.len) at) (nat_le (at + 4) s.start) apart)
  where
    before : (b : List ℕ) → s.start + s.len ≤ at → cut b s ≡ drop s.start (take (s.start + s.len) (take at b))
    before b le = sym (drop-take s.start s.len b) ∙ ap (drop s.start) (sym (take-take (s.start + s.len) at b le))

    after : (b : List ℕ) → at + 4 ≤ s.start → cut b s ≡ take s.len (drop (s.start - (at + 4)) (drop (at + 4) b))
    after b le =
        let there : s.start ≡ at + 4 + (s.start - (at + 4)) = omega arith in
        ap (λ (k : ℕ). take s.len (drop k b)) there ∙ ap (take s.len) (sym (drop-drop (s.start - (at + 4)) (at + 4) b))

    go : (nat_le (s.start + s.len) at ≡ true) ⊎ (nat_le (at + 4) s.start ≡ true) → cut bytes s ≡ cut kept s
    go (inl e) =
        let le : s.start + s.len ≤ at = leb-true (s.start + s.len) at e in
        before bytes le ∙ ap (λ (b : List ℕ). drop s.start (take (s.start + s.len) b)) (sym front) ∙ sym (before kept le)
    go (inr e) =
        let le : at + 4 ≤ s.start = leb-true (at + 4) s.start e in
        after bytes le ∙ ap (λ (b : List ℕ). take s.len (drop (s.start - (at + 4)) b)) (sym back) ∙ sym (after kept le)

cuts_same : (kept bytes : List ℕ) (r : Option Span) → ((s : Span) → r ≡ Some s → cut bytes s ≡ cut kept s) → option_map (cut kept) r ≡ option_map (cut bytes) r
cuts_same kept bytes None same = refl
cuts_same kept bytes (Some s) same = ap (λ (t : List ℕ). some_text t) (sym (same s refl))
  where
    some_text : List ℕ → Option (List ℕ)
    some_text t = Some t

module _ (o : Order) (kept bytes : List ℕ) (p : Places) (at : ℕ) (apart : AreApart p) (there : p.reply_serial ≡ Some at) (front : take at kept ≡ take at bytes) (back : drop (at + 4) kept ≡ drop (at + 4) bytes) where
  abbrev made_of : Option (List ℕ) → Option (List ℕ) → Option (List ℕ) → Option (List ℕ) → Option ℕ → Option (List ℕ) → Option (List ℕ) → Option (List ℕ) → Found
  made_of a b c d e f g h = record {
    parts = record { path = a; interface = b; member = c; error_name = d; reply_serial = e; destination = f; sender = g };
    reply_place = option_map (λ at. 16 + at) p.reply_serial;
    unknown = p.has_unknown;
    signature = h;
    descriptors = p.descriptors;
  }

  same_at : (s : Span) → is_apart p.reply_serial s ≡ true → cut bytes s ≡ cut kept s
  same_at s apart = cut_same kept bytes at s front back (ap (λ (r : Option ℕ). is_apart r s) (sym there) ∙ apart)

  pub found_same : with_reply (number_at o bytes at) (found_at o kept p) ≡ found_at o bytes p
  found_same =
      let old : Option Span → Option (List ℕ) = option_map (cut kept) in
      let now : Option Span → Option (List ℕ) = option_map (cut bytes) in
      let y : Option ℕ = Some (number_at o bytes at) in
      let z : Option ℕ = option_map (number_at o bytes) p.reply_serial in
      ap (λ (x : Option (List ℕ)). made_of x (old p.interface) (old p.member) (old p.error_name) y (old p.destination) (old p.sender) (old p.signature)) (cuts_same kept bytes p.path (λ s e. same_at s (apart.path s e)))
      ∙ ap (λ (x : Option (List ℕ)). made_of (now p.path) x (old p.member) (old p.error_name) y (old p.destination) (old p.sender) (old p.signature)) (cuts_same kept bytes p.interface (λ s e. same_at s (apart.interface s e)))
      ∙ ap (λ (x : Option (List ℕ)). made_of (now p.path) (now p.interface) x (old p.error_name) y (old p.destination) (old p.sender) (old p.signature)) (cuts_same kept bytes p.member (λ s e. same_at s (apart.member s e)))
      ∙ ap (λ (x : Option (List ℕ)). made_of (now p.path) (now p.interface) (now p.member) x y (old p.destination) (old p.sender) (old p.signature)) (cuts_same kept bytes p.error_name (λ s e. same_at s (apart.error_name s e)))
      ∙ ap (λ (x : Option ℕ). made_of (now p.path) (now p.interface) (now p.member) (now p.error_name) x (old p.destination) (old p.sender) (old p.signature)) (ap (option_map (number_at o bytes)) (sym there))
      ∙ ap (λ (x : Option (List ℕ)). made_of (now p.path) (now p.interface) (now p.member) (now p.error_name) z x (old p.sender) (old p.signature)) (cuts_same kept bytes p.destination (λ s e. same_at s (apart.destination s e)))
      ∙ ap (λ (x : Option (List ℕ)). made_of (now p.path) (now p.interface) (now p.member) (now p.error_name) z (now p.destination) x (old p.signature)) (cuts_same kept bytes p.sender (λ s e. same_at s (apart.sender s e)))
      ∙ ap (λ (x : Option (List ℕ)). made_of (now p.path) (now p.interface) (now p.member) (now p.error_name) z (now p.destination) (now p.sender) x) (cuts_same kept bytes p.signature (λ s e. same_at s (apart.signature s e)))

-- ---- headers that are like a known one

-- their parts are cut from the places
pub alike_cut : (o : Order) (kept bytes : List ℕ) (number : Option ℕ) (s : Span) → AreAlike o number kept bytes → is_apart number s ≡ true → cut bytes s ≡ cut kept s
alike_cut o kept bytes None s alike apart = ap (λ (b : List ℕ). cut b s) (sym alike)
alike_cut o kept bytes (Some at) s alike apart = cut_same kept bytes at s alike.0 alike.1 apart

-- and they are read as it was
pub alike_read : (o : Order) (n : ℕ) (kept bytes : List ℕ) (p : Places) → AreKnown o n kept p → AreBytes bytes → length bytes ≡ length kept → AreAlike o p.reply_serial kept bytes → AreRead o n bytes (found_at o bytes p)
alike_read o n kept bytes p known are as_long alike = by p.reply_serial refl alike
  where
    by : (r : Option ℕ) → p.reply_serial ≡ r → AreAlike o r kept bytes → AreRead o n bytes (found_at o bytes p)
    by None is same = subst (λ (b : List ℕ). AreRead o n b (found_at o b p)) same known.read
    by (Some at) is same =
        let few : n ≤ length kept = omega (arith, known.len) in
        subst (AreRead o n bytes) (found_same o kept bytes p at known.apart is same.0 same.1)
        (read-again o n kept bytes (found_at o kept p) at known.are are as_long few (known.within.number at is) known.read (ap (option_map (λ k. 16 + k)) is) same.0 same.1 same.2)

-- bytes are like the kept ones if both sides of the number are equal and the number isn't 0
pub alike-some : (o : Order) (hole : Option ℕ) (kept bytes : List ℕ) (at : ℕ) → hole ≡ Some at → take at kept ≡ take at bytes → drop 4 (drop at kept) ≡ drop 4 (drop at bytes) → 0 < number_at o bytes at → AreAlike o hole kept bytes
alike-some o hole kept bytes at is front back low =
    subst (λ (r : Option ℕ). AreAlike o r kept bytes) (sym is) (front, sym (drop-drop 4 at kept) ∙ back ∙ drop-drop 4 at bytes, low)

-- and their parts are where those of the kept ones are
pub alike_within : (o : Order) (kept bytes : List ℕ) (p : Places) → AreWithin kept p → AreApart p → length bytes ≡ length kept → AreAlike o p.reply_serial kept bytes → AreWithin bytes p
alike_within o kept bytes p within apart as_long alike = record {
  path = λ s e. text s (apart.path s e) (within.path s e);
  interface = λ s e. text s (apart.interface s e) (within.interface s e);
  member = λ s e. text s (apart.member s e) (within.member s e);
  error_name = λ s e. text s (apart.error_name s e) (within.error_name s e);
  destination = λ s e. text s (apart.destination s e) (within.destination s e);
  sender = λ s e. text s (apart.sender s e) (within.sender s e);
  signature = λ s e. signed s (apart.signature s e) (within.signature s e);
  number = λ at e. let inside = within.number at e in omega (arith, inside, as_long);
}
  where
    text : (s : Span) → is_apart p.reply_serial s ≡ true → HasText kept s → HasText bytes s
    text s a t = record {
      inside = let inside = t.inside in omega (arith, inside, as_long);
      utf8 = ap is_utf8 (alike_cut o kept bytes p.reply_serial s alike a) ∙ t.utf8;
    }

    signed : (s : Span) → is_apart p.reply_serial s ≡ true → HasSignature kept s → HasSignature bytes s
    signed s a t = record {
      inside = let inside = t.inside in omega (arith, inside, as_long);
      valid = ap signature_fault (alike_cut o kept bytes p.reply_serial s alike a) ∙ t.valid;
    }

pub not_unequal : (a b : List ℕ) → not (bytes_eq a b) ≡ false → a ≡ b
not_unequal a b e = bytes_eq-true a b (not-false (bytes_eq a b) e)

pub some_is : (a b : Span) → ◌≡◌ {A = Option Span} (Some a) (Some b) → a ≡ b
some_is a b e = cc

-- ---- the places of the parts of fields that were read

-- nothing is claimed of an absent text
text_none : (P : ℕ → List ℕ → Type 0) (start : ℕ) (text : Option (Bor (List ℕ))) → text_seen text ≡ None → OfText P start text
text_none P start None e = tt
text_none P start (Some text) e = absurd cc

signature_none : (P : ℕ → List ℕ → Type 0) (start : ℕ) (signature : Option Signature) → signature_seen signature ≡ None → OfSignature P start signature
signature_none P start None e = tt
signature_none P start (Some signature) e = absurd cc

pub none_begin : (message : List ℕ) (f : FieldsRead) → fields_seen f ≡ nothing_found → AllBeginAt message f
none_begin message f e = record {
  path = text_none (BeginsAt message) f.starts.path f.path (ap (λ (x : Found). x.parts.path) e);
  interface = text_none (BeginsAt message) f.starts.interface f.interface (ap (λ (x : Found). x.parts.interface) e);
  member = text_none (BeginsAt message) f.starts.member f.member (ap (λ (x : Found). x.parts.member) e);
  error_name = text_none (BeginsAt message) f.starts.error_name f.error_name (ap (λ (x : Found). x.parts.error_name) e);
  destination = text_none (BeginsAt message) f.starts.destination f.destination (ap (λ (x : Found). x.parts.destination) e);
  sender = text_none (BeginsAt message) f.starts.sender f.sender (ap (λ (x : Found). x.parts.sender) e);
  signature = signature_none (BeginsAt message) f.starts.signature f.signature (ap (λ (x : Found). x.signature) e);
}

-- what is in a message is in the bytes of its fields
text_of : (P Q : ℕ → List ℕ → Type 0) (start : ℕ) (text : Option (Bor (List ℕ))) → ((s : ℕ) (t : List ℕ) → P s t → Q s t) → OfText P start text → OfText Q start text
text_of P Q start None to h = tt
text_of P Q start (Some text) to h = to start text.now h

signature_of : (P Q : ℕ → List ℕ → Type 0) (start : ℕ) (signature : Option Signature) → ((s : ℕ) (t : List ℕ) → P s t → Q s t) → OfSignature P start signature → OfSignature Q start signature
signature_of P Q start None to h = tt
signature_of P Q start (Some signature) to h = to start signature.bytes.now h

begins_in : (t : List ℕ) (n m start : ℕ) (text : List ℕ) → n ≤ m → 16 + m ≤ length t → BeginsAt (take (16 + n) t) start text → BeginsIn (take m (drop 16 t)) start text
begins_in t n m start text few inside b =
    let low = b.low in
    let end = b.inside in
    let cut_len : length (take (16 + n) t) ≡ 16 + n = length-take-le (16 + n) t (omega arith) in
    let own_len : length (take m (drop 16 t)) ≡ m = length-take-le m (drop 16 t) (omega (arith, length-drop 16 t)) in
    let there : start ≡ 16 + (start - 16) = omega arith in
    let l : ℕ = length text in
    let fits : start - 16 + l ≤ m = omega (arith, end, cut_len) in
    record {
      low = low;
      inside = omega (arith, own_len, fits);
      is = cut_from (take m (drop 16 t)) (start - 16) l
          ∙ ap (drop (start - 16)) (take-take (start - 16 + l) m (drop 16 t) fits)
          ∙ sym (cut_from (drop 16 t) (start - 16) l)
          ∙ ap (take l) (drop-drop (start - 16) 16 t)
          ∙ ap (λ (k : ℕ). take l (drop k t)) (sym there)
          ∙ cut_from t start l
          ∙ ap (drop start) (sym (take-take (start + l) (16 + n) t (omega (arith, end, cut_len))))
          ∙ sym (cut_from (take (16 + n) t) start l)
          ∙ b.is;
    }
  where
    cut_from : (b : List ℕ) (s l : ℕ) → take l (drop s b) ≡ drop s (take (s + l) b)
    cut_from b s l = sym (drop-take s l b)

pub all_begin : (t front : List ℕ) (n : ℕ) (f : FieldsRead) → IsFieldsLen t n → front ≡ take (16 + n) t → AllBeginAt front f → AllBeginIn (fields_bytes n t) f
all_begin t front n f len is b = record {
  path = text_of (BeginsAt front) (BeginsIn (fields_bytes n t)) f.starts.path f.path to b.path;
  interface = text_of (BeginsAt front) (BeginsIn (fields_bytes n t)) f.starts.interface f.interface to b.interface;
  member = text_of (BeginsAt front) (BeginsIn (fields_bytes n t)) f.starts.member f.member to b.member;
  error_name = text_of (BeginsAt front) (BeginsIn (fields_bytes n t)) f.starts.error_name f.error_name to b.error_name;
  destination = text_of (BeginsAt front) (BeginsIn (fields_bytes n t)) f.starts.destination f.destination to b.destination;
  sender = text_of (BeginsAt front) (BeginsIn (fields_bytes n t)) f.starts.sender f.sender to b.sender;
  signature = signature_of (BeginsAt front) (BeginsIn (fields_bytes n t)) f.starts.signature f.signature to b.signature;
}
  where
    to : (s : ℕ) (text : List ℕ) → BeginsAt front s text → BeginsIn (fields_bytes n t) s text
    to s text h = begins_in t n (body_place n - 16) s text (omega arith) (omega (arith, len.inside)) (subst (λ (b : List ℕ). BeginsAt b s text) is h)

-- the number is at its place
module _ (o : Order) (n : ℕ) (bytes : List ℕ) (found : Found) (are : AreBytes bytes) (few : n ≤ length bytes) (read : AreRead o n bytes found) where
  abbrev fields_found_by : List Field
  fields_found_by = (fields_by o n bytes).0

  are_they : AreSpelt o n bytes fields_found_by
  are_they = are_spelt o n bytes found are read

  placed_in : number_place o 16 fields_found_by ≡ found.reply_place
  placed_in = ap (λ (f : Found). f.reply_place) (sym read.is)

  serial_in : found.parts.reply_serial ≡ number_in (field_in 5 fields_found_by)
  serial_in = ap (λ (f : Found). f.parts.reply_serial) read.is

  record IsThere (p : ℕ) : Type 0 where
    low : 16 ≤ p
    inside : p - 16 + 4 ≤ length bytes
    is : found.parts.reply_serial ≡ Some (number_at o bytes (p - 16))

  is_there : (p : ℕ) → found.reply_place ≡ Some p → IsThere p
  is_there p e =
      let x = placed_number o n bytes fields_found_by are_they p (placed_in ∙ e) in
      let one = fields_reply x.0 o fields_found_by [] 16 x.0 refl are_they.follow x.1 in
      let at : p ≡ 16 + length one.before = same_Some p (16 + length one.before) (sym (placed_in ∙ e) ∙ one.place_is) in
      let from : length one.before ≡ p - 16 = omega (arith, at) in
      let text : take n bytes ≡ one.before ++ (number_bytes o w32 x.0 ++ one.after) = are_they.text ∙ one.old_is in
      let len : length (take n bytes) ≡ n = length-take-le n bytes few in
      let number_len = wide_32.len o x.0 in
      let small = number_small fields_found_by [] o 16 x.0 are_they.follow are_they.valid x.1 in
      let all : bytes ≡ one.before ++ (number_bytes o w32 x.0 ++ (one.after ++ drop n bytes)) =
      sym (take-append-drop n bytes)
      ∙ ap (λ (t : List ℕ). t ++ drop n bytes) text
      ∙ append_assoc one.before (number_bytes o w32 x.0 ++ one.after) (drop n bytes)
      ∙ ap (λ (t : List ℕ). one.before ++ t) (append_assoc (number_bytes o w32 x.0) one.after (drop n bytes)) in
      let number : take 4 (drop (p - 16) bytes) ≡ number_bytes o w32 x.0 =
      ap (λ (b : List ℕ). take 4 (drop (p - 16) b)) all
      ∙ ap (take 4) (drop_at one.before (number_bytes o w32 x.0 ++ (one.after ++ drop n bytes)) (p - 16) from)
      ∙ take_at (number_bytes o w32 x.0) (one.after ++ drop n bytes) 4 number_len in
      record {
        low = omega (arith, at);
        inside = omega (arith, from, few, len, ap length text, length-append one.before (number_bytes o w32 x.0 ++ one.after), length-append (number_bytes o w32 x.0) one.after, number_len);
        is = serial_in ∙ x.1 ∙ ap (λ (k : ℕ). some_number k) (sym (ap (number_of o w32) number ∙ again_32 o x.0 small));
      }
    where
      some_number : ℕ → Option ℕ
      some_number k = Some k

  pub number_in_bytes : NumberIn o bytes found.parts.reply_serial found.reply_place
  number_in_bytes = record {
    none = λ e. serial_in ∙ absent (field_in 5 fields_found_by) (sym (place_stands o 16 fields_found_by) ∙ ap is_some (placed_in ∙ e));
    low = λ p e. (is_there p e).low;
    inside = λ p e. (is_there p e).inside;
    is = λ p e. (is_there p e).is;
  }
    where
      absent : (v : Option Value) → is_some v ≡ false → number_in v ≡ None
      absent None e = refl
      absent (Some v) e = absurd cc
