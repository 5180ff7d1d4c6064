-- What is found in a whole message is its parts, or what is wrong with it.
use Rattle.std.proofs.Common.{◌≡◌, ℕ, ◌+◌, ◌-◌, ◌^◌, ◌≤◌, Bool, true, false, cond, List, [], ◌∷◌, ◌++◌, length, take, drop, get_or, Option, Some, None, option_map, Result, Ok, Err, refl, sym, ap, subst, ◌∙◌, append-nil, arith}
use Rattle.std.specs.Prelude.{not, ◌&&◌, ◌||◌, ◌==◌, nat_lt, is_none, is_some, IfSome, unwrap_or, OnOk}
use Rattle.std.specs.List.{list_all}
use Rattle.std.proofs.lemmas.List.{length-take-le, length-drop, length-append, drop-take}
use Rattle.std.proofs.lemmas.Bool.{and_parts, le-ltb, eqb-true, eq-eqb, ne_eqb}
use Rattle.byte_lists.proofs.Bytes.{AreBytes-drop, AreBytes-take}
use Rattle.byte_lists.specs.Bytes.{AreBytes}
use Rattle.dbus_names.specs.Names.{is_empty}
use Rattle.dbus_types.proofs.SignatureRead.{spelled_types-types_of}
use Rattle.dbus_types.specs.Signature.{Complete, is_complete, spelled_types, types_of, fault_of_types, signature_fault}
use Rattle.dbus_types.specs.declared.BadSignature.TheVariants.{TooLong, Form}
use Rattle.dbus_values.proofs.WalkLaws.{all_complete}
use Rattle.dbus_values.specs.Values.{Value, padding}
use Rattle.dbus_values.specs.Reading.{At, ◌>>=◌, when, all_zero, values_at}
use Rattle.dbus_values.specs.Ends.{values_end}
use Rattle.dbus_values.specs.declared.BadValue.{BadValue}
use Rattle.dbus_values.specs.declared.Order.{Order}
use Rattle.dbus_header.specs.Message.{Field, Message, body_place, spell, field_in, has_field, text_in, number_in, types_in, stated, signature, is_field_of, may_follow, may_all_follow, has_required, has_no_descriptors}
use Rattle.dbus_header.specs.Malformed.{malformed, order_in, serial_in, fields_len, body_start, whole_len, head_fault, fields_of, fields_at, has_zeros, values_in, whole, fault, fault_in, front}
use Rattle.dbus_header.specs.declared.Malformed.{Malformed}
use Rattle.dbus_header.specs.declared.MalformedKind.{MalformedKind}
use Rattle.dbus_header.specs.declared.MalformedKind.TheVariants.{Fields, Required, Body, Descriptors}
use Rattle.dbus_header.specs.Contents.{Contents, contents_of, message_of, body_bytes}
use Rattle.dbus_header.specs.HeaderReading.{Found, has_required_parts}
use Rattle.dbus_header.specs.HeaderFields.{at_place, spelled_in, parts_in, found_of, fields_in, FieldsRead}
use Rattle.dbus_header.specs.Refusals.{refusal}
use Rattle.dbus_header.specs.Whole.{body_fault_at, stated_in, HasParts, IsFieldsLen, fields_fault, fields_found, body_or_descriptors, rest_fault}
use Rattle.dbus_header.proofs.MessageAgain.{front-spell}
use Rattle.dbus_header.proofs.MessageRead.{fields_are, ValuesSpelt, values_are, sound_head, checked, built, whole_is_valid, body_is}
use Rattle.dbus_header.proofs.FoundParts.{path_holds, string_holds, number_holds}

-- ---- values to the end of the bytes

empty_drop : (end : ℕ) (bytes : List ℕ) → end ≤ length bytes → is_empty (drop end bytes) ≡ (end == length bytes)
empty_drop end bytes inside = by (drop end bytes) (length-drop end bytes)
  where
    by : (r : List ℕ) → length r ≡ length bytes - end → is_empty r ≡ (end == length bytes)
    by [] e = sym (eq-eqb end (length bytes) (omega arith))
    by (x ∷ r) e = sym (ne_eqb end (length bytes) (λ k. absurd (omega (arith, e, k))))

empty_by_place : (bytes rest : List ℕ) (end : ℕ) → end + length rest ≡ length bytes → is_empty rest ≡ (end == length bytes)
empty_by_place bytes [] end e = sym (eq-eqb end (length bytes) (omega (arith, e)))
empty_by_place bytes (x ∷ rest) end e = sym (ne_eqb end (length bytes) (λ k. absurd (omega (arith, e, k))))

-- the end of values is the end of the bytes exactly if nothing follows them
values_left : (o : Order) (types : List Complete) (bytes : List ℕ) (start : ℕ) → AreBytes bytes → start ≤ length bytes → list_all is_complete types ≡ true →
    let found = values_at o types (at_place bytes start) in (is_empty found.1.bytes ≡ (found.1.place == length bytes)) × (found.1.place ≤ length bytes)
values_left o types bytes start are inside complete =
    let s : ValuesSpelt o types (at_place bytes start) (values_at o types (at_place bytes start)) = values_are types o (at_place bytes start) complete (AreBytes-drop start bytes are) in
    by (values_at o types (at_place bytes start)) s
  where
    by : (found : List Value × At) → ValuesSpelt o types (at_place bytes start) found → (is_empty found.1.bytes ≡ (found.1.place == length bytes)) × (found.1.place ≤ length bytes)
    by found s =
        let len = ap length s.2.bytes ∙ length-append _ found.1.bytes in
        let whole : found.1.place + length found.1.bytes ≡ length bytes = omega (arith, s.2.place, len, length-drop start bytes) in
        (empty_by_place bytes found.1.bytes found.1.place whole, omega arith)

module _ (o : Order) (types : List Complete) (bytes : List ℕ) (start : ℕ) (are : AreBytes bytes) (inside : start ≤ length bytes) (complete : list_all is_complete types ≡ true) where
  abbrev stand : List Value × At
  stand = values_at o types (at_place bytes start)

  abbrev fault_by : Result ℕ BadValue → Option ℕ
  fault_by (Ok end) = cond (end == length bytes) None (Some end)
  fault_by (Err bad) = Some bad.at

  pub fault_is : fault_by (values_end o types start bytes) ≡ body_fault_at o types bytes start
  fault_is = by (length stand.0 == length types) ∙ ap (λ (b : Bool). cond (length stand.0 == length types && b) none (Some stand.1.place)) (sym (values_left o types bytes start are inside complete).0)
    where
      none : Option ℕ
      none = None

      by : (b : Bool) → fault_by (cond b (Ok stand.1.place) (Err (record { at = stand.1.place }))) ≡ cond (b && (stand.1.place == length bytes)) None (Some stand.1.place)
      by true = refl
      by false = refl

module _ (o : Order) (signature bytes : List ℕ) (start : ℕ) (are : AreBytes bytes) (inside : start ≤ length bytes) (valid : signature_fault signature ≡ None) where
  complete_by : (types : List Complete) → signature ≡ spelled_types types → list_all is_complete types ≡ true
  complete_by types is = all_complete types (ap signature_fault (sym is) ∙ valid)

  -- the fault of a body of the signature by a value's end that was read
  pub fault_of_end : (types : List Complete) (end : ℕ) → signature ≡ spelled_types types → values_end o types start bytes ≡ Ok end → cond (end == length bytes) None (Some end) ≡ body_fault_at o types bytes start
  fault_of_end types end is e = sym (ap (fault_by o types bytes start are inside (complete_by types is)) e) ∙ fault_is o types bytes start are inside (complete_by types is)

  pub fault_of_bad : (types : List Complete) (bad : BadValue) → signature ≡ spelled_types types → values_end o types start bytes ≡ Err bad → Some bad.at ≡ body_fault_at o types bytes start
  fault_of_bad types bad is e = sym (ap (fault_by o types bytes start are inside (complete_by types is)) e) ∙ fault_is o types bytes start are inside (complete_by types is)

  -- what the signature spells
  spelled_by : (types : List Complete) × (signature ≡ spelled_types types)
  spelled_by = by (types_of signature) refl
    where
      never : {A : Type 0} (b : Bool) (x y : A) → cond b (Some x) (Some y) ≡ None → ⊥
      never true x y e = absurd cc
      never false x y e = absurd cc

      by : (types : Option (List Complete)) → types_of signature ≡ types → (ts : List Complete) × (signature ≡ spelled_types ts)
      by None e =
          absurd (never (nat_lt 255 (length signature)) TooLong Form (ap (λ (ts : Option (List Complete)). cond (nat_lt 255 (length signature)) (Some TooLong) (fault_of_types ts)) (sym e) ∙ valid))
      by (Some ts) e = (ts, sym (spelled_types-types_of signature ts e))

  -- the fault is inside the bytes
  pub fault_inside : (fault : Option ℕ) → ((types : List Complete) → signature ≡ spelled_types types → fault ≡ body_fault_at o types bytes start) → IfSome fault (λ at. at ≤ length bytes)
  fault_inside None is = tt
  fault_inside (Some at) is =
      let types = spelled_by.0 in
      let found = values_at o types (at_place bytes start) in
      let e : found.1.place ≡ at = some_at (length found.0 == length types && is_empty found.1.bytes) found.1.place at (sym (is types spelled_by.1)) in
      omega (arith, e, (values_left o types bytes start are inside (complete_by types spelled_by.1)).1)
    where
      some_at : (c : Bool) (place at : ℕ) → cond c None (Some place) ≡ Some at → place ≡ at
      some_at true place at e = absurd cc
      some_at false place at e = cc

-- ---- the fields that are needed

pub stands : {A : Type 0} (view : Option Value → Option A) (c : ℕ) → is_some (view None) ≡ false → ((v : Value) → is_field_of c v ≡ true → is_some (view (Some v)) ≡ true) → (fields before : List Field) → may_all_follow before fields ≡ true →
    is_some (view (field_in c fields)) ≡ has_field c fields
stands view c none holds [] before follow = none
stands view c none holds (f ∷ fields) before follow = by (stands view c none holds fields (f ∷ before) k.1) (f.code == c) refl
  where
    k : (may_follow before f ≡ true) × (may_all_follow (f ∷ before) fields ≡ true)
    k = and_parts (may_follow before f) (may_all_follow (f ∷ before) fields) follow

    rules : is_field_of f.code f.value ≡ true
    rules = (and_parts (is_field_of f.code f.value) (nat_lt 9 f.code || not (has_field f.code before)) k.0).0

    by : is_some (view (field_in c fields)) ≡ has_field c fields → (b : Bool) → (f.code == c) ≡ b → is_some (view (cond b (Some f.value) (field_in c fields))) ≡ is_some (cond b (Some f.value) (field_in c fields))
    by later true e = holds f.value (ap (λ (n : ℕ). is_field_of n f.value) (sym (eqb-true f.code c e)) ∙ rules)
    by later false e = later

one_more : (a x : Bool) → a ≡ x → a ≡ (x && true)
one_more a true e = e
one_more a false e = e

two_more : (a b x y : Bool) → a ≡ x → b ≡ y → (a && b) ≡ (x && (y && true))
two_more a b true y e k = ap (λ (c : Bool). c && b) e ∙ one_more b y k
two_more a b false y e k = ap (λ (c : Bool). c && b) e

three_more : (a b c x y z : Bool) → a ≡ x → b ≡ y → c ≡ z → (a && b && c) ≡ (x && (y && (z && true)))
three_more a b c true y z e k l = ap (λ (d : Bool). d && b && c) e ∙ two_more b c y z k l
three_more a b c false y z e k l = ap (λ (d : Bool). d && b && c) e

required_is : (kind : ℕ) (fields : List Field) → may_all_follow [] fields ≡ true → has_required_parts kind (parts_in fields) ≡ has_required kind fields
required_is kind fields follow = by (kind == 1) (kind == 2) (kind == 3) (kind == 4)
  where
    p : is_some (text_in (field_in 1 fields)) ≡ has_field 1 fields
    p = stands text_in 1 refl path_holds fields [] follow

    i : is_some (text_in (field_in 2 fields)) ≡ has_field 2 fields
    i = stands text_in 2 refl (string_holds _) fields [] follow

    m : is_some (text_in (field_in 3 fields)) ≡ has_field 3 fields
    m = stands text_in 3 refl (string_holds _) fields [] follow

    e : is_some (text_in (field_in 4 fields)) ≡ has_field 4 fields
    e = stands text_in 4 refl (string_holds _) fields [] follow

    r : is_some (number_in (field_in 5 fields)) ≡ has_field 5 fields
    r = stands number_in 5 refl (number_holds _) fields [] follow

    by : (a b c d : Bool) →
        cond a (is_some (text_in (field_in 1 fields)) && is_some (text_in (field_in 3 fields)))
        (cond b (is_some (number_in (field_in 5 fields)))
        (cond c (is_some (text_in (field_in 4 fields)) && is_some (number_in (field_in 5 fields)))
        (cond d (is_some (text_in (field_in 1 fields)) && is_some (text_in (field_in 2 fields)) && is_some (text_in (field_in 3 fields))) true)))
        ≡ list_all (λ code. has_field code fields) (cond a (1 ∷ 3 ∷ []) (cond b (5 ∷ []) (cond c (4 ∷ 5 ∷ []) (cond d (1 ∷ 2 ∷ 3 ∷ []) []))))
    by true b c d = two_more _ _ _ _ p m
    by false true c d = one_more _ _ r
    by false false true d = two_more _ _ _ _ e r
    by false false false true = three_more _ _ _ _ _ _ p i m
    by false false false false = refl

-- ---- a whole message

abbrev bad : MalformedKind → ℕ → Malformed
bad kind at = record { kind = kind; at = at }

-- the types that were found
stated_is : (v : Option Value) → unwrap_or (spelled_in v) [] ≡ spelled_types (types_in v)
stated_is None = refl
stated_is (Some v) = refl

-- bytes whose first sixteen are in order and state exactly their length
pub record IsWhole (t : List ℕ) : Type 0 where
  pub are : AreBytes t
  pub long : 16 ≤ length t
  pub head : head_fault t ≡ None
  pub exact : length t ≡ whole_len t

-- they are so if nothing is wrong with the first sixteen
pub whole_by : (t : List ℕ) → AreBytes t → 16 ≤ length t → None ≡ head_fault t → (head_fault t ≡ None → length t ≡ whole_len t) → IsWhole t
whole_by t are long sound exact = record { are = are; long = long; head = sym sound; exact = exact (sym sound) }

-- how many bytes of header fields they state
pub fields_len_is : (t : List ℕ) (n : ℕ) → head_fault t ≡ None → length t ≡ whole_len t → n ≡ fields_len t → IsFieldsLen t n
fields_len_is t n head exact is =
    let s = sound_head t (ap is_none head) in
    let few : n ≤ 2 ^ 26 = omega (arith, is, s.fields) in
    record { stated = is; few = few; inside = omega (arith, exact, ap body_place is); short = omega (arith, exact, s.len) }

-- what was found in its fields, where the last valid one ended, and whether that is where the header states the end
pub record HeaderRead (t : List ℕ) (found : Found) (end : ℕ) (is_end : Bool) : Type 0 where
  pub wrong : is_end ≡ false → Some (bad Fields end) ≡ fields_fault t
  pub sound : is_end ≡ true → None ≡ fields_fault t
  pub found_is : is_end ≡ true → found ≡ fields_found t

module _ (t : List ℕ) (inside : 16 + fields_len t ≤ length t) (found : Found) (end : ℕ) (read : FieldsRead (order_in t) (take (16 + fields_len t) t) found end) where
  abbrev n : ℕ
  n = fields_len t

  abbrev o : Order
  o = order_in t

  abbrev cut : List ℕ
  cut = take (16 + n) t

  abbrev fs : List Field × At
  fs = fields_of t

  cut_len : length cut ≡ 16 + n
  cut_len = length-take-le (16 + n) t inside

  fields_same : fields_in o cut ≡ fs
  fields_same =
      ap (λ (k : ℕ). fields_at o k [] (at_place cut 16)) (minus (length cut) cut_len)
      ∙ ap (λ (b : List ℕ). fields_at o n [] (from_16 b)) (drop-take 16 n t)
    where
      from_16 : List ℕ → At
      from_16 b = record { place = 16; bytes = b }

      minus : (l : ℕ) → l ≡ 16 + n → l - 16 ≡ n
      minus l e = omega arith

  ended : fs.1 ≡ at_place cut end
  ended = ap (λ (x : List Field × At). x.1) (sym fields_same) ∙ read.ended

  abbrev is_header_end : Bool
  is_header_end = end == 16 + n && has_zeros t

  is_end : (is_empty fs.1.bytes && has_zeros t) ≡ is_header_end
  is_end = ap (λ (b : Bool). b && has_zeros t) (ap (λ (a : At). is_empty a.bytes) ended ∙ empty_drop end cut read.inside ∙ ap (λ (k : ℕ). end == k) cut_len)

  abbrev fault_by_end : Bool → ℕ → Option Malformed
  fault_by_end b place = cond b None (malformed Fields place)

  fault_read : fields_fault t ≡ fault_by_end is_header_end end
  fault_read = ap (λ (b : Bool). fault_by_end b fs.1.place) is_end ∙ ap (λ (a : At). fault_by_end is_header_end a.place) ended

  header_read : HeaderRead t found end is_header_end
  header_read = record {
    wrong = λ e. sym (fault_read ∙ ap (λ (b : Bool). fault_by_end b end) e);
    sound = λ e. sym (fault_read ∙ ap (λ (b : Bool). fault_by_end b end) e);
    found_is = λ e.
        let h = and_parts (end == 16 + n) (has_zeros t) e in
        read.all (eqb-true end (16 + n) h.0 ∙ sym cut_len) ∙ ap (λ (x : List Field × At). found_of o x.0) fields_same;
  }

-- as they were read of the first bytes
pub header_is_read : {t front : List ℕ} {o : Order} {n end : ℕ} {found : Found} {is_end : Bool} → o ≡ order_in t → IsFieldsLen t n → front ≡ take (16 + n) t → FieldsRead o front found end →
    is_end ≡ (end == 16 + n && all_zero (take (padding 8 (16 + n)) (drop (16 + n) t))) → HeaderRead t found end is_end
header_is_read {t} {front} {o} {n} {end} {found} {is_end} order len front_is read is =
    let inside : 16 + fields_len t ≤ length t = omega (arith, len.stated, len.inside) in
    let cut : front ≡ take (16 + fields_len t) t = front_is ∙ ap (λ (k : ℕ). take (16 + k) t) len.stated in
    let ends : is_end ≡ (end == 16 + fields_len t && has_zeros t) = is ∙ ap (λ (k : ℕ). end == 16 + k && all_zero (take (padding 8 (16 + k)) (drop (16 + k) t))) len.stated in
    subst (HeaderRead t found end) (sym ends)
    (header_read t inside found end (subst (λ (b : List ℕ). FieldsRead (order_in t) b found end) cut (subst (λ (p : Order). FieldsRead p front found end) order read)))

-- what is wrong with the fields is what is wrong with the message
pub fields_wrong : (t : List ℕ) (f : Malformed) → Some f ≡ fields_fault t → fault_in (whole t) ≡ Some f
unfolding whole
fields_wrong t f e = by (is_empty (fields_of t).1.bytes && has_zeros t) _ (sym e)
  where
    by : (b : Bool) (rest : Result Message Malformed) → cond b None (malformed Fields (fields_of t).1.place) ≡ Some f → fault_in (cond (not b) (Err (bad Fields (fields_of t).1.place)) rest) ≡ Some f
    by true rest e = absurd cc
    by false rest e = e

-- and with valid fields what else is wrong
rest_wrong : (t : List ℕ) → AreBytes t → None ≡ fields_fault t → fault_in (whole t) ≡ rest_fault (get_or t 1 0) (fields_found t) (body_fault_at (order_in t) (stated (fields_of t).0) t (body_start t))
unfolding whole
rest_wrong t are e =
    let spelt = fields_are (fields_len t) (order_in t) [] (record { place = 16; bytes = take (fields_len t) (drop 16 t) }) (AreBytes-take (fields_len t) (drop 16 t) (AreBytes-drop 16 t are)) in
    by (is_empty fields.1.bytes && has_zeros t) (has_required (get_or t 1 0) fields.0) (length body.0 == length (stated fields.0) && is_empty body.1.bytes) (sym e)
    ∙ ap (λ (r : Bool). cond (not r) (malformed Required 12) (body_or_descriptors (fields_found t) (body_fault_at (order_in t) (stated fields.0) t (body_start t)))) (sym (required_is (get_or t 1 0) fields.0 spelt.1))
  where
    fields : List Field × At
    fields = fields_of t

    body : List Value × At
    body = values_in t (stated fields.0)

    message : Message
    message = built t fields.0 body.0

    last : (d : Bool) → fault_in (cond (not d) (Err (bad Descriptors 12)) (Ok message)) ≡ cond d None (malformed Descriptors 12)
    last true = refl
    last false = refl

    by : (a r c : Bool) → cond a None (malformed Fields fields.1.place) ≡ None →
        fault_in (cond (not a) (Err (bad Fields fields.1.place)) (cond (not r) (Err (bad Required 12)) (cond (not c) (Err (bad Body body.1.place)) (cond (not (has_no_descriptors fields.0)) (Err (bad Descriptors 12)) (Ok message)))))
        ≡ cond (not r) (malformed Required 12) (body_or_descriptors (fields_found t) (cond c None (Some body.1.place)))
    by false r c e = absurd cc
    by true false c e = refl
    by true true false e = refl
    by true true true e = last (has_no_descriptors fields.0)

-- the rest as it was read
pub rest_is_read : (t : List ℕ) (o : Order) (n start : ℕ) (found : Found) (fault : Option Malformed) → AreBytes t → o ≡ order_in t → IsFieldsLen t n → start ≡ body_place n → None ≡ fields_fault t → found ≡ fields_found t →
    ((types : List Complete) → stated_in found ≡ spelled_types types → fault ≡ rest_fault (get_or t 1 0) found (body_fault_at o types t start)) → fault ≡ fault_in (whole t)
rest_is_read t o n start found fault are order len place sound found_is is =
    let types = stated (fields_of t).0 in
    is types (ap stated_in found_is ∙ stated_is (field_in 8 (fields_of t).0))
    ∙ ap (λ (f : Found). rest_fault (get_or t 1 0) f (body_fault_at o types t start)) found_is
    ∙ ap (λ (p : Order). rest_fault (get_or t 1 0) (fields_found t) (body_fault_at p types t start)) order
    ∙ ap (λ (k : ℕ). rest_fault (get_or t 1 0) (fields_found t) (body_fault_at (order_in t) types t k)) (place ∙ ap body_place len.stated)
    ∙ sym (rest_wrong t are sound)

-- if nothing is wrong, the fields are the message's
pub has_parts : (t : List ℕ) (found : Found) → found ≡ fields_found t → fault_in (whole t) ≡ None → HasParts t found
has_parts t found found_is = by (whole t) refl
  where
    by : (r : Result Message Malformed) → whole t ≡ r → fault_in r ≡ None → HasParts t found
    by (Ok m) is e = record { message = m; is = is; found_is = found_is ∙ ap (λ (x : Message). found_of x.order x.fields) (checked t m is).is }
    by (Err f) is e = absurd cc

pub are_found : (t : List ℕ) (found : Found) → found ≡ fields_found t → found ≡ fields_found t
are_found t found is = is

-- if no fault was reported
pub parts_on_ok : {A : Type 0} (result : Result A Malformed) (t : List ℕ) (found : Found) → found ≡ fields_found t → refusal result ≡ fault_in (whole t) → OnOk result (HasParts t found)
parts_on_ok (Ok x) t found found_is e = has_parts t found found_is (sym e)
parts_on_ok (Err f) t found found_is e = tt

-- ---- what decode answers

pub take_all : (n : ℕ) (t : List ℕ) → n ≡ length t → take n t ≡ t
take_all n t e = ap (λ (k : ℕ). take k t) e ∙ all t
  where
    all : (xs : List ℕ) → take (length xs) xs ≡ xs
    all [] = refl
    all (x ∷ xs) = ap (λ (r : List ℕ). x ∷ r) (all xs)

pub fault_of_whole : (t : List ℕ) → IsWhole t → fault t ≡ fault_in (whole t)
unfolding fault
fault_of_whole t w =
    ap (λ (b : Bool). cond b none (cond (is_some (head_fault t)) (head_fault t) (cond (nat_lt (length t) (whole_len t)) none (fault_in (whole (take (whole_len t) t)))))) (le-ltb (length t) 16 w.long)
    ∙ ap (λ (h : Option Malformed). cond (is_some h) h (cond (nat_lt (length t) (whole_len t)) none (fault_in (whole (take (whole_len t) t))))) w.head
    ∙ ap (λ (b : Bool). cond b none (fault_in (whole (take (whole_len t) t)))) (le-ltb (length t) (whole_len t) (let exact = w.exact in omega arith))
    ∙ ap (λ (x : List ℕ). fault_in (whole x)) (take_all (whole_len t) t (sym w.exact))
  where
    none : Option Malformed
    none = None

pub message_is : (t : List ℕ) (m : Message) → IsWhole t → whole t ≡ Ok m → message_of t ≡ Some m
unfolding message_of
message_is t m w is =
    let v = whole_is_valid t m w.are w.long (ap is_none w.head) (sym w.exact) is in
    let spelled : t ≡ spell m ++ [] = sym v.1 ∙ sym (append-nil (spell m)) in
    ap (λ (x : Option (Message × List ℕ)). x >>= λ y. when (is_empty y.1) y.0) (ap front spelled ∙ front-spell m [] v.0)

abbrev contents : List ℕ → Found → Contents
contents t found = record {
  order = order_in t;
  kind = get_or t 1 0;
  flags = get_or t 2 0;
  serial = serial_in t;
  parts = found.parts;
  reply_place = found.reply_place;
  unknown_field = found.unknown;
  signature = stated_in found;
  body = drop (body_start t) t;
}

-- the parts that were found are the message's
pub contents_are : (t : List ℕ) (found : Found) → IsWhole t → HasParts t found → option_map contents_of (message_of t) ≡ Some (contents t found)
contents_are t found w h =
    let m = h.message in
    let v = whole_is_valid t m w.are w.long (ap is_none w.head) (sym w.exact) h.is in
    let is = (checked t m h.is).is in
    let signed : spelled_types (stated m.fields) ≡ stated_in found = sym (stated_is (field_in 8 m.fields)) ∙ ap stated_in (sym h.found_is) in
    ap (option_map contents_of) (message_is t m w h.is)
    ∙ ap (λ (o : Order). made o m.kind m.flags m.serial (found_of m.order m.fields) (spelled_types_of m) (body_bytes m)) (ap (λ (x : Message). x.order) (sym is))
    ∙ ap (λ (k : ℕ). made (order_in t) k m.flags m.serial (found_of m.order m.fields) (spelled_types_of m) (body_bytes m)) (ap (λ (x : Message). x.kind) (sym is))
    ∙ ap (λ (k : ℕ). made (order_in t) (get_or t 1 0) k m.serial (found_of m.order m.fields) (spelled_types_of m) (body_bytes m)) (ap (λ (x : Message). x.flags) (sym is))
    ∙ ap (λ (k : ℕ). made (order_in t) (get_or t 1 0) (get_or t 2 0) k (found_of m.order m.fields) (spelled_types_of m) (body_bytes m)) (ap (λ (x : Message). x.serial) (sym is))
    ∙ ap (λ (f : Found). made (order_in t) (get_or t 1 0) (get_or t 2 0) (serial_in t) f (spelled_types_of m) (body_bytes m)) (sym h.found_is)
    ∙ ap (λ (s : List ℕ). made (order_in t) (get_or t 1 0) (get_or t 2 0) (serial_in t) found s (body_bytes m)) (sym v.0.agreement ∙ signed)
    ∙ ap (λ (b : List ℕ). made (order_in t) (get_or t 1 0) (get_or t 2 0) (serial_in t) found (stated_in found) b) (sym (body_is t m w.are w.long (ap is_none w.head) (sym w.exact) h.is))
  where
    spelled_types_of : Message → List ℕ
    spelled_types_of m = signature m

    made : Order → ℕ → ℕ → ℕ → Found → List ℕ → List ℕ → Option Contents
    made o kind flags serial found signature body = Some (record { order = o; kind = kind; flags = flags; serial = serial; parts = found.parts; reply_place = found.reply_place; unknown_field = found.unknown; signature = signature; body = body })

-- the contents as they were read
pub contents_as : (t : List ℕ) (found : Found) (o : Order) (serial : ℕ) (signature body : List ℕ) → IsWhole t → HasParts t found → o ≡ order_in t → serial ≡ serial_in t → signature ≡ stated_in found → body ≡ drop (body_start t) t →
    option_map contents_of (message_of t) ≡ Some (record { order = o; kind = get_or t 1 0; flags = get_or t 2 0; serial = serial; parts = found.parts; reply_place = found.reply_place; unknown_field = found.unknown; signature = signature; body = body })
contents_as t found o serial signature body w h order number signed rest =
    contents_are t found w h
    ∙ ap (λ (p : Order). made p (serial_in t) (stated_in found) (drop (body_start t) t)) (sym order)
    ∙ ap (λ (k : ℕ). made o k (stated_in found) (drop (body_start t) t)) (sym number)
    ∙ ap (λ (s : List ℕ). made o serial s (drop (body_start t) t)) (sym signed)
    ∙ ap (λ (b : List ℕ). made o serial signature b) (sym rest)
  where
    made : Order → ℕ → List ℕ → List ℕ → Option Contents
    made p k s b = Some (record { order = p; kind = get_or t 1 0; flags = get_or t 2 0; serial = k; parts = found.parts; reply_place = found.reply_place; unknown_field = found.unknown; signature = s; body = b })
