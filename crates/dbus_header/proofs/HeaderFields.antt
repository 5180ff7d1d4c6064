-- Reading field after field finds the fields that the definitions read.
use Rattle.std.proofs.Common.{◌≡◌, ℕ, zero, suc, ◌+◌, ◌-◌, ◌<◌, ◌≤◌, Bool, true, false, cond, List, [], ◌∷◌, length, drop, Option, Some, None, refl, sym, ap, subst, ◌∙◌, arith}
use Rattle.std.specs.Prelude.{not, ◌&&◌, ◌||◌, ◌==◌, nat_lt, is_some}
use Rattle.std.proofs.lemmas.List.{length-append, length-drop, drop-drop, drop_at}
use Rattle.std.proofs.lemmas.Bool.{and_parts, and_from, eqb-true}
use Rattle.byte_lists.proofs.Bytes.{AreBytes-drop}
use Rattle.byte_lists.specs.Bytes.{AreBytes}
use Rattle.byte_lists.proofs.Options.{some}
use Rattle.dbus_values.specs.Values.{Value, padding, spelled}
use Rattle.dbus_values.specs.Reading.{At, ◌>>=◌, when, and_then_all}
use Rattle.dbus_values.specs.declared.Order.{Order}
use Rattle.dbus_values.proofs.ValueRead.{bind_case, when_is}
use Rattle.dbus_values.proofs.ValueAgain.{spelled_pos}
use Rattle.dbus_header.specs.Message.{Field, field_value, field_in, has_field, has_unknown, is_unknown, text_in, number_in, is_field_of, may_follow, number_place}
use Rattle.dbus_header.specs.Malformed.{field_at, valid_field_at, fields_at}
use Rattle.dbus_header.specs.HeaderReading.{Part, Found, nothing_found, part_at, with_part}
use Rattle.dbus_header.specs.HeaderFields.{at_place, spelled_in, found_in, found_of, fields_in, FieldsRead}
use Rattle.dbus_header.proofs.MessageRead.{FieldSpelt, field_is}
use Rattle.dbus_header.proofs.FieldSteps.{part_of, seen, sound_field_at}
use Rattle.dbus_header.proofs.FieldValues.{parts}
use Rattle.dbus_header.proofs.FieldReading.{part_at-is}
use Rattle.dbus_header.proofs.FoundParts.{all_follow, next_place, puts}

-- ---- the fields in their order

-- those that were read, the newest first, and then others
abbrev pub unwind : List Field → List Field → List Field
unwind [] rest = rest
unwind (f ∷ before) rest = unwind before (f ∷ rest)

abbrev or_else : {A : Type 0} → Option A → Option A → Option A
or_else None other = other
or_else (Some x) other = Some x

or_none : {A : Type 0} (o : Option A) → or_else o None ≡ o
or_none None = refl
or_none (Some x) = refl

none_of : {A : Type 0} (o : Option A) → is_some o ≡ false → o ≡ None
none_of None e = refl
none_of (Some x) e = absurd cc

-- a known code that may follow doesn't occur before
new_code : (before : List Field) (f : Field) (c : ℕ) → nat_lt 9 c ≡ false → (f.code == c) ≡ true → may_follow before f ≡ true → has_field c before ≡ false
new_code before f c known e m =
    let is : f.code ≡ c = eqb-true f.code c e in
    let h = and_parts (is_field_of f.code f.value) (nat_lt 9 f.code || not (has_field f.code before)) m in
    let k : (nat_lt 9 c || not (has_field c before)) ≡ true = ap (λ (n : ℕ). nat_lt 9 n || not (has_field n before)) (sym is) ∙ h.1 in
    by (has_field c before) (ap (λ (b : Bool). b || not (has_field c before)) (sym known) ∙ k)
  where
    by : (b : Bool) → (false || not b) ≡ true → b ≡ false
    by false e = refl
    by true e = absurd cc

found_unwound : (c : ℕ) → nat_lt 9 c ≡ false → (before rest : List Field) → all_follow before ≡ true → field_in c (unwind before rest) ≡ or_else (field_in c before) (field_in c rest)
found_unwound c known [] rest follow = refl
found_unwound c known (f ∷ before) rest follow =
    let k = and_parts (may_follow before f) (all_follow before) follow in
    found_unwound c known before (f ∷ rest) k.1 ∙ by (f.code == c) refl k.0
  where
    by : (b : Bool) → (f.code == c) ≡ b → may_follow before f ≡ true → or_else (field_in c before) (cond b (Some f.value) (field_in c rest)) ≡ or_else (cond b (Some f.value) (field_in c before)) (field_in c rest)
    by true e m = ap (λ (o : Option Value). or_else o (some f.value)) (none_of (field_in c before) (new_code before f c known e m))
    by false e m = refl

field_unwound : (c : ℕ) → nat_lt 9 c ≡ false → (before : List Field) → all_follow before ≡ true → field_in c (unwind before []) ≡ field_in c before
field_unwound c known before follow = found_unwound c known before [] follow ∙ or_none (field_in c before)

-- whether a code is unknown doesn't depend on the order
unknown_of : (before rest : List Field) → has_unknown (unwind before rest) ≡ (has_unknown before || has_unknown rest)
unknown_of [] rest = refl
unknown_of (f ∷ before) rest = unknown_of before (f ∷ rest) ∙ by (has_unknown before) (is_unknown f)
  where
    by : (b c : Bool) → (b || (c || has_unknown rest)) ≡ ((c || b) || has_unknown rest)
    by true true = refl
    by true false = refl
    by false true = refl
    by false false = refl

unknown_unwound : (before : List Field) → has_unknown before ≡ has_unknown (unwind before [])
unknown_unwound before = sym (unknown_of before [] ∙ by (has_unknown before))
  where
    by : (b : Bool) → (b || false) ≡ b
    by true = refl
    by false = refl

abbrev of_nine : Option ℕ → Bool → Option Value → Option Value → Option Value → Option Value → Option Value → Option Value → Option Value → Option Value → Option Value → Found
of_nine place unknown a b c d e f g h i = record {
  parts = record { path = text_in a; interface = text_in b; member = text_in c; error_name = text_in d; reply_serial = number_in e; destination = text_in f; sender = text_in g };
  reply_place = place;
  unknown = unknown;
  signature = spelled_in h;
  descriptors = number_in i;
}

unwound : (before : List Field) (place : Option ℕ) → all_follow before ≡ true → found_in before place ≡ found_in (unwind before []) place
unwound before place follow =
    let n : (c : ℕ) → nat_lt 9 c ≡ false → field_in c before ≡ field_in c (unwind before []) = λ c known. sym (field_unwound c known before follow) in
    let old : ℕ → Option Value = λ c. field_in c before in
    let new : ℕ → Option Value = λ c. field_in c (unwind before []) in
    ap (λ (x : Option Value). of_nine place (has_unknown before) x (old 2) (old 3) (old 4) (old 5) (old 6) (old 7) (old 8) (old 9)) (n 1 refl)
    ∙ ap (λ (x : Option Value). of_nine place (has_unknown before) (new 1) x (old 3) (old 4) (old 5) (old 6) (old 7) (old 8) (old 9)) (n 2 refl)
    ∙ ap (λ (x : Option Value). of_nine place (has_unknown before) (new 1) (new 2) x (old 4) (old 5) (old 6) (old 7) (old 8) (old 9)) (n 3 refl)
    ∙ ap (λ (x : Option Value). of_nine place (has_unknown before) (new 1) (new 2) (new 3) x (old 5) (old 6) (old 7) (old 8) (old 9)) (n 4 refl)
    ∙ ap (λ (x : Option Value). of_nine place (has_unknown before) (new 1) (new 2) (new 3) (new 4) x (old 6) (old 7) (old 8) (old 9)) (n 5 refl)
    ∙ ap (λ (x : Option Value). of_nine place (has_unknown before) (new 1) (new 2) (new 3) (new 4) (new 5) x (old 7) (old 8) (old 9)) (n 6 refl)
    ∙ ap (λ (x : Option Value). of_nine place (has_unknown before) (new 1) (new 2) (new 3) (new 4) (new 5) (new 6) x (old 8) (old 9)) (n 7 refl)
    ∙ ap (λ (x : Option Value). of_nine place (has_unknown before) (new 1) (new 2) (new 3) (new 4) (new 5) (new 6) (new 7) x (old 9)) (n 8 refl)
    ∙ ap (λ (x : Option Value). of_nine place (has_unknown before) (new 1) (new 2) (new 3) (new 4) (new 5) (new 6) (new 7) (new 8) x) (n 9 refl)
    ∙ ap (λ (b : Bool). of_nine place b (new 1) (new 2) (new 3) (new 4) (new 5) (new 6) (new 7) (new 8) (new 9)) (unknown_unwound before)

-- ---- how far the fields were read

pub record Reached (o : Order) (bytes : List ℕ) (found : Found) (place : ℕ) : Type 0 where
  pub before : List Field
  pub fuel : ℕ
  pub low : 16 ≤ place
  pub inside : place ≤ length bytes
  pub enough : length bytes ≤ place + fuel
  pub follow : all_follow before ≡ true
  pub is : found ≡ found_in before found.reply_place
  pub same : fields_in o bytes ≡ (unwind before (fields_at o fuel before (at_place bytes place)).0, (fields_at o fuel before (at_place bytes place)).1)
  pub placed : (rest : List Field) → number_place o 16 (unwind before rest) ≡ cond (has_field 5 before) found.reply_place (number_place o place rest)
  pub unplaced : has_field 5 before ≡ false → found.reply_place ≡ None

pub at_start : (o : Order) (bytes : List ℕ) → 16 ≤ length bytes → Reached o bytes nothing_found 16
at_start o bytes long = record {
  before = [];
  fuel = length bytes - 16;
  low = omega arith;
  inside = long;
  enough = omega arith;
  follow = refl;
  is = refl;
  same = refl;
  placed = λ rest. refl;
  unplaced = λ e. refl;
}

-- a valid field is one in its own grammar that may follow
abbrev if_new : List Field → Field × At → Option (Field × At)
if_new before x = when (nat_lt 9 x.0.code || not (has_field x.0.code before)) x

valid_is : (o : Order) (before : List Field) (a : At) → valid_field_at o before a ≡ (sound_field_at o a >>= if_new before)
valid_is o before a = by (field_at o a)
  where
    both : (b : Bool) (x : Field × At) → when (b && (nat_lt 9 x.0.code || not (has_field x.0.code before))) x ≡ (when b x >>= if_new before)
    both true x = refl
    both false x = refl

    by : (r : Option (Field × At)) → (r >>= λ x. when (may_follow before x.0) x) ≡ ((r >>= λ x. when (is_field_of x.0.code x.0.value) x) >>= if_new before)
    by None = refl
    by (Some x) = both (is_field_of x.0.code x.0.value) x

none_parts : (x : Option (Field × At)) → parts x ≡ None → x ≡ None
none_parts None e = refl
none_parts (Some x) e = absurd cc

-- if there is no valid field, reading stops
stopped : (o : Order) (bytes : List ℕ) (found : Found) (place : ℕ) (r : Reached o bytes found place) → valid_field_at o r.before (at_place bytes place) ≡ None → FieldsRead o bytes found place
stopped o bytes found place r none =
    let last : fields_in o bytes ≡ (unwind r.before [], at_place bytes place) = r.same ∙ ap (λ (x : List Field × At). two (unwind r.before x.0) x.1) (nothing_more r.fuel) in
    record {
      low = r.low;
      inside = r.inside;
      ended = ap (λ (x : List Field × At). x.1) last;
      all = λ e.
          r.is
          ∙ unwound r.before found.reply_place r.follow
          ∙ ap (λ (p : Option ℕ). found_in (unwind r.before []) p) (sym (placed_at (has_field 5 r.before) refl))
          ∙ ap (λ (x : List Field × At). found_of o x.0) (sym last);
    }
  where
    two : List Field → At → List Field × At
    two fs a = (fs, a)

    nothing_more : (fuel : ℕ) → fields_at o fuel r.before (at_place bytes place) ≡ ([], at_place bytes place)
    nothing_more zero = refl
    nothing_more (suc n) = ap (λ (x : Option (Field × At)). and_then_all x (at_place bytes place) (λ f rest. fields_at o n (f ∷ r.before) rest)) none

    placed_at : (b : Bool) → has_field 5 r.before ≡ b → number_place o 16 (unwind r.before []) ≡ found.reply_place
    placed_at true e = r.placed [] ∙ ap (λ (b : Bool). cond b found.reply_place None) e
    placed_at false e = r.placed [] ∙ ap (λ (b : Bool). cond b found.reply_place None) e ∙ sym (r.unplaced e)

pub at_none : (o : Order) (bytes : List ℕ) (found : Found) (place : ℕ) → AreBytes bytes → Reached o bytes found place → part_at o bytes place ≡ None → FieldsRead o bytes found place
at_none o bytes found place are r e =
    let none : sound_field_at o (at_place bytes place) ≡ None = none_parts (sound_field_at o (at_place bytes place)) (sym (part_at-is bytes o place are r.inside) ∙ e) in
    stopped o bytes found place r (valid_is o r.before (at_place bytes place) ∙ ap (λ (x : Option (Field × At)). x >>= if_new r.before) none)

-- a field that was read
pub record Read (o : Order) (bytes : List ℕ) (place : ℕ) (part : Part) (end : ℕ) : Type 0 where
  pub one : Field
  pub rules : is_field_of one.code one.value ≡ true
  pub sound : sound_field_at o (at_place bytes place) ≡ Some (one, at_place bytes end)
  pub part_is : part_of one ≡ part
  pub end_is : end ≡ place + length (spelled o place (field_value one))
  pub later : place < end
  pub within : end ≤ length bytes

pub is_read : (o : Order) (bytes : List ℕ) (place : ℕ) (part : Part) (end : ℕ) → AreBytes bytes → place ≤ length bytes → part_at o bytes place ≡ Some (part, end) → Read o bytes place part end
is_read o bytes place part end are inside e = by (sound_field_at o (at_place bytes place)) refl (sym (part_at-is bytes o place are inside) ∙ e)
  where
    pair_is : (x y : Part × ℕ) → some x ≡ some y → x ≡ y
    pair_is x y e = cc

    by : (r : Option (Field × At)) → sound_field_at o (at_place bytes place) ≡ r → parts r ≡ Some (part, end) → Read o bytes place part end
    by None is k = absurd cc
    by (Some x) is k =
        bind_case (field_at o (at_place bytes place)) (λ y. when (is_field_of y.0.code y.0.value) y) x is (λ y ey e1.
        let w = when_is (is_field_of y.0.code y.0.value) y x e1 in
        let s : FieldSpelt o (at_place bytes place) x = subst (FieldSpelt o (at_place bytes place)) w.1 (field_is o (at_place bytes place) y (AreBytes-drop place bytes are) ey) in
        let rules : is_field_of x.0.code x.0.value ≡ true = ap (λ (z : Field × At). is_field_of z.0.code z.0.value) (sym w.1) ∙ w.0 in
        let pair = pair_is (seen x) (part, end) k in
        let part_is : part_of x.0 ≡ part = ap (λ (z : Part × ℕ). z.0) pair in
        let end_place : x.1.place ≡ end = ap (λ (z : Part × ℕ). z.1) pair in
        let first = spelled o place (field_value x.0) in
        let end_is : end ≡ place + length first = sym end_place ∙ s.2.place in
        let len : length (drop place bytes) ≡ length first + length x.1.bytes = ap length s.2.bytes ∙ length-append first x.1.bytes in
        let rest : x.1.bytes ≡ drop end bytes = sym (drop_at first x.1.bytes (length first) refl) ∙ ap (drop (length first)) (sym s.2.bytes) ∙ drop-drop (length first) place bytes ∙ ap (λ (n : ℕ). drop n bytes) (sym end_is) in
        record {
          one = x.0;
          rules = rules;
          sound = is ∙ ap (λ (n : ℕ). at_end x.0 n x.1.bytes) end_place ∙ ap (λ (t : List ℕ). at_end x.0 end t) rest;
          part_is = part_is;
          end_is = end_is;
          later = omega (arith, end_is, spelled_pos (field_value x.0) o place);
          within = omega (arith, end_is, len, length-drop place bytes, inside);
        })
      where
        at_end : Field → ℕ → List ℕ → Option (Field × At)
        at_end f n t = Some (f, record { place = n; bytes = t })

found_is : (x y : Found) → some x ≡ some y → x ≡ y
found_is x y e = cc

-- what is put in, or isn't
put_is : (o : Order) (bytes : List ℕ) (found : Found) (place : ℕ) (part : Part) (end : ℕ) (r : Reached o bytes found place) (x : Read o bytes place part end) →
    with_part found place part ≡ when (may_follow r.before x.one) (found_in (x.one ∷ r.before) (next_place place x.one found.reply_place))
put_is o bytes found place part end r x =
    ap (with_part found place) (sym x.part_is)
    ∙ ap (λ (f : Found). with_part f place (part_of x.one)) r.is
    ∙ puts r.before r.follow place found.reply_place x.one x.rules

valid_read : (o : Order) (bytes : List ℕ) (place : ℕ) (part : Part) (end : ℕ) (before : List Field) (x : Read o bytes place part end) → valid_field_at o before (at_place bytes place) ≡ when (may_follow before x.one) (x.one, at_place bytes end)
valid_read o bytes place part end before x =
    valid_is o before (at_place bytes place)
    ∙ ap (λ (y : Option (Field × At)). y >>= if_new before) x.sound
    ∙ ap (λ (b : Bool). when (b && (nat_lt 9 x.one.code || not (has_field x.one.code before))) (x.one, at_place bytes end)) (sym x.rules)

pub at_refused : (o : Order) (bytes : List ℕ) (found : Found) (place : ℕ) (part : Part) (end : ℕ) → AreBytes bytes → Reached o bytes found place → part_at o bytes place ≡ Some (part, end) → with_part found place part ≡ None →
    (other : Found) → FieldsRead o bytes other place
at_refused o bytes found place part end are r read e other =
    let x = is_read o bytes place part end are r.inside read in
    let none : may_follow r.before x.one ≡ false = refuses (may_follow r.before x.one) _ (sym (put_is o bytes found place part end r x) ∙ e) in
    let s = stopped o bytes found place r (valid_read o bytes place part end r.before x ∙ ap (λ (b : Bool). when b (x.one, at_place bytes end)) none) in
    record { low = s.low; inside = s.inside; ended = s.ended; all = λ k. absurd (omega (arith, k, x.later, x.within)) }
  where
    refuses : (b : Bool) (y : Found) → when b y ≡ None → b ≡ false
    refuses false y e = refl
    refuses true y e = absurd cc

pub at_next : (o : Order) (bytes : List ℕ) (found next : Found) (place : ℕ) (part : Part) (end : ℕ) → AreBytes bytes → Reached o bytes found place → part_at o bytes place ≡ Some (part, end) → with_part found place part ≡ Some next → Reached o bytes next end
at_next o bytes found next place part end are r read e =
    let x = is_read o bytes place part end are r.inside read in
    let w = when_is (may_follow r.before x.one) (found_in (x.one ∷ r.before) (next_place place x.one found.reply_place)) next (sym (put_is o bytes found place part end r x) ∙ e) in
    let valid : valid_field_at o r.before (at_place bytes place) ≡ Some (x.one, at_place bytes end) = valid_read o bytes place part end r.before x ∙ ap (λ (b : Bool). when b (x.one, at_place bytes end)) w.0 in
    goes x w.0 w.1 valid r.fuel r.enough r.same
  where
    goes : (x : Read o bytes place part end) → may_follow r.before x.one ≡ true → found_in (x.one ∷ r.before) (next_place place x.one found.reply_place) ≡ next → valid_field_at o r.before (at_place bytes place) ≡ Some (x.one, at_place bytes end) →
        (fuel : ℕ) → length bytes ≤ place + fuel → fields_in o bytes ≡ (unwind r.before (fields_at o fuel r.before (at_place bytes place)).0, (fields_at o fuel r.before (at_place bytes place)).1) → Reached o bytes next end
    goes x follows next_is valid zero enough same = absurd (omega (arith, enough, x.later, x.within))
    goes x follows next_is valid (suc n) enough same =
        let place_is : next.reply_place ≡ next_place place x.one found.reply_place = ap (λ (f : Found). f.reply_place) (sym next_is) in
        let later = x.later in
        let low = r.low in
        record {
          before = x.one ∷ r.before;
          fuel = n;
          low = omega arith;
          inside = x.within;
          enough = omega (arith, enough, later);
          follow = and_from _ _ follows r.follow;
          is = sym next_is ∙ ap (λ (p : Option ℕ). found_in (x.one ∷ r.before) p) (sym place_is);
          same = same ∙ ap (λ (y : Option (Field × At)). back (and_then_all y (at_place bytes place) (λ f rest. fields_at o n (f ∷ r.before) rest))) valid;
          placed = λ rest. r.placed (x.one ∷ rest) ∙ placed_by rest (x.one.code == 5) refl ∙ ap (λ (p : Option ℕ). cond (has_field 5 (x.one ∷ r.before)) p (number_place o end rest)) (sym place_is);
          unplaced = λ none. place_is ∙ unplaced_by (x.one.code == 5) refl none;
        }
      where
        back : List Field × At → List Field × At
        back y = (unwind r.before y.0, y.1)

        placed_by : (rest : List Field) (b : Bool) → (x.one.code == 5) ≡ b →
            cond (has_field 5 r.before) found.reply_place (cond b (Some (place + padding 8 place + 4)) (number_place o (place + length (spelled o place (field_value x.one))) rest))
            ≡ cond (is_some (cond b (some x.one.value) (field_in 5 r.before))) (cond b (Some (place + padding 8 place + 4)) found.reply_place) (number_place o end rest)
        placed_by rest true e = ap (λ (h : Bool). cond h found.reply_place (Some (place + padding 8 place + 4))) (new_code r.before x.one 5 refl e follows)
        placed_by rest false e = ap (λ (k : ℕ). cond (has_field 5 r.before) found.reply_place (number_place o k rest)) (sym x.end_is)

        unplaced_by : (b : Bool) → (x.one.code == 5) ≡ b → is_some (cond b (some x.one.value) (field_in 5 r.before)) ≡ false → cond b (Some (place + padding 8 place + 4)) found.reply_place ≡ None
        unplaced_by true e none = absurd cc
        unplaced_by false e none = r.unplaced none
