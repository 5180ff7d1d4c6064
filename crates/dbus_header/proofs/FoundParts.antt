-- What was found is the parts of the fields that were read, the newest first.
use Rattle.std.proofs.Common.{◌≡◌, ℕ, zero, suc, ◌+◌, ◌<◌, ◌≤◌, Bool, true, false, cond, List, [], ◌∷◌, Option, Some, None, refl, sym, ap, subst, ◌∙◌, arith}
use Rattle.std.specs.Prelude.{not, ◌&&◌, ◌||◌, ◌==◌, nat_lt, is_some}
use Rattle.std.proofs.lemmas.Bool.{and_parts, lt-ltb, eqb-true, ne_eqb}
use Rattle.dbus_types.specs.Signature.{Complete, uint32}
use Rattle.dbus_values.specs.Values.{Value, a_number, a_string, a_path, a_signature, padding}
use Rattle.dbus_values.specs.Reading.{when}
use Rattle.dbus_header.specs.Message.{Field, field_in, has_field, text_in, number_in, has_unknown, is_field_of, text_passes, number_passes, may_follow}
use Rattle.dbus_header.specs.Contents.{Parts}
use Rattle.dbus_header.specs.HeaderFields.{spelled_in, found_in}
use Rattle.dbus_header.specs.HeaderReading.{Part, unread, Found, unless, found_with, with_part}
use Rattle.dbus_header.proofs.FieldSteps.{field, part_of}

-- each may follow those after it in the list
abbrev pub all_follow : List Field → Bool
all_follow [] = true
all_follow (f ∷ before) = may_follow before f && all_follow before

-- the place of the number, if the field at a place is REPLY_SERIAL
abbrev pub next_place : ℕ → Field → Option ℕ → Option ℕ
next_place place f kept = cond (f.code == 5) (Some (place + padding 8 place + 4)) kept

-- ---- a part is in its field

-- the value that a field in its grammar has
path_only : (v : Value) → is_field_of 1 v ≡ true → (text : List ℕ) × (v ≡ a_path text)
path_only (a_path text) e = (text, refl)
path_only _ e = absurd cc

string_only : (test : List ℕ → Bool) (v : Value) → text_passes test v ≡ true → (text : List ℕ) × (v ≡ a_string text)
string_only test (a_string text) e = (text, refl)
string_only test _ e = absurd cc

number_only : (test : ℕ → Bool) (v : Value) → number_passes test v ≡ true → (x : ℕ) × (v ≡ a_number uint32 x)
number_only test (a_number uint32 x) e = (x, refl)
number_only test _ e = absurd cc

signature_only : (v : Value) → is_field_of 8 v ≡ true → (types : List Complete) × (v ≡ a_signature types)
signature_only (a_signature types) e = (types, refl)
signature_only _ e = absurd cc

pub path_holds : (v : Value) → is_field_of 1 v ≡ true → is_some (text_in (Some v)) ≡ true
path_holds v e = ap (λ (w : Value). is_some (text_in (Some w))) (path_only v e).1

pub string_holds : (test : List ℕ → Bool) (v : Value) → text_passes test v ≡ true → is_some (text_in (Some v)) ≡ true
string_holds test v e = ap (λ (w : Value). is_some (text_in (Some w))) (string_only test v e).1

pub number_holds : (test : ℕ → Bool) (v : Value) → number_passes test v ≡ true → is_some (number_in (Some v)) ≡ true
number_holds test v e = ap (λ (w : Value). is_some (number_in (Some w))) (number_only test v e).1

stands : {A : Type 0} (view : Option Value → Option A) (c : ℕ) → is_some (view None) ≡ false → ((v : Value) → is_field_of c v ≡ true → is_some (view (Some v)) ≡ true) → (before : List Field) → all_follow before ≡ true →
    is_some (view (field_in c before)) ≡ has_field c before
stands view c none holds [] follow = none
stands view c none holds (f ∷ before) follow = by (stands view c none holds before k.1) (f.code == c) refl
  where
    k : (may_follow before f ≡ true) × (all_follow before ≡ true)
    k = and_parts (may_follow before f) (all_follow before) follow

    rules : is_field_of f.code f.value ≡ true
    rules = (and_parts (is_field_of f.code f.value) (nat_lt 9 f.code || not (has_field f.code before)) k.0).0

    by : is_some (view (field_in c before)) ≡ has_field c before → (b : Bool) → (f.code == c) ≡ b → is_some (view (cond b (Some f.value) (field_in c before))) ≡ is_some (cond b (Some f.value) (field_in c before))
    by later true e = holds f.value (ap (λ (n : ℕ). is_field_of n f.value) (sym (eqb-true f.code c e)) ∙ rules)
    by later false e = later

pub path_stands : (before : List Field) → all_follow before ≡ true → is_some (text_in (field_in 1 before)) ≡ has_field 1 before
path_stands before follow = stands text_in 1 refl path_holds before follow

pub interface_stands : (before : List Field) → all_follow before ≡ true → is_some (text_in (field_in 2 before)) ≡ has_field 2 before
interface_stands before follow = stands text_in 2 refl (string_holds _) before follow

pub member_stands : (before : List Field) → all_follow before ≡ true → is_some (text_in (field_in 3 before)) ≡ has_field 3 before
member_stands before follow = stands text_in 3 refl (string_holds _) before follow

pub error_stands : (before : List Field) → all_follow before ≡ true → is_some (text_in (field_in 4 before)) ≡ has_field 4 before
error_stands before follow = stands text_in 4 refl (string_holds _) before follow

pub reply_stands : (before : List Field) → all_follow before ≡ true → is_some (number_in (field_in 5 before)) ≡ has_field 5 before
reply_stands before follow = stands number_in 5 refl (number_holds _) before follow

destination_stands : (before : List Field) → all_follow before ≡ true → is_some (text_in (field_in 6 before)) ≡ has_field 6 before
destination_stands before follow = stands text_in 6 refl (string_holds _) before follow

sender_stands : (before : List Field) → all_follow before ≡ true → is_some (text_in (field_in 7 before)) ≡ has_field 7 before
sender_stands before follow = stands text_in 7 refl (string_holds _) before follow

signature_stands : (before : List Field) → all_follow before ≡ true → is_some (spelled_in (field_in 8 before)) ≡ has_field 8 before
signature_stands before follow = stands spelled_in 8 refl (λ v e. refl) before follow

descriptors_stand : (before : List Field) → all_follow before ≡ true → is_some (number_in (field_in 9 before)) ≡ has_field 9 before
descriptors_stand before follow = stands number_in 9 refl (number_holds _) before follow

-- ---- one part more

put_text : (found next : Found) (p : Parts) (s e h : Bool) → s ≡ h → e ≡ true → record found { parts = p } ≡ next → found_with found (unless s p) ≡ when (e && (false || not h)) next
put_text found next p s e h there rules same =
    ap (λ (b : Bool). found_with found (unless b p)) there
    ∙ by h
    ∙ sym (ap (λ (b : Bool). when (b && (false || not h)) next) rules)
  where
    by : (b : Bool) → found_with found (unless b p) ≡ when (true && (false || not b)) next
    by true = refl
    by false = ap (λ (x : Found). some x) same
      where
        some : Found → Option Found
        some x = Some x

taken : (b : Bool) (x y : Part) → b ≡ true → cond b x y ≡ x
taken b x y e = ap (λ (c : Bool). cond c x y) e

put_other : (next : Found) (s e h : Bool) → s ≡ h → e ≡ true → unless s next ≡ when (e && (false || not h)) next
put_other next s e h there rules =
    ap (λ (b : Bool). unless b next) there
    ∙ by h
    ∙ sym (ap (λ (b : Bool). when (b && (false || not h)) next) rules)
  where
    by : (b : Bool) → unless b next ≡ when (true && (false || not b)) next
    by true = refl
    by false = refl

module _ (before : List Field) (follow : all_follow before ≡ true) (place : ℕ) (kept : Option ℕ) where
  abbrev Puts : Field → Type 0
  Puts f = with_part (found_in before kept) place (part_of f) ≡ when (may_follow before f) (found_in (f ∷ before) (next_place place f kept))

  field_other : (c k : ℕ) (v : Value) → 9 < c → k ≤ 9 → field_in k (field c v ∷ before) ≡ field_in k before
  field_other c k v high low = ap (λ (b : Bool). cond b (Some v) (field_in k before)) (ne_eqb c k (λ e. absurd (omega (arith, e, high, low))))

  abbrev of_nine : Option Value → Option Value → Option Value → Option Value → Option Value → Option Value → Option Value → Option Value → Option Value → Found
  of_nine a b c d e f g h i = record {
    parts = record { path = text_in a; interface = text_in b; member = text_in c; error_name = text_in d; reply_serial = number_in e; destination = text_in f; sender = text_in g };
    reply_place = kept;
    unknown = true;
    signature = spelled_in h;
    descriptors = number_in i;
  }

  other : (c : ℕ) (v : Value) → 9 < c → is_field_of c v ≡ true → Puts (field c v)
  other c v high rules =
      let n : (k : ℕ) → k ≤ 9 → field_in k (field c v ∷ before) ≡ field_in k before = λ k low. field_other c k v high low in
      let at : ℕ → Option Value = λ k. field_in k (field c v ∷ before) in
      let kept_so : next_place place (field c v) kept ≡ kept = ap (λ (b : Bool). cond b (Some (place + padding 8 place + 4)) kept) (ne_eqb c 5 (λ e. absurd (omega (arith, e, high)))) in
      let big : nat_lt 9 c ≡ true = lt-ltb 9 c high in
      let same : found_in (field c v ∷ before) (next_place place (field c v) kept) ≡ record (found_in before kept) { unknown = true } =
      ap (λ (p : Option ℕ). found_in (field c v ∷ before) p) kept_so
      ∙ ap (λ (b : Bool). record (found_in (field c v ∷ before) kept) { unknown = b || has_unknown before }) big
      ∙ ap (λ (x : Option Value). of_nine x (at 2) (at 3) (at 4) (at 5) (at 6) (at 7) (at 8) (at 9)) (n 1 (omega arith))
      ∙ ap (λ (x : Option Value). of_nine (field_in 1 before) x (at 3) (at 4) (at 5) (at 6) (at 7) (at 8) (at 9)) (n 2 (omega arith))
      ∙ ap (λ (x : Option Value). of_nine (field_in 1 before) (field_in 2 before) x (at 4) (at 5) (at 6) (at 7) (at 8) (at 9)) (n 3 (omega arith))
      ∙ ap (λ (x : Option Value). of_nine (field_in 1 before) (field_in 2 before) (field_in 3 before) x (at 5) (at 6) (at 7) (at 8) (at 9)) (n 4 (omega arith))
      ∙ ap (λ (x : Option Value). of_nine (field_in 1 before) (field_in 2 before) (field_in 3 before) (field_in 4 before) x (at 6) (at 7) (at 8) (at 9)) (n 5 (omega arith))
      ∙ ap (λ (x : Option Value). of_nine (field_in 1 before) (field_in 2 before) (field_in 3 before) (field_in 4 before) (field_in 5 before) x (at 7) (at 8) (at 9)) (n 6 (omega arith))
      ∙ ap (λ (x : Option Value). of_nine (field_in 1 before) (field_in 2 before) (field_in 3 before) (field_in 4 before) (field_in 5 before) (field_in 6 before) x (at 8) (at 9)) (n 7 (omega arith))
      ∙ ap (λ (x : Option Value). of_nine (field_in 1 before) (field_in 2 before) (field_in 3 before) (field_in 4 before) (field_in 5 before) (field_in 6 before) (field_in 7 before) x (at 9)) (n 8 (omega arith))
      ∙ ap (λ (x : Option Value). of_nine (field_in 1 before) (field_in 2 before) (field_in 3 before) (field_in 4 before) (field_in 5 before) (field_in 6 before) (field_in 7 before) (field_in 8 before) x) (n 9 (omega arith)) in
      let follows : may_follow before (field c v) ≡ true = ap (λ (b : Bool). b && (nat_lt 9 c || not (has_field c before))) rules ∙ ap (λ (b : Bool). true && (b || not (has_field c before))) big in
      ap (with_part (found_in before kept) place) (taken (nat_lt 9 c) unread _ big)
      ∙ ap (λ (x : Found). some x) (sym same)
      ∙ sym (ap (λ (b : Bool). when b (found_in (field c v ∷ before) (next_place place (field c v) kept))) follows)
    where
      some : Found → Option Found
      some x = Some x

  -- if a value is known, what holds of it holds of the field
  known : (c : ℕ) (v w : Value) → v ≡ w → is_field_of c v ≡ true → (is_field_of c w ≡ true → Puts (field c w)) → Puts (field c v)
  known c v w is rules puts = subst (λ (x : Value). Puts (field c x)) (sym is) (puts (ap (is_field_of c) (sym is) ∙ rules))

  path_put : (text : List ℕ) → is_field_of 1 (a_path text) ≡ true → Puts (field 1 (a_path text))
  path_put text rules = put_text (found_in before kept) _ _ _ _ _ (path_stands before follow) rules refl

  interface_put : (text : List ℕ) → is_field_of 2 (a_string text) ≡ true → Puts (field 2 (a_string text))
  interface_put text rules = put_text (found_in before kept) _ _ _ _ _ (interface_stands before follow) rules refl

  member_put : (text : List ℕ) → is_field_of 3 (a_string text) ≡ true → Puts (field 3 (a_string text))
  member_put text rules = put_text (found_in before kept) _ _ _ _ _ (member_stands before follow) rules refl

  error_put : (text : List ℕ) → is_field_of 4 (a_string text) ≡ true → Puts (field 4 (a_string text))
  error_put text rules = put_text (found_in before kept) _ _ _ _ _ (error_stands before follow) rules refl

  destination_put : (text : List ℕ) → is_field_of 6 (a_string text) ≡ true → Puts (field 6 (a_string text))
  destination_put text rules = put_text (found_in before kept) _ _ _ _ _ (destination_stands before follow) rules refl

  sender_put : (text : List ℕ) → is_field_of 7 (a_string text) ≡ true → Puts (field 7 (a_string text))
  sender_put text rules = put_text (found_in before kept) _ _ _ _ _ (sender_stands before follow) rules refl

  reply_put : (x : ℕ) → is_field_of 5 (a_number uint32 x) ≡ true → Puts (field 5 (a_number uint32 x))
  reply_put x rules = put_other _ _ _ _ (reply_stands before follow) rules

  signature_put : (types : List Complete) → is_field_of 8 (a_signature types) ≡ true → Puts (field 8 (a_signature types))
  signature_put types rules = put_other _ _ _ _ (signature_stands before follow) rules

  descriptors_put : (x : ℕ) → is_field_of 9 (a_number uint32 x) ≡ true → Puts (field 9 (a_number uint32 x))
  descriptors_put x rules = put_other _ _ _ _ (descriptors_stand before follow) rules

  by_code : (c : ℕ) (v : Value) → is_field_of c v ≡ true → Puts (field c v)
  by_code zero v rules = absurd cc
  by_code (suc zero) v rules = let p = path_only v rules in known 1 v _ p.1 rules (path_put p.0)
  by_code (suc (suc zero)) v rules = let p = string_only _ v rules in known 2 v _ p.1 rules (interface_put p.0)
  by_code (suc (suc (suc zero))) v rules = let p = string_only _ v rules in known 3 v _ p.1 rules (member_put p.0)
  by_code (suc (suc (suc (suc zero)))) v rules = let p = string_only _ v rules in known 4 v _ p.1 rules (error_put p.0)
  by_code (suc (suc (suc (suc (suc zero))))) v rules = let p = number_only _ v rules in known 5 v _ p.1 rules (reply_put p.0)
  by_code (suc (suc (suc (suc (suc (suc zero)))))) v rules = let p = string_only _ v rules in known 6 v _ p.1 rules (destination_put p.0)
  by_code (suc (suc (suc (suc (suc (suc (suc zero))))))) v rules = let p = string_only _ v rules in known 7 v _ p.1 rules (sender_put p.0)
  by_code (suc (suc (suc (suc (suc (suc (suc (suc zero)))))))) v rules = let p = signature_only v rules in known 8 v _ p.1 rules (signature_put p.0)
  by_code (suc (suc (suc (suc (suc (suc (suc (suc (suc zero))))))))) v rules = let p = number_only _ v rules in known 9 v _ p.1 rules (descriptors_put p.0)
  by_code (suc (suc (suc (suc (suc (suc (suc (suc (suc (suc n)))))))))) v rules = other (suc (suc (suc (suc (suc (suc (suc (suc (suc (suc n)))))))))) v (omega arith) rules

  -- a field's part is added exactly if the field may follow those before it
  pub puts : (f : Field) → is_field_of f.code f.value ≡ true → with_part (found_in before kept) place (part_of f) ≡ when (may_follow before f) (found_in (f ∷ before) (next_place place f kept))
  puts f rules = by_code f.code f.value rules
