-- A changed REPLY_SERIAL changes the four bytes of its number, in any position of its field.
use Rattle.std.proofs.Common.{◌≡◌, ℕ, ◌+◌, Bool, true, false, cond, List, [], ◌∷◌, ◌++◌, length, map, Option, Some, refl, sym, ap, ◌∙◌, append_assoc, add_assoc, replicate, arith, inl, inr}
use Rattle.std.specs.Prelude.{not, ◌||◌, ◌==◌, nat_lt, is_some, ◌⊎◌}
use Rattle.std.specs.Int.{w8, w32}
use Rattle.std.proofs.lemmas.List.{length-append, length-replicate, append-nil}
use Rattle.std.proofs.lemmas.Bool.{and_parts, eqb-true, cases_Bool}
use Rattle.std.proofs.lemmas.Option.{same_Some}
use Rattle.byte_lists.proofs.Options.{some}
use Rattle.dbus_types.specs.Signature.{byte, uint32}
use Rattle.dbus_values.specs.Values.{Value, a_number, padding, zeros, number_bytes, spelled}
use Rattle.dbus_header.specs.Message.{Message, Valid, spell, spelled_fields, body_place, reply_serial, with_reply_serial, Field, field_value, set_field, spelled_list, is_field_of, number_passes, may_follow, may_all_follow, has_field, field_in, number_in, number_place, reply_place}
use Rattle.dbus_values.proofs.ValueLaws.{wide_32}
use Rattle.dbus_header.proofs.MessageAgain.{head, head_len, spelled_from}
use Rattle.dbus_values.specs.declared.Order.{Order}
use Rattle.dbus_values.specs.declared.Order.TheVariants.{Little, Big}
use Rattle.dbus_header.proofs.Aligned.{aligned_8, no_gap_4, no_gap_1}

abbrev pub set_reply : ℕ → Field → Field
set_reply n f = set_field 5 (a_number uint32 n) f

-- the two texts, which begin at the start, differ only in one number at the place
pub record OneNumber (o : Order) (x n start : ℕ) (place : Option ℕ) (old new : List ℕ) : Type 0 where
  pub before : List ℕ
  pub after : List ℕ
  pub old_is : old ≡ before ++ (number_bytes o w32 x ++ after)
  pub new_is : new ≡ before ++ (number_bytes o w32 n ++ after)
  pub place_is : place ≡ Some (start + length before)

-- what a reply serial's field has before its number
abbrev lead : Order → ℕ → List ℕ
lead o p =
    let start = p + padding 8 p in
    let code = spelled o start (a_number byte 5) in
    let head = 1 ∷ 117 ∷ 0 ∷ [] in
    zeros 8 p ++ (code ++ (head ++ zeros 4 (start + length code + 3)))

code_len : (o : Order) (start : ℕ) → length (spelled o start (a_number byte 5)) ≡ 1
code_len Little start = ap (λ (k : ℕ). length (replicate k 0 ++ number_bytes Little w8 5)) (no_gap_1 start)
code_len Big start = ap (λ (k : ℕ). length (replicate k 0 ++ number_bytes Big w8 5)) (no_gap_1 start)

-- where the number is
lead_end : (o : Order) (p : ℕ) → p + length (lead o p) ≡ p + padding 8 p + 4
lead_end o p =
    let start = p + padding 8 p in
    let code = spelled o start (a_number byte 5) in
    let gap = zeros 4 (start + length code + 3) in
    let one = code_len o start in
    let at : start + length code + 3 ≡ start + 4 = omega (arith, one) in
    let none : length gap ≡ 0 = length-replicate {A = ℕ} (padding 4 (start + length code + 3)) 0 ∙ ap (padding 4) at ∙ no_gap_4 start (aligned_8 p) in
    omega (arith, length-append (zeros 8 p) (code ++ (1 ∷ 117 ∷ 0 ∷ gap)), length-append code (1 ∷ 117 ∷ 0 ∷ gap), length-replicate {A = ℕ} (padding 8 p) 0, one, none)

unfoldable pub reply_field : ℕ → Field
reply_field x = record { code = 5; value = a_number uint32 x }

reply_spelled : (o : Order) (p x : ℕ) → spelled o p (field_value (reply_field x)) ≡ lead o p ++ number_bytes o w32 x
unfolding reply_field
reply_spelled o p x =
    let start = p + padding 8 p in
    let code = spelled o start (a_number byte 5) in
    let gap = zeros 4 (start + length code + 3) in
    let number = number_bytes o w32 x in
    let variant : List ℕ = 1 ∷ 117 ∷ 0 ∷ (gap ++ number) in
    ap (λ (t : List ℕ). (zeros 8 p ++ code) ++ t) (append-nil variant)
    ∙ append_assoc (zeros 8 p) code variant
    ∙ ap (λ (t : List ℕ). zeros 8 p ++ t) (sym (append_assoc code (1 ∷ 117 ∷ 0 ∷ gap) number))
    ∙ sym (append_assoc (zeros 8 p) (code ++ (1 ∷ 117 ∷ 0 ∷ gap)) number)

-- a field with the code 5 that is valid is a reply serial's
reply_value : (v : Value) → number_passes (nat_lt 0) v ≡ true → (x : ℕ) × (v ≡ a_number uint32 x)
reply_value (a_number uint32 x) e = (x, refl)
reply_value _ e = absurd cc

pub is_reply : (f : Field) → f.code ≡ 5 → is_field_of f.code f.value ≡ true → (x : ℕ) × (f ≡ reply_field x)
unfolding reply_field
is_reply f c e =
    let v = reply_value f.value (ap (λ (k : ℕ). is_field_of k f.value) (sym c) ∙ e) in
    (v.0, ap (λ (k : ℕ). field k f.value) c ∙ ap (λ (w : Value). field 5 w) v.1)
  where
    field : ℕ → Value → Field
    field k w = record { code = k; value = w }

-- nothing changes if no field has the code 5
none_set : (n : ℕ) (fields before : List Field) → has_field 5 before ≡ true → may_all_follow before fields ≡ true → map (set_reply n) fields ≡ fields
none_set n [] before h m = refl
none_set n (f ∷ fields) before h m =
    let a = and_parts (may_follow before f) (may_all_follow (f ∷ before) fields) m in
    let b = and_parts (is_field_of f.code f.value) (nat_lt 9 f.code || not (has_field f.code before)) a.0 in
    let other : (f.code == 5) ≡ false = not_five (cases_Bool (f.code == 5)) b.1 in
    ap (λ (c : Bool). cond c (record f { value = a_number uint32 n }) f ∷ map (set_reply n) fields) other
    ∙ ap (λ (fs : List Field). f ∷ fs) (none_set n fields (f ∷ before) (still (f.code == 5) other) a.1)
  where
    still : (c : Bool) → c ≡ false → is_some (cond c (some f.value) (field_in 5 before)) ≡ true
    still true e = absurd cc
    still false e = h

    not_five : ((f.code == 5) ≡ true) ⊎ ((f.code == 5) ≡ false) → (nat_lt 9 f.code || not (has_field f.code before)) ≡ true → (f.code == 5) ≡ false
    not_five (inr e) k = e
    not_five (inl e) k =
        let five : f.code ≡ 5 = eqb-true f.code 5 e in
        let taken : (nat_lt 9 5 || not (has_field 5 before)) ≡ true = ap (λ (c : ℕ). nat_lt 9 c || not (has_field c before)) (sym five) ∙ k in
        absurd (no_room (has_field 5 before) h taken)
      where
        no_room : (b : Bool) → b ≡ true → not b ≡ true → ⊥
        no_room true p q = cc
        no_room false p q = cc

-- where a reply serial's field ends
pub reply_len : (o : Order) (p x : ℕ) → length (spelled o p (field_value (reply_field x))) ≡ length (lead o p) + 4
reply_len o p x = ap length (reply_spelled o p x) ∙ length-append (lead o p) (number_bytes o w32 x) ∙ ap (λ (k : ℕ). length (lead o p) + k) (wide_32.len o x)

behind_reply : (o : Order) (p x : ℕ) (fields : List Field) → spelled_from o p (reply_field x ∷ fields) ≡ lead o p ++ (number_bytes o w32 x ++ spelled_from o (p + (length (lead o p) + 4)) fields)
behind_reply o p x fields =
    ap (λ (k : ℕ). spelled o p (field_value (reply_field x)) ++ spelled_from o (p + k) fields) (reply_len o p x)
    ∙ ap (λ (t : List ℕ). t ++ spelled_from o (p + (length (lead o p) + 4)) fields) (reply_spelled o p x)
    ∙ append_assoc (lead o p) (number_bytes o w32 x) (spelled_from o (p + (length (lead o p) + 4)) fields)

set_reply-reply : (n x : ℕ) → set_reply n (reply_field x) ≡ reply_field n
unfolding reply_field
set_reply-reply n x = refl

number_of_reply : (x : ℕ) → number_in (some (reply_field x).value) ≡ Some x
unfolding reply_field
number_of_reply x = refl

-- the spelling of fields after a new reply serial
pub fields_reply : (n : ℕ) (o : Order) (fields before : List Field) (p x : ℕ) → has_field 5 before ≡ false → may_all_follow before fields ≡ true → number_in (field_in 5 fields) ≡ Some x → OneNumber o x n p (number_place o p fields) (spelled_from o p fields) (spelled_from o p (map (set_reply n) fields))
fields_reply n o [] before p x h m r = absurd cc
fields_reply n o (f ∷ fields) before p x h m r = go (cases_Bool (f.code == 5)) (fields_reply n o fields (f ∷ before))
  where
    a : (may_follow before f ≡ true) × (may_all_follow (f ∷ before) fields ≡ true)
    a = and_parts (may_follow before f) (may_all_follow (f ∷ before) fields) m

    go : ((f.code == 5) ≡ true) ⊎ ((f.code == 5) ≡ false) → ((q y : ℕ) → has_field 5 (f ∷ before) ≡ false → may_all_follow (f ∷ before) fields ≡ true → number_in (field_in 5 fields) ≡ Some y → OneNumber o y n q (number_place o q fields) (spelled_from o q fields) (spelled_from o q (map (set_reply n) fields)))
        → OneNumber o x n p (number_place o p (f ∷ fields)) (spelled_from o p (f ∷ fields)) (spelled_from o p (map (set_reply n) (f ∷ fields)))
    go (inr e) ih =
        let same : set_reply n f ≡ f = ap (λ (c : Bool). cond c (record f { value = a_number uint32 n }) f) e in
        let first = spelled o p (field_value f) in
        let next = p + length first in
        let stated : number_in (field_in 5 fields) ≡ Some x = sym (ap (λ (c : Bool). number_in (cond c (some f.value) (field_in 5 fields))) e) ∙ r in
        let none : has_field 5 (f ∷ before) ≡ false = ap (λ (c : Bool). is_some (cond c (some f.value) (field_in 5 before))) e ∙ h in
        let one = ih next x none a.1 stated in
        record {
          before = first ++ one.before;
          after = one.after;
          old_is = ap (λ (t : List ℕ). first ++ t) one.old_is ∙ sym (append_assoc first one.before (number_bytes o w32 x ++ one.after));
          new_is = ap (λ (g : Field). spelled_from o p (g ∷ map (set_reply n) fields)) same ∙ ap (λ (t : List ℕ). first ++ t) one.new_is ∙ sym (append_assoc first one.before (number_bytes o w32 n ++ one.after));
          place_is = ap (λ (c : Bool). cond c (Some (p + padding 8 p + 4)) (number_place o next fields)) e ∙ one.place_is
              ∙ ap some (add_assoc p (length first) (length one.before) ∙ ap (λ (k : ℕ). p + k) (sym (length-append first one.before)));
        }
    go (inl e) ih =
        let five : f.code ≡ 5 = eqb-true f.code 5 e in
        let b = and_parts (is_field_of f.code f.value) (nat_lt 9 f.code || not (has_field f.code before)) a.0 in
        let is = is_reply f five b.0 in
        let number : number_in (some f.value) ≡ Some x = sym (ap (λ (c : Bool). number_in (cond c (some f.value) (field_in 5 fields))) e) ∙ r in
        let x_is : is.0 ≡ x = same_Some is.0 x (sym (number_of_reply is.0) ∙ ap (λ (g : Field). number_in (some g.value)) (sym is.1) ∙ number) in
        let f_is : f ≡ reply_field x = is.1 ∙ ap reply_field x_is in
        let had : has_field 5 (f ∷ before) ≡ true = ap (λ (c : Bool). is_some (cond c (some f.value) (field_in 5 before))) e in
        let others : map (set_reply n) fields ≡ fields = none_set n fields (f ∷ before) had a.1 in
        record {
          before = lead o p;
          after = spelled_from o (p + (length (lead o p) + 4)) fields;
          old_is = ap (λ (g : Field). spelled_from o p (g ∷ fields)) f_is ∙ behind_reply o p x fields;
          new_is = ap (λ (g : Field). spelled_from o p (set_reply n g ∷ map (set_reply n) fields)) f_is
              ∙ ap (λ (g : Field). spelled_from o p (g ∷ map (set_reply n) fields)) (set_reply-reply n x)
              ∙ ap (λ (fs : List Field). spelled_from o p (reply_field n ∷ fs)) others
              ∙ behind_reply o p n fields;
          place_is = ap (λ (c : Bool). cond c (Some (p + padding 8 p + 4)) (number_place o (p + length (spelled o p (field_value f))) fields)) e ∙ ap some (sym (lead_end o p));
        }

-- the spelling of a message after a new reply serial: four bytes change, and nothing else
module _ (n x : ℕ) (m : Message) where
  abbrev by_fields : ℕ → List ℕ → List ℕ
  by_fields l fields =
      let body = spelled_list m.order (body_place l) m.body in
      head m.order m.kind m.flags (length body) m.serial l ++ fields ++ zeros 8 (16 + l) ++ body

  abbrev start_of : ℕ → List ℕ
  start_of l = head m.order m.kind m.flags (length (spelled_list m.order (body_place l) m.body)) m.serial l

  abbrev end_of : ℕ → List ℕ
  end_of l = zeros 8 (16 + l) ++ spelled_list m.order (body_place l) m.body

  parted : (l : ℕ) (before number after : List ℕ) → by_fields l (before ++ (number ++ after)) ≡ (start_of l ++ before) ++ (number ++ (after ++ end_of l))
  parted l before number after =
      append_assoc (start_of l ++ (before ++ (number ++ after))) (zeros 8 (16 + l)) (spelled_list m.order (body_place l) m.body)
      ∙ ap (λ (t : List ℕ). t ++ end_of l) (sym (append_assoc (start_of l) before (number ++ after)))
      ∙ append_assoc (start_of l ++ before) (number ++ after) (end_of l)
      ∙ ap (λ (t : List ℕ). (start_of l ++ before) ++ t) (append_assoc number after (end_of l))

  of_fields : OneNumber m.order x n 16 (reply_place m) (spelled_fields m.order m.fields) (spelled_fields m.order (map (set_reply n) m.fields)) → OneNumber m.order x n 0 (reply_place m) (spell m) (spell (with_reply_serial n m))
  unfolding spell
  of_fields one =
      let old = spelled_fields m.order m.fields in
      let new = spelled_fields m.order (map (set_reply n) m.fields) in
      let len : length new ≡ length old = ap length one.new_is ∙ same_len one.before one.after ∙ sym (ap length one.old_is) in
      record {
        before = start_of (length old) ++ one.before;
        after = one.after ++ end_of (length old);
        old_is = ap (by_fields (length old)) one.old_is ∙ parted (length old) one.before (number_bytes m.order w32 x) one.after;
        new_is = ap (λ (l : ℕ). by_fields l new) len ∙ ap (by_fields (length old)) one.new_is ∙ parted (length old) one.before (number_bytes m.order w32 n) one.after;
        place_is = one.place_is ∙ ap some (omega (arith, length-append (start_of (length old)) one.before, head_len m.order m.kind m.flags (length (spelled_list m.order (body_place (length old)) m.body)) m.serial (length old)));
      }
    where
      same_len : (b a : List ℕ) → length (b ++ (number_bytes m.order w32 n ++ a)) ≡ length (b ++ (number_bytes m.order w32 x ++ a))
      same_len b a = omega (arith, length-append b (number_bytes m.order w32 n ++ a), length-append b (number_bytes m.order w32 x ++ a), length-append (number_bytes m.order w32 n) a, length-append (number_bytes m.order w32 x) a, wide_32.len m.order n, wide_32.len m.order x)

pub spell-with_reply_serial : (n x : ℕ) (m : Message) → Valid m → reply_serial m ≡ Some x → OneNumber m.order x n 0 (reply_place m) (spell m) (spell (with_reply_serial n m))
spell-with_reply_serial n x m valid e = of_fields n x m (fields_reply n m.order m.fields [] 16 x refl valid.field_list e)
