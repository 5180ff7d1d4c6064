-- A message stays valid under a new serial and a new reply serial.
use Rattle.std.proofs.Common.{◌≡◌, ℕ, ◌+◌, ◌^◌, ◌<◌, Bool, true, false, cond, List, [], ◌∷◌, ◌++◌, length, map, Option, Some, refl, sym, ap, ◌∙◌, arith}
use Rattle.std.specs.Prelude.{not, ◌&&◌, ◌||◌, ◌==◌, nat_lt, is_some, unwrap_or}
use Rattle.std.specs.List.{list_all}
use Rattle.std.specs.Int.{w32}
use Rattle.std.proofs.lemmas.List.{length-append}
use Rattle.std.proofs.lemmas.Bool.{and_parts, and_from, eqb-true, lt-ltb}
use Rattle.byte_lists.proofs.Options.{some}
use Rattle.dbus_types.specs.Signature.{uint32, spelled_types}
use Rattle.dbus_values.specs.Values.{Value, a_number, a_variant, number_bytes, spelled, is_value, is_within}
use Rattle.dbus_header.specs.Message.{Field, Message, Valid, spell, spelled_fields, body_place, field_value, with_serial, with_reply_serial, reply_serial, types_in, field_in, number_in, has_field, is_field_of, may_follow, may_all_follow, required, are_valid, are_valid_fields}
use Rattle.dbus_values.proofs.ValueLaws.{wide_32}
use Rattle.dbus_header.proofs.ReplyLaws.{set_reply, reply_field, is_reply, reply_len, OneNumber, fields_reply, spell-with_reply_serial}
use Rattle.dbus_values.specs.declared.Order.{Order}
use Rattle.dbus_values.specs.declared.Order.TheVariants.{Little, Big}

-- ---- a new serial

same_len : (order : Order) (kind flags serial n : ℕ) (fields : List Field) (body : List Value) → let m : Message = record { order = order; kind = kind; flags = flags; serial = serial; fields = fields; body = body } in length (spell (with_serial n m)) ≡ length (spell m)
unfolding spell
same_len Little kind flags serial n fields body = refl
same_len Big kind flags serial n fields body = refl

pub Valid-with_serial : (n : ℕ) (m : Message) → 0 < n → n < 2 ^ 32 → Valid m → Valid (with_serial n m)
Valid-with_serial n m low high v = record {
  kind = v.kind;
  flags = v.flags;
  serial = (low, high);
  field_values = v.field_values;
  field_list = v.field_list;
  fields_len = v.fields_len;
  required = v.required;
  descriptors = v.descriptors;
  body_values = v.body_values;
  agreement = v.agreement;
  len = omega (arith, same_len m.order m.kind m.flags m.serial n m.fields m.body, v.len);
}

-- ---- a new reply serial

module _ (n : ℕ) (low : 0 < n) (high : n < 2 ^ 32) where
  -- a field keeps its code
  pub code_is : (f : Field) → (set_reply n f).code ≡ f.code
  code_is f = go (f.code == 5)
    where
      go : (c : Bool) → (cond c (record f { value = a_number uint32 n }) f).code ≡ f.code
      go true = refl
      go false = refl

  has_same : (c : ℕ) (fields : List Field) → has_field c (map (set_reply n) fields) ≡ has_field c fields
  has_same c [] = refl
  has_same c (f ∷ fields) =
      ap (λ (k : ℕ). is_some (cond (k == c) (some (set_reply n f).value) (field_in c (map (set_reply n) fields)))) (code_is f)
      ∙ go (f.code == c) (has_same c fields)
    where
      go : (b : Bool) → has_field c (map (set_reply n) fields) ≡ has_field c fields → is_some (cond b (some (set_reply n f).value) (field_in c (map (set_reply n) fields))) ≡ is_some (cond b (some f.value) (field_in c fields))
      go true e = refl
      go false e = e

  -- any other field stays
  pub field_same : (c : ℕ) (fields : List Field) → (c == 5) ≡ false → field_in c (map (set_reply n) fields) ≡ field_in c fields
  field_same c [] e = refl
  field_same c (f ∷ fields) e =
      ap (λ (k : ℕ). cond (k == c) (some (set_reply n f).value) (field_in c (map (set_reply n) fields))) (code_is f)
      ∙ ap (λ (o : Option Value). cond (f.code == c) (some (set_reply n f).value) o) (field_same c fields e)
      ∙ go (f.code == c) refl
    where
      go : (b : Bool) → (f.code == c) ≡ b → cond b (some (set_reply n f).value) (field_in c fields) ≡ cond b (some f.value) (field_in c fields)
      go false h = refl
      go true h =
          let is : f.code ≡ c = eqb-true f.code c h in
          ap (λ (d : Bool). some (cond d (record f { value = a_number uint32 n }) f).value) (ap (λ (k : ℕ). k == 5) is ∙ e)

  pub follow_same : (fields before : List Field) → may_all_follow before fields ≡ true → may_all_follow (map (set_reply n) before) (map (set_reply n) fields) ≡ true
  follow_same [] before m = refl
  follow_same (f ∷ fields) before m =
      let a = and_parts (may_follow before f) (may_all_follow (f ∷ before) fields) m in
      let b = and_parts (is_field_of f.code f.value) (nat_lt 9 f.code || not (has_field f.code before)) a.0 in
      let room : (nat_lt 9 (set_reply n f).code || not (has_field (set_reply n f).code (map (set_reply n) before))) ≡ true =
      ap (λ (k : ℕ). nat_lt 9 k || not (has_field k (map (set_reply n) before))) (code_is f) ∙ ap (λ (h : Bool). nat_lt 9 f.code || not h) (has_same f.code before) ∙ b.1 in
      let own : is_field_of (set_reply n f).code (set_reply n f).value ≡ true = ap (λ (k : ℕ). is_field_of k (set_reply n f).value) (code_is f) ∙ value_kept (f.code == 5) refl b.0 in
      and_from _ _ (and_from _ _ own room) (follow_same fields (f ∷ before) a.1)
    where
      value_kept : (d : Bool) → (f.code == 5) ≡ d → is_field_of f.code f.value ≡ true → is_field_of f.code (cond d (record f { value = a_number uint32 n }) f).value ≡ true
      value_kept false h e = e
      value_kept true h e = ap (λ (k : ℕ). is_field_of k (a_number uint32 n)) (eqb-true f.code 5 h) ∙ lt-ltb 0 n low

  pub values_same : (fields before : List Field) (o : Order) (p : ℕ) → may_all_follow before fields ≡ true → are_valid_fields o p fields ≡ true → are_valid_fields o p (map (set_reply n) fields) ≡ true
  unfolding reply_field
  values_same [] before o p m v = refl
  values_same (f ∷ fields) before o p m v = go (f.code == 5) refl (λ q. values_same fields (f ∷ before) o q a.1)
    where
      a : (may_follow before f ≡ true) × (may_all_follow (f ∷ before) fields ≡ true)
      a = and_parts (may_follow before f) (may_all_follow (f ∷ before) fields) m

      t : (((is_within 64 (a_variant f.value)) && is_value o p (field_value f)) ≡ true) × (are_valid_fields o (p + length (spelled o p (field_value f))) fields ≡ true)
      t = and_parts (is_within 64 (a_variant f.value) && is_value o p (field_value f)) (are_valid_fields o (p + length (spelled o p (field_value f))) fields) v

      go : (d : Bool) → (f.code == 5) ≡ d → ((q : ℕ) → are_valid_fields o q fields ≡ true → are_valid_fields o q (map (set_reply n) fields) ≡ true) → are_valid_fields o p (cond d (record f { value = a_number uint32 n }) f ∷ map (set_reply n) fields) ≡ true
      go false h ih = and_from _ _ t.0 (ih (p + length (spelled o p (field_value f))) t.1)
      go true h ih =
          let five : f.code ≡ 5 = eqb-true f.code 5 h in
          let b = and_parts (is_field_of f.code f.value) (nat_lt 9 f.code || not (has_field f.code before)) a.0 in
          let is = is_reply f five b.0 in
          let old_end : are_valid_fields o (p + length (spelled o p (field_value (reply_field n)))) fields ≡ true =
          ap (λ (k : ℕ). are_valid_fields o (p + k) fields) (reply_len o p n ∙ sym (reply_len o p is.0) ∙ ap (λ (g : Field). length (spelled o p (field_value g))) (sym is.1)) ∙ t.1 in
          let new : cond true (record f { value = a_number uint32 n }) f ≡ reply_field n = new_is five in
          ap (λ (g : Field). are_valid_fields o p (g ∷ map (set_reply n) fields)) new
          ∙ and_from _ _ (reply_valid o p) (ih (p + length (spelled o p (field_value (reply_field n)))) old_end)
        where
          new_is : f.code ≡ 5 → record f { value = a_number uint32 n } ≡ reply_field n
          new_is five = ap (λ (k : ℕ). with_code k) five
            where
              with_code : ℕ → Field
              with_code k = record { code = k; value = a_number uint32 n }

          reply_valid : (o : Order) (p : ℕ) → (is_within 64 (a_variant (reply_field n).value) && is_value o p (field_value (reply_field n))) ≡ true
          reply_valid o p = and_from (nat_lt n (2 ^ 32)) true (lt-ltb n (2 ^ 32) high) refl

all_same : {A : Type 0} (p q : A → Bool) (xs : List A) → ((x : A) → p x ≡ q x) → list_all p xs ≡ list_all q xs
all_same p q [] h = refl
all_same p q (x ∷ xs) h = ap (λ (b : Bool). b && list_all p xs) (h x) ∙ ap (λ (b : Bool). q x && b) (all_same p q xs h)

-- texts that differ in one number are as long
pub one_len : {o : Order} {x n start : ℕ} {place : Option ℕ} {old new : List ℕ} → OneNumber o x n start place old new → length new ≡ length old
one_len {o} {x} {n} {old} {new} one =
    ap length one.new_is ∙ parts one.before one.after ∙ sym (ap length one.old_is)
  where
    parts : (b a : List ℕ) → length (b ++ (number_bytes o w32 n ++ a)) ≡ length (b ++ (number_bytes o w32 x ++ a))
    parts b a = omega (arith, length-append b (number_bytes o w32 n ++ a), length-append b (number_bytes o w32 x ++ a), length-append (number_bytes o w32 n) a, length-append (number_bytes o w32 x) a, wide_32.len o n, wide_32.len o x)

pub Valid-with_reply_serial : (n x : ℕ) (m : Message) → 0 < n → n < 2 ^ 32 → reply_serial m ≡ Some x → Valid m → Valid (with_reply_serial n m)
Valid-with_reply_serial n x m low high e v =
    let fields = map (set_reply n) m.fields in
    let one : length (spelled_fields m.order fields) ≡ length (spelled_fields m.order m.fields) = one_len (fields_reply n m.order m.fields [] 16 x refl v.field_list e) in
    let all : length (spell (with_reply_serial n m)) ≡ length (spell m) = one_len (spell-with_reply_serial n x m v e) in
    record {
      kind = v.kind;
      flags = v.flags;
      serial = v.serial;
      field_values = values_same n low high m.fields [] m.order 16 v.field_list v.field_values;
      field_list = follow_same n low high m.fields [] v.field_list;
      fields_len = omega (arith, one, v.fields_len);
      required = all_same (λ code. has_field code fields) (λ code. has_field code m.fields) (required m.kind) (λ code. has_same n low high code m.fields) ∙ v.required;
      descriptors = ap (λ (o : Option Value). unwrap_or (number_in o) 0 == 0) (field_same n low high 9 m.fields refl) ∙ v.descriptors;
      body_values = ap (λ (k : ℕ). are_valid m.order (body_place k) m.body) one ∙ v.body_values;
      agreement = ap (λ (o : Option Value). spelled_types (types_in o)) (field_same n low high 8 m.fields refl) ∙ v.agreement;
      len = omega (arith, all, v.len);
    }
