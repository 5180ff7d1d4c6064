-- The steps of reading a text.
use Rattle.std.proofs.Common.{◌≡◌, ℕ, zero, suc, ◌+◌, ◌-◌, ◌<◌, Bool, true, false, cond, List, [], ◌∷◌, ◌++◌, length, drop, Option, Some, None, refl, sym, ap, ◌∙◌, arith}
use Rattle.std.specs.Prelude.{◌==◌, nat_eq, codes}
use Rattle.std.specs.List.{starts_with}
use Rattle.byte_lists.specs.Bytes.{is_empty}
use Rattle.byte_lists.proofs.Options.{some}
use Rattle.dbus_values.specs.Reading.{◌>>=◌}
use Rattle.dbus_values.specs.Walk.{front_code}
use Rattle.dbus_values.specs.declared.Order.{Order}
use Rattle.message_text.specs.MessageText.{Text}
use Rattle.message_text.specs.Reading.{Number, Bytes, Value, Read, hex_at, hex_bytes, byte_at, bytes_to_quote, after_byte, read_items, read_members, read_by, read_within, read_field, read_fields, read_values, signature_in, or_else, with_gap}

less : (n : ℕ) → suc n - 1 ≡ n
less n = omega arith

abbrev no_bytes : Option Bytes
no_bytes = None

abbrev no_value : Option Value
no_value = None

-- ---- hexadecimal digits

pub hex_none : (n : ℕ) (out : List ℕ) (text : Text) → n ≡ 0 → some {A = Bytes} (out, text) ≡ hex_bytes n out text
unfolding hex_bytes
hex_none zero out text e = refl
hex_none (suc n) out text e = absurd (omega arith)

pub hex_read : (n : ℕ) (out : List ℕ) (text : Text) (x : Number) → 0 < n → hex_at text ≡ Some x → hex_bytes (n - 1) (out ++ x.0 ∷ []) x.1 ≡ hex_bytes n out text
unfolding hex_bytes
hex_read zero out text x low e = absurd (omega arith)
hex_read (suc n) out text x low e =
    ap (λ (m : ℕ). hex_bytes m (out ++ x.0 ∷ []) x.1) (less n) ∙ sym (ap (λ (q : Option Number). q >>= λ y. hex_bytes n (out ++ y.0 ∷ []) y.1) e)

pub hex_unread : (n : ℕ) (out : List ℕ) (text : Text) → 0 < n → hex_at text ≡ None → no_bytes ≡ hex_bytes n out text
unfolding hex_bytes
hex_unread zero out text low e = absurd (omega arith)
hex_unread (suc n) out text low e = sym (ap (λ (q : Option Number). q >>= λ y. hex_bytes n (out ++ y.0 ∷ []) y.1) e)

-- ---- texts in quotes

pub byte_read : (n : ℕ) (out : List ℕ) (text : Text) (x : Number) → 0 < n → (front_code text == 34) ≡ false → byte_at text ≡ Some x → bytes_to_quote (n - 1) (out ++ x.0 ∷ []) x.1 ≡ bytes_to_quote n out text
byte_read zero out text x low f e = absurd (omega arith)
byte_read (suc n) out text x low f e =
    ap (λ (m : ℕ). bytes_to_quote m (out ++ x.0 ∷ []) x.1) (less n)
    ∙ sym (ap (λ (b : Bool). cond b (some {A = Bytes} (out, drop 1 text)) (byte_at text >>= λ y. bytes_to_quote n (out ++ y.0 ∷ []) y.1)) f ∙ ap (λ (q : Option Number). q >>= λ y. bytes_to_quote n (out ++ y.0 ∷ []) y.1) e)

-- ---- containers

pub item_read : (item : List ℕ → Text → Option Value) (n : ℕ) (out : List ℕ) (text next : Text) (x : Value) → 0 < n → (front_code text == 93) ≡ false → after_byte 32 text ≡ Some next → item out next ≡ Some x → read_items item (n - 1) x.1 x.2 ≡ read_items item n out text
item_read item zero out text next x low f s e = absurd (omega arith)
item_read item (suc n) out text next x low f s e =
    ap (λ (m : ℕ). read_items item m x.1 x.2) (less n)
    ∙ sym (ap (λ (b : Bool). cond b (some {A = Bytes} (out, drop 1 text)) (after_byte 32 text >>= λ t. item out t >>= λ y. read_items item n y.1 y.2)) f
    ∙ ap (λ (q : Option Text). q >>= λ t. item out t >>= λ y. read_items item n y.1 y.2) s
    ∙ ap (λ (q : Option Value). q >>= λ y. read_items item n y.1 y.2) e)

pub member_read : (inner : Read) (n : ℕ) (types out : List ℕ) (text next : Text) (x : Value) → 0 < n → (front_code types == 41) ≡ false → after_byte 32 text ≡ Some next → inner types out next ≡ Some x → read_members inner (n - 1) x.0 x.1 x.2 ≡ read_members inner n types out text
member_read inner zero types out text next x low f s e = absurd (omega arith)
member_read inner (suc n) types out text next x low f s e =
    ap (λ (m : ℕ). read_members inner m x.0 x.1 x.2) (less n)
    ∙ sym (ap (λ (b : Bool). cond b (after_byte 41 text >>= λ rest. some {A = Value} (drop 1 types, out, rest)) (after_byte 32 text >>= λ t. inner types out t >>= λ y. read_members inner n y.0 y.1 y.2)) f
    ∙ ap (λ (q : Option Text). q >>= λ t. inner types out t >>= λ y. read_members inner n y.0 y.1 y.2) s
    ∙ ap (λ (q : Option Value). q >>= λ y. read_members inner n y.0 y.1 y.2) e)

-- ---- values

pub read_none : (o : Order) (n : ℕ) (types out : List ℕ) (text : Text) → n ≡ 0 → no_value ≡ read_within n o types out text
unfolding read_within
read_none o zero types out text e = refl
read_none o (suc n) types out text e = absurd (omega arith)

pub read_down : (o : Order) (n : ℕ) (types out : List ℕ) (text : Text) → (n ≡ 0 → ⊥) → read_within n o types out text ≡ read_by o (read_within (n - 1) o) types out text
unfolding read_within
read_down o zero types out text e = absurd (e refl)
read_down o (suc n) types out text e = ap (λ (m : ℕ). read_by o (read_within m o) types out text) (sym (less n))

pub body_value_read : (o : Order) (n : ℕ) (types out : List ℕ) (text next : Text) (x : Value) → 0 < n → is_empty types ≡ false → after_byte 32 text ≡ Some next → read_within 65 o types out next ≡ Some x → read_values o (n - 1) x.0 x.1 x.2 ≡ read_values o n types out text
body_value_read o zero types out text next x low f s e = absurd (omega arith)
body_value_read o (suc n) types out text next x low f s e =
    ap (λ (m : ℕ). read_values o m x.0 x.1 x.2) (less n)
    ∙ sym (ap (λ (b : Bool). cond b (some {A = Bytes} (out, text)) (after_byte 32 text >>= λ t. read_within 65 o types out t >>= λ y. read_values o n y.0 y.1 y.2)) f
    ∙ ap (λ (q : Option Text). q >>= λ t. read_within 65 o types out t >>= λ y. read_values o n y.0 y.1 y.2) s
    ∙ ap (λ (q : Option Value). q >>= λ y. read_values o n y.0 y.1 y.2) e)

pub field_read : (o : Order) (n : ℕ) (types : Option (List ℕ)) (out : List ℕ) (text : Text) (x : ℕ × Bytes) → 0 < n → starts_with nat_eq text (codes "body") ≡ false → read_field o out text ≡ Some x →
    read_fields o (n - 1) (or_else types (signature_in x.0 (drop (length (with_gap 8 out) + 1) x.1.0))) x.1.0 x.1.1 ≡ read_fields o n types out text
field_read o zero types out text x low f e = absurd (omega arith)
field_read o (suc n) types out text x low f e =
    let go : ℕ × Bytes → Option (Option (List ℕ) × Bytes) = λ y. read_fields o n (or_else types (signature_in y.0 (drop (length (with_gap 8 out) + 1) y.1.0))) y.1.0 y.1.1 in
    ap (λ (m : ℕ). read_fields o m (or_else types (signature_in x.0 (drop (length (with_gap 8 out) + 1) x.1.0))) x.1.0 x.1.1) (less n)
    ∙ sym (ap (λ (b : Bool). cond b (some {A = Option (List ℕ) × Bytes} (types, (out, drop 4 text))) (read_field o out text >>= go)) f ∙ ap (λ (q : Option (ℕ × Bytes)). q >>= go) e)

-- ---- what isn't read

pub byte_unread : (n : ℕ) (out : List ℕ) (text : Text) → 0 < n → (front_code text == 34) ≡ false → byte_at text ≡ None → no_bytes ≡ bytes_to_quote n out text
byte_unread zero out text low f e = absurd (omega arith)
byte_unread (suc n) out text low f e =
    sym (ap (λ (b : Bool). cond b (some {A = Bytes} (out, drop 1 text)) (byte_at text >>= λ y. bytes_to_quote n (out ++ y.0 ∷ []) y.1)) f ∙ ap (λ (q : Option Number). q >>= λ y. bytes_to_quote n (out ++ y.0 ∷ []) y.1) e)

pub bytes_over : (n : ℕ) (out : List ℕ) (text : Text) → n ≡ 0 → no_bytes ≡ bytes_to_quote n out text
bytes_over zero out text e = refl
bytes_over (suc n) out text e = absurd (omega arith)

pub item_unspaced : (item : List ℕ → Text → Option Value) (n : ℕ) (out : List ℕ) (text : Text) → 0 < n → (front_code text == 93) ≡ false → after_byte 32 text ≡ None → no_bytes ≡ read_items item n out text
item_unspaced item zero out text low f s = absurd (omega arith)
item_unspaced item (suc n) out text low f s =
    sym (ap (λ (b : Bool). cond b (some {A = Bytes} (out, drop 1 text)) (after_byte 32 text >>= λ t. item out t >>= λ y. read_items item n y.1 y.2)) f
    ∙ ap (λ (q : Option Text). q >>= λ t. item out t >>= λ y. read_items item n y.1 y.2) s)

pub item_unread : (item : List ℕ → Text → Option Value) (n : ℕ) (out : List ℕ) (text next : Text) → 0 < n → (front_code text == 93) ≡ false → after_byte 32 text ≡ Some next → item out next ≡ None → no_bytes ≡ read_items item n out text
item_unread item zero out text next low f s e = absurd (omega arith)
item_unread item (suc n) out text next low f s e =
    sym (ap (λ (b : Bool). cond b (some {A = Bytes} (out, drop 1 text)) (after_byte 32 text >>= λ t. item out t >>= λ y. read_items item n y.1 y.2)) f
    ∙ ap (λ (q : Option Text). q >>= λ t. item out t >>= λ y. read_items item n y.1 y.2) s
    ∙ ap (λ (q : Option Value). q >>= λ y. read_items item n y.1 y.2) e)

pub items_over : (item : List ℕ → Text → Option Value) (n : ℕ) (out : List ℕ) (text : Text) → n ≡ 0 → no_bytes ≡ read_items item n out text
items_over item zero out text e = refl
items_over item (suc n) out text e = absurd (omega arith)

pub member_unspaced : (inner : Read) (n : ℕ) (types out : List ℕ) (text : Text) → 0 < n → (front_code types == 41) ≡ false → after_byte 32 text ≡ None → no_value ≡ read_members inner n types out text
member_unspaced inner zero types out text low f s = absurd (omega arith)
member_unspaced inner (suc n) types out text low f s =
    sym (ap (λ (b : Bool). cond b (after_byte 41 text >>= λ rest. some {A = Value} (drop 1 types, out, rest)) (after_byte 32 text >>= λ t. inner types out t >>= λ y. read_members inner n y.0 y.1 y.2)) f
    ∙ ap (λ (q : Option Text). q >>= λ t. inner types out t >>= λ y. read_members inner n y.0 y.1 y.2) s)

pub member_unread : (inner : Read) (n : ℕ) (types out : List ℕ) (text next : Text) → 0 < n → (front_code types == 41) ≡ false → after_byte 32 text ≡ Some next → inner types out next ≡ None → no_value ≡ read_members inner n types out text
member_unread inner zero types out text next low f s e = absurd (omega arith)
member_unread inner (suc n) types out text next low f s e =
    sym (ap (λ (b : Bool). cond b (after_byte 41 text >>= λ rest. some {A = Value} (drop 1 types, out, rest)) (after_byte 32 text >>= λ t. inner types out t >>= λ y. read_members inner n y.0 y.1 y.2)) f
    ∙ ap (λ (q : Option Text). q >>= λ t. inner types out t >>= λ y. read_members inner n y.0 y.1 y.2) s
    ∙ ap (λ (q : Option Value). q >>= λ y. read_members inner n y.0 y.1 y.2) e)

pub members_over : (inner : Read) (n : ℕ) (types out : List ℕ) (text : Text) → n ≡ 0 → no_value ≡ read_members inner n types out text
members_over inner zero types out text e = refl
members_over inner (suc n) types out text e = absurd (omega arith)

pub values_over : (o : Order) (n : ℕ) (types out : List ℕ) (text : Text) → n ≡ 0 → no_bytes ≡ read_values o n types out text
values_over o zero types out text e = refl
values_over o (suc n) types out text e = absurd (omega arith)

abbrev no_fields : Option (Option (List ℕ) × Bytes)
no_fields = None

pub fields_over : (o : Order) (n : ℕ) (types : Option (List ℕ)) (out : List ℕ) (text : Text) → n ≡ 0 → no_fields ≡ read_fields o n types out text
fields_over o zero types out text e = refl
fields_over o (suc n) types out text e = absurd (omega arith)

abbrev pub fields_left : Option (List ℕ) → List ℕ → Text → Option (Option (List ℕ) × Bytes)
fields_left types out text = Some (types, (out, text))

pub fields_end : (o : Order) (n : ℕ) (types : Option (List ℕ)) (out : List ℕ) (text : Text) → 0 < n → starts_with nat_eq text (codes "body") ≡ true → fields_left types out (drop 4 text) ≡ read_fields o n types out text
fields_end o zero types out text low f = absurd (omega arith)
fields_end o (suc n) types out text low f =
    let go : ℕ × Bytes → Option (Option (List ℕ) × Bytes) = λ y. read_fields o n (or_else types (signature_in y.0 (drop (length (with_gap 8 out) + 1) y.1.0))) y.1.0 y.1.1 in
    sym (ap (λ (b : Bool). cond b (fields_left types out (drop 4 text)) (read_field o out text >>= go)) f)

pub field_unread : (o : Order) (n : ℕ) (types : Option (List ℕ)) (out : List ℕ) (text : Text) → 0 < n → starts_with nat_eq text (codes "body") ≡ false → read_field o out text ≡ None → no_fields ≡ read_fields o n types out text
field_unread o zero types out text low f e = absurd (omega arith)
field_unread o (suc n) types out text low f e =
    let go : ℕ × Bytes → Option (Option (List ℕ) × Bytes) = λ y. read_fields o n (or_else types (signature_in y.0 (drop (length (with_gap 8 out) + 1) y.1.0))) y.1.0 y.1.1 in
    sym (ap (λ (b : Bool). cond b (fields_left types out (drop 4 text)) (read_field o out text >>= go)) f ∙ ap (λ (q : Option (ℕ × Bytes)). q >>= go) e)
