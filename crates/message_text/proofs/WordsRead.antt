-- What is read as a word of a text stands there as it is printed.
use Rattle.std.proofs.Common.{◌≡◌, ℕ, zero, suc, ◌+◌, ◌-◌, ◌*◌, ◌/◌, ◌%◌, ◌^◌, ◌<◌, ◌≤◌, Bool, true, false, cond, List, [], ◌∷◌, ◌++◌, length, drop, Some, None, refl, sym, ap, ap₂, subst, ◌∙◌, append_assoc, arith, codes, decimal, min}
use Rattle.std.specs.Prelude.{◌&&◌, ◌||◌, ◌==◌, nat_lt, nat_le, nat_eq}
use Rattle.std.specs.List.{starts_with, flat_map, AllByRecursion}
use Rattle.std.specs.Str.{is_utf8}
use Rattle.std.specs.Int.{w64}
use Rattle.std.proofs.lemmas.List.{length-append, append-nil, drop_at}
use Rattle.std.proofs.lemmas.Bool.{and_parts, ltb-true, leb-true, lt-ltb, le-ltb, eqb-true}
use Rattle.std.proofs.lemmas.Bool.Decides.{nat_tests}
use Rattle.std.proofs.lemmas.Option.{same_Some}
use Rattle.byte_lists.proofs.Options.{some}
use Rattle.byte_lists.specs.Bytes.{AreBytes}
use Rattle.dbus_types.specs.Signature.{Number, byte, boolean, int16, uint16, int32, uint32, int64, uint64, double, handle, number_code}
use Rattle.dbus_values.specs.Values.{number_bytes, limit}
use Rattle.dbus_values.specs.Reading.{◌>>=◌, when, number_of}
use Rattle.dbus_values.specs.Walk.{front_code}
use Rattle.dbus_values.proofs.BodyLaws.{starts-then}
use Rattle.dbus_values.proofs.ValueRead.{bound, when_is, read_width}
use Rattle.dbus_values.specs.declared.Order.{Order}
use Rattle.dbus_values.specs.declared.Order.TheVariants.{Little, Big}
use Rattle.message_text.specs.MessageText.{Text, hex_digit, hex_byte, escaped, quoted, number_text}
use Rattle.message_text.specs.Printing.{signed_from}
use Rattle.message_text.specs.Reading.{Number as NumberAt, Bytes, after, after_byte, decimal_at, number_to, negative_at, signed_at, boolean_at, number_at, digits_from, hex_value, hex_at, hex_bytes, escape_at, byte_at, bytes_to_quote, quoted_at}
use Rattle.message_text.proofs.ReadLaws.{is_double}

pub after_is : (w t r : List ℕ) → after w t ≡ Some r → t ≡ w ++ r
after_is w t r e = go (starts_with nat_eq t w) refl e
  where
    go : (b : Bool) → starts_with nat_eq t w ≡ b → cond b (some (drop (length w) t)) None ≡ Some r → t ≡ w ++ r
    go true h q = starts-then t w h ∙ ap (λ (x : List ℕ). w ++ x) (same_Some (drop (length w) t) r q)
    go false h q = absurd cc

pub after_byte_is : (b : ℕ) (t r : List ℕ) → after_byte b t ≡ Some r → t ≡ b ∷ r
after_byte_is b [] r e = absurd cc
after_byte_is b (c ∷ t) r e = go (c == b) refl e
  where
    go : (q : Bool) → (c == b) ≡ q → cond q (some t) None ≡ Some r → c ∷ t ≡ b ∷ r
    go true h s = ap₂ (λ (x : ℕ) (y : List ℕ). x ∷ y) (eqb-true c b h) (same_Some t r s)
    go false h s = absurd cc

-- ---- numbers

pub decimal_is : (t : Text) (x : NumberAt) → decimal_at t ≡ Some x → t ≡ decimal x.0 ++ x.1
decimal_is t x e =
    let n = digits_from 0 t in
    let s = bound (after (decimal n) t) (λ rest. some {A = NumberAt} (n, rest)) x e in
    let same : (n, s.0) ≡ x = same_Some (n, s.0) x s.2 in
    subst (λ (y : NumberAt). t ≡ decimal y.0 ++ y.1) same (after_is (decimal n) t s.0 s.1)

pub up_to_is : (most : ℕ) (t : Text) (x : NumberAt) → number_to most t ≡ Some x → (x.0 ≤ most) × (t ≡ decimal x.0 ++ x.1)
up_to_is most t x e =
    let s = bound (decimal_at t) (λ y. when (nat_le y.0 most) y) x e in
    let w = when_is (nat_le s.0.0 most) s.0 x s.2 in
    subst (λ (y : NumberAt). (y.0 ≤ most) × (t ≡ decimal y.0 ++ y.1)) w.1 (leb-true s.0.0 most w.0, decimal_is t s.0 s.1)

half_facts : (h y : ℕ) → 0 < y → y ≤ h → (h ≤ h - y + h) × (h - y + h < h + h) × (h + h - (h - y + h) ≡ y)
half_facts h y low high = (omega arith, omega arith, omega arith)

pub signed_is : (half : ℕ) (t : Text) (x : NumberAt) → 0 < half → signed_at half t ≡ Some x → (x.0 < half + half) × (t ≡ signed_from half x.0 ++ x.1)
signed_is half [] x pos e = absurd cc
signed_is half (c ∷ t) x pos e = go (c == 45) refl e
  where
    minus : (y : NumberAt) → (nat_lt 0 y.0 && nat_le y.0 half) ≡ true → c ≡ 45 → t ≡ decimal y.0 ++ y.1 → (half - y.0 + half < half + half) × (c ∷ t ≡ signed_from half (half - y.0 + half) ++ y.1)
    minus y h sign is =
        let a = and_parts (nat_lt 0 y.0) (nat_le y.0 half) h in
        let facts = half_facts half y.0 (ltb-true 0 y.0 a.0) (leb-true y.0 half a.1) in
        let x' = half - y.0 + half in
        let word : signed_from half x' ≡ 45 ∷ decimal y.0 =
        ap (λ (b : Bool). cond b (decimal x') (45 ∷ decimal (half + half - x'))) (le-ltb x' half facts.0)
        ∙ ap (λ (m : ℕ). 45 ∷ decimal m) facts.2 in
        (facts.1, ap₂ (λ (d : ℕ) (u : List ℕ). d ∷ u) sign is ∙ ap (λ (u : List ℕ). u ++ y.1) (sym word))

    go : (b : Bool) → (c == 45) ≡ b → cond b (negative_at half t) (number_to (half - 1) (c ∷ t)) ≡ Some x → (x.0 < half + half) × (c ∷ t ≡ signed_from half x.0 ++ x.1)
    go true h q =
        let s = bound (decimal_at t) (λ y. when (nat_lt 0 y.0 && nat_le y.0 half) (half - y.0 + half, y.1)) x q in
        let w = when_is (nat_lt 0 s.0.0 && nat_le s.0.0 half) (half - s.0.0 + half, s.0.1) x s.2 in
        subst (λ (y : NumberAt). (y.0 < half + half) × (c ∷ t ≡ signed_from half y.0 ++ y.1)) w.1 (minus s.0 w.0 (eqb-true c 45 h) (decimal_is t s.0 s.1))
    go false h q =
        let s = up_to_is (half - 1) (c ∷ t) x q in
        let word : signed_from half x.0 ≡ decimal x.0 = ap (λ (b : Bool). cond b (decimal x.0) (45 ∷ decimal (half + half - x.0))) (lt-ltb x.0 half (omega (arith, s.0))) in
        (omega (arith, s.0), s.1 ∙ ap (λ (u : List ℕ). u ++ x.1) (sym word))

boolean_is : (o : Order) (t : Text) (x : NumberAt) → boolean_at t ≡ Some x → (x.0 < 2) × (t ≡ number_text o boolean x.0 ++ x.1)
boolean_is o t x e = go (starts_with nat_eq t (codes "true")) refl e
  where
    go : (b : Bool) → starts_with nat_eq t (codes "true") ≡ b → cond b (some {A = NumberAt} (1, drop 4 t)) (after (codes "false") t >>= λ rest. some {A = NumberAt} (0, rest)) ≡ Some x → (x.0 < 2) × (t ≡ number_text o boolean x.0 ++ x.1)
    go true h q =
        let one : NumberAt = (1, drop 4 t) in
        subst (λ (y : NumberAt). (y.0 < 2) × (t ≡ number_text o boolean y.0 ++ y.1)) (same_Some one x q) (omega arith, starts-then t (codes "true") h)
    go false h q =
        let s = bound (after (codes "false") t) (λ rest. some {A = NumberAt} (0, rest)) x q in
        let none : NumberAt = (0, s.0) in
        subst (λ (y : NumberAt). (y.0 < 2) × (t ≡ number_text o boolean y.0 ++ y.1)) (same_Some none x s.2) (omega arith, after_is (codes "false") t s.0 s.1)

pub number_is : (n : Number) (o : Order) (t : Text) (x : NumberAt) → is_double n ≡ false → number_at (number_code n) t ≡ Some x → (nat_lt x.0 (limit n) ≡ true) × (t ≡ number_text o n x.0 ++ x.1)
number_is byte o t x d e = let s = up_to_is (2 ^ 8 - 1) t x e in let low = s.0 in (lt-ltb x.0 256 (omega arith), s.1)
number_is boolean o t x d e = let s = boolean_is o t x e in (lt-ltb x.0 2 s.0, s.1)
number_is int16 o t x d e = let s = signed_is (2 ^ 15) t x (omega arith) e in let low = s.0 in (lt-ltb x.0 (256 ^ 2) (omega arith), s.1)
number_is uint16 o t x d e = let s = up_to_is (2 ^ 16 - 1) t x e in let low = s.0 in (lt-ltb x.0 (256 ^ 2) (omega arith), s.1)
number_is int32 o t x d e = let s = signed_is (2 ^ 31) t x (omega arith) e in let low = s.0 in (lt-ltb x.0 (256 ^ 4) (omega arith), s.1)
number_is uint32 o t x d e = let s = up_to_is (2 ^ 32 - 1) t x e in let low = s.0 in (lt-ltb x.0 (256 ^ 4) (omega arith), s.1)
number_is int64 o t x d e = let s = signed_is (2 ^ 63) t x (omega arith) e in let low = s.0 in (lt-ltb x.0 (256 ^ 8) (omega arith), s.1)
number_is uint64 o t x d e = let s = up_to_is (2 ^ 64 - 1) t x e in let low = s.0 in (lt-ltb x.0 (256 ^ 8) (omega arith), s.1)
number_is double o t x d e = absurd cc
number_is handle o t x d e = let s = up_to_is (2 ^ 32 - 1) t x e in let low = s.0 in (lt-ltb x.0 (256 ^ 4) (omega arith), s.1)

-- ---- hexadecimal digits

digit_is : (c : ℕ) → hex_value c < 16 → hex_digit (hex_value c) ≡ c
digit_is c low = grind (arith, nat_tests)

hex_parts : (a b : ℕ) → hex_value a < 16 → hex_value b < 16 → hex_byte (hex_value a * 16 + hex_value b) ≡ a ∷ b ∷ []
hex_parts a b high low =
    let x = hex_value a in
    let y = hex_value b in
    let first : (x * 16 + y) / 16 ≡ x = omega arith in
    let second : (x * 16 + y) % 16 ≡ y = omega arith in
    ap₂ (λ (p q : ℕ). hex_digit p ∷ hex_digit q ∷ []) first second ∙ ap₂ (λ (p q : ℕ). p ∷ q ∷ []) (digit_is a high) (digit_is b low)

pub hex_is : (t : Text) (x : NumberAt) → hex_at t ≡ Some x → (x.0 < 256) × (t ≡ hex_byte x.0 ++ x.1)
hex_is [] x e = absurd cc
hex_is (a ∷ []) x e = absurd cc
hex_is (a ∷ b ∷ t) x e =
    let w = when_is (nat_lt (hex_value a) 16 && nat_lt (hex_value b) 16) (hex_value a * 16 + hex_value b, t) x e in
    let v = and_parts (nat_lt (hex_value a) 16) (nat_lt (hex_value b) 16) w.0 in
    let high = ltb-true (hex_value a) 16 v.0 in
    let low = ltb-true (hex_value b) 16 v.1 in
    subst (λ (y : NumberAt). (y.0 < 256) × (a ∷ b ∷ t ≡ hex_byte y.0 ++ y.1)) w.1 (omega arith, ap (λ (u : List ℕ). u ++ t) (sym (hex_parts a b high low)))

pub record HexRead (n : ℕ) (t rest : Text) : Type 0 where
  pub bytes : List ℕ
  pub len : length bytes ≡ n
  pub low : AllByRecursion (λ b. b < 256) bytes
  pub is : t ≡ flat_map hex_byte bytes ++ rest

pub hex_bytes_is : (n : ℕ) (out : List ℕ) (t : Text) (x : Bytes) → hex_bytes n out t ≡ Some x → HexRead n t x.1
unfolding hex_bytes
hex_bytes_is zero out t x e = record { bytes = []; len = refl; low = tt; is = ap (λ (y : Bytes). y.1) (same_Some (out, t) x e) }
hex_bytes_is (suc n) out t x e =
    let s = bound (hex_at t) (λ y. hex_bytes n (out ++ y.0 ∷ []) y.1) x e in
    let h = hex_is t s.0 s.1 in
    let r = hex_bytes_is n (out ++ s.0.0 ∷ []) s.0.1 x s.2 in
    record {
      bytes = s.0.0 ∷ r.bytes;
      len = ap suc r.len;
      low = (h.0, r.low);
      is = h.1 ∙ ap (λ (u : List ℕ). hex_byte s.0.0 ++ u) r.is ∙ sym (append_assoc (hex_byte s.0.0) (flat_map hex_byte r.bytes) x.1);
    }

-- ---- texts in quotes

abbrev word_of : (a l : Bool) → ℕ → Text
word_of a l c = cond a (92 ∷ c ∷ []) (cond l (92 ∷ 120 ∷ hex_byte c) (c ∷ []))

byte_in_hex : (c : ℕ) → (nat_lt c 32 || c == 127) ≡ true → (c == 92 || c == 34) ≡ false
byte_in_hex c low = grind (arith, nat_tests)

escape_is : (t : Text) (x : NumberAt) → escape_at t ≡ Some x → 92 ∷ t ≡ escaped x.0 ++ x.1
escape_is [] x e = absurd cc
escape_is (c ∷ t) x e = go (c == 92 || c == 34) refl (c == 120) refl e
  where
    go : (a : Bool) → (c == 92 || c == 34) ≡ a → (b : Bool) → (c == 120) ≡ b → cond a (some {A = NumberAt} (c, t)) (cond b (hex_at t >>= λ y. when (nat_lt y.0 32 || y.0 == 127) y) None) ≡ Some x → 92 ∷ (c ∷ t) ≡ escaped x.0 ++ x.1
    go true h b k q =
        let here : NumberAt = (c, t) in
        subst (λ (y : NumberAt). 92 ∷ (c ∷ t) ≡ escaped y.0 ++ y.1) (same_Some here x q) (ap (λ (a : Bool). word_of a (nat_lt c 32 || c == 127) c ++ t) (sym h))
    go false h true k q =
        let s = bound (hex_at t) (λ y. when (nat_lt y.0 32 || y.0 == 127) y) x q in
        let w = when_is (nat_lt s.0.0 32 || s.0.0 == 127) s.0 x s.2 in
        let n = s.0.0 in
        subst (λ (y : NumberAt). 92 ∷ (c ∷ t) ≡ escaped y.0 ++ y.1) w.1 (
        ap₂ (λ (d : ℕ) (u : List ℕ). 92 ∷ (d ∷ u)) (eqb-true c 120 k) (hex_is t s.0 s.1).1
        ∙ ap₂ (λ (a l : Bool). word_of a l n ++ s.0.1) (sym (byte_in_hex n w.0)) (sym w.0))
    go false h false k q = absurd cc

pub byte_is : (t : Text) (x : NumberAt) → byte_at t ≡ Some x → t ≡ escaped x.0 ++ x.1
byte_is [] x e = absurd cc
byte_is (c ∷ t) x e = go (c == 92) refl (c == 34) refl (nat_lt c 32 || c == 127) refl e
  where
    go : (a : Bool) → (c == 92) ≡ a → (b : Bool) → (c == 34) ≡ b → (l : Bool) → (nat_lt c 32 || c == 127) ≡ l → cond a (escape_at t) (cond b None (cond l None (some {A = NumberAt} (c, t)))) ≡ Some x → c ∷ t ≡ escaped x.0 ++ x.1
    go true h b k l m q = ap (λ (d : ℕ). d ∷ t) (eqb-true c 92 h) ∙ escape_is t x q
    go false h true k l m q = absurd cc
    go false h false k true m q = absurd cc
    go false h false k false m q =
        let here : NumberAt = (c, t) in
        subst (λ (y : NumberAt). c ∷ t ≡ escaped y.0 ++ y.1) (same_Some here x q) (
        ap (λ (y : Bool). cond y (92 ∷ c ∷ []) (c ∷ []) ++ t) (sym (ap₂ (λ (y z : Bool). y || z) h k))
        ∙ ap (λ (y : Bool). cond (c == 92 || c == 34) (92 ∷ c ∷ []) (cond y (92 ∷ 120 ∷ hex_byte c) (c ∷ [])) ++ t) (sym m))

pub record QuoteRead (out t : List ℕ) (x : Bytes) : Type 0 where
  pub text : Text
  pub bytes : x.0 ≡ out ++ text
  pub is : t ≡ flat_map escaped text ++ 34 ∷ x.1

front_is : (t : Text) (c : ℕ) → (front_code t == suc c) ≡ true → t ≡ suc c ∷ drop 1 t
front_is [] c e = absurd (omega (arith, eqb-true 0 (suc c) e))
front_is (d ∷ t) c e = ap (λ (y : ℕ). y ∷ t) (eqb-true d (suc c) e)

quote_is : (n : ℕ) (out : List ℕ) (t : Text) (x : Bytes) → bytes_to_quote n out t ≡ Some x → QuoteRead out t x
quote_is zero out t x e = absurd cc
quote_is (suc n) out t x e = go (λ p u y q. quote_is n p u y q) (front_code t == 34) refl e
  where
    go : ((p : List ℕ) (u : Text) (y : Bytes) → bytes_to_quote n p u ≡ Some y → QuoteRead p u y) → (b : Bool) → (front_code t == 34) ≡ b → cond b (some {A = Bytes} (out, drop 1 t)) (byte_at t >>= λ y. bytes_to_quote n (out ++ y.0 ∷ []) y.1) ≡ Some x → QuoteRead out t x
    go later true h q =
        let here : Bytes = (out, drop 1 t) in
        subst (λ (y : Bytes). QuoteRead out t y) (same_Some here x q) (record { text = []; bytes = sym (append-nil out); is = front_is t 33 h })
    go later false h q =
        let s = bound (byte_at t) (λ y. bytes_to_quote n (out ++ y.0 ∷ []) y.1) x q in
        let r = later (out ++ s.0.0 ∷ []) s.0.1 x s.2 in
        record {
          text = s.0.0 ∷ r.text;
          bytes = r.bytes ∙ append_assoc out (s.0.0 ∷ []) r.text;
          is = byte_is t s.0 s.1 ∙ ap (λ (u : List ℕ). escaped s.0.0 ++ u) r.is ∙ sym (append_assoc (escaped s.0.0) (flat_map escaped r.text) (34 ∷ x.1));
        }

pub record TextRead (t rest : Text) : Type 0 where
  pub text : Text
  pub sound : is_utf8 text ≡ true
  pub is : t ≡ quoted text ++ rest

pub quoted_is : (out : List ℕ) (t : Text) (x : Bytes) → quoted_at out t ≡ Some x → TextRead t x.1
quoted_is out t x e =
    let inside = bound (after_byte 34 t) (λ i. bytes_to_quote (suc (length i)) out i >>= λ y. when (is_utf8 (drop (min (length out) (length y.0)) y.0)) y) x e in
    let i = inside.0 in
    let s = bound (bytes_to_quote (suc (length i)) out i) (λ y. when (is_utf8 (drop (min (length out) (length y.0)) y.0)) y) x inside.2 in
    let w = when_is (is_utf8 (drop (min (length out) (length s.0.0)) s.0.0)) s.0 x s.2 in
    let r = quote_is (suc (length i)) out i s.0 s.1 in
    let same : drop (min (length out) (length s.0.0)) s.0.0 ≡ r.text =
    ap (λ (b : List ℕ). drop (min (length out) (length b)) b) r.bytes
    ∙ ap (λ (m : ℕ). drop m (out ++ r.text)) (omega (arith, length-append out r.text)) ∙ drop_at out r.text (length out) refl in
    record {
      text = r.text;
      sound = ap is_utf8 (sym same) ∙ w.0;
      is = after_byte_is 34 t i inside.1 ∙ ap (λ (u : List ℕ). 34 ∷ u) r.is ∙ sym (append_assoc (34 ∷ flat_map escaped r.text) (34 ∷ []) s.0.1) ∙ ap (λ (y : Bytes). quoted r.text ++ y.1) w.1;
    }

-- ---- a double's eight bytes

all_low : (bs : List ℕ) → AllByRecursion (λ b. b < 256) bs → AreBytes bs
all_low [] h i = omega arith
all_low (b ∷ bs) h zero = h.0
all_low (b ∷ bs) h (suc i) = all_low bs h.1 i

below : (o : Order) (bs : List ℕ) → AreBytes bs → number_of o w64 bs < 256 ^ 8
below Little bs h = omega (arith, h 0, h 1, h 2, h 3, h 4, h 5, h 6, h 7)
below Big bs h = omega (arith, h 0, h 1, h 2, h 3, h 4, h 5, h 6, h 7)

pub double_is : (o : Order) (bs : List ℕ) → length bs ≡ 8 → AllByRecursion (λ b. b < 256) bs → (nat_lt (number_of o w64 bs) (limit double) ≡ true) × (number_bytes o w64 (number_of o w64 bs) ≡ bs)
double_is o bs len low = (lt-ltb (number_of o w64 bs) (256 ^ 8) (below o bs (all_low bs low)), (read_width double).back o bs len (all_low bs low))
