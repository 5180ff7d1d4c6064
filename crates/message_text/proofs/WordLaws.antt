-- Each word of a text is read as it is printed.
use Rattle.std.proofs.Common.{◌≡◌, ℕ, zero, suc, ◌+◌, ◌-◌, ◌*◌, ◌/◌, ◌%◌, ◌^◌, ◌<◌, ◌≤◌, Bool, true, false, cond, List, [], ◌∷◌, ◌++◌, length, drop, Option, Some, None, refl, sym, ap, ap₂, ◌∙◌, append_assoc, arith, inl, inr, decimal, min}
use Rattle.std.specs.Prelude.{◌&&◌, ◌||◌, ◌==◌, nat_lt, nat_le, nat_eq}
use Rattle.std.specs.List.{starts_with, flat_map, AllByRecursion}
use Rattle.std.specs.Str.{is_utf8}
use Rattle.std.proofs.lemmas.List.{length-append, append-nil, drop_at}
use Rattle.std.proofs.lemmas.Bool.{and_parts, and_from, ltb-true, leb-true, lt-ltb, le-leb, eq-eqb, ne_eqb, cases_Bool, ltb-false}
use Rattle.std.proofs.lemmas.Bool.Decides.{nat_tests}
use Rattle.std.proofs.lemmas.Fmt.{decimal_by_steps}
use Rattle.byte_lists.proofs.Options.{some}
use Rattle.dbus_values.specs.Reading.{◌>>=◌, when}
use Rattle.dbus_values.specs.Walk.{front_code}
use Rattle.dbus_values.proofs.ValueLaws.{then_is, when_true}
use Rattle.dbus_values.proofs.BodyLaws.{starts-if}
use Rattle.message_text.specs.MessageText.{Text, hex_digit, hex_byte, escaped, quoted}
use Rattle.message_text.specs.Printing.{signed_from}
use Rattle.message_text.specs.Reading.{Number, Bytes, after, after_byte, is_digit, digits_from, decimal_at, number_to, negative_at, signed_at, hex_value, hex_at, hex_bytes, escape_at, byte_at, bytes_to_quote, quoted_at}

-- whether a text begins with a digit
abbrev pub starts_digit : Text → Bool
starts_digit [] = false
starts_digit (c ∷ text) = is_digit c

pub after_front : (w r : List ℕ) → after w (w ++ r) ≡ Some r
after_front w r = elim (cases_Bool (starts_with nat_eq (w ++ r) w)) [
  | inl e ↦ ap (λ (b : Bool). cond b (some (drop (length w) (w ++ r))) None) e ∙ ap (λ (t : List ℕ). some t) (drop_at w r (length w) refl)
  | inr e ↦ absurd (starts-if (w ++ r) w r e refl)
]

pub after_one : (b : ℕ) (r : List ℕ) → after_byte b (b ∷ r) ≡ Some r
after_one b r = ap (λ (q : Bool). cond q (some r) None) (eq-eqb b b refl)

-- ---- decimal numbers

digit_step : (n d : ℕ) (r : List ℕ) → d < 10 → (n * 10 + d) < 2 ^ 64 → digits_from n ((48 + d) ∷ r) ≡ digits_from (n * 10 + d) r
digit_step n d r low fits =
    let digit : is_digit (48 + d) ≡ true = and_from _ _ (le-leb 48 (48 + d) (omega arith)) (le-leb (48 + d) 57 (omega arith)) in
    let value : ((n * 10) % 2 ^ 64 + (48 + d) % 16) % 2 ^ 64 ≡ n * 10 + d = omega arith in
    ap (λ (b : Bool). cond b (digits_from (((n * 10) % 2 ^ 64 + (48 + d) % 16) % 2 ^ 64) r) n) digit ∙ ap (λ (m : ℕ). digits_from m r) value

abbrev ReadsBack : ℕ → List ℕ → Type 0
ReadsBack n ds = (r : List ℕ) → n < 2 ^ 64 → digits_from 0 (ds ++ r) ≡ digits_from n r

digits_read : (n : ℕ) → n < 2 ^ 64 → ReadsBack n (decimal n)
digits_read n low = decimal_by_steps ReadsBack one next n low
  where
    one : (m : ℕ) → m < 10 → ReadsBack m ((48 + m) ∷ [])
    one m h r fits = digit_step 0 m r h (omega arith) ∙ ap (λ (k : ℕ). digits_from k r) (omega arith)

    next : (m : ℕ) (ds : List ℕ) → 10 ≤ m → ReadsBack (m / 10) ds → ReadsBack m (ds ++ ((48 + m % 10) ∷ []))
    next m ds h ih r fits =
        let back : m / 10 * 10 + m % 10 ≡ m = omega arith in
        ap (digits_from 0) (append_assoc ds ((48 + m % 10) ∷ []) r)
        ∙ ih ((48 + m % 10) ∷ r) (omega arith)
        ∙ digit_step (m / 10) (m % 10) r (omega arith) (omega arith)
        ∙ ap (λ (k : ℕ). digits_from k r) back

pub record IsDigits (ds : List ℕ) : Type 0 where
  pub first : ℕ
  pub others : List ℕ
  pub is : ds ≡ first ∷ others
  pub digit : is_digit first ≡ true

pub decimal_front : (n : ℕ) → n < 2 ^ 64 → IsDigits (decimal n)
decimal_front n low = decimal_by_steps (λ m ds. IsDigits ds) one next n low
  where
    one : (m : ℕ) → m < 10 → IsDigits ((48 + m) ∷ [])
    one m h = record { first = 48 + m; others = []; is = refl; digit = and_from _ _ (le-leb 48 (48 + m) (omega arith)) (le-leb (48 + m) 57 (omega arith)) }

    next : (m : ℕ) (ds : List ℕ) → 10 ≤ m → IsDigits ds → IsDigits (ds ++ ((48 + m % 10) ∷ []))
    next m ds h ih = record { first = ih.first; others = ih.others ++ ((48 + m % 10) ∷ []); is = ap (λ (t : List ℕ). t ++ ((48 + m % 10) ∷ [])) ih.is; digit = ih.digit }

digits_stop : (n : ℕ) (r : List ℕ) → starts_digit r ≡ false → digits_from n r ≡ n
digits_stop n [] s = refl
digits_stop n (c ∷ r) s = ap (λ (b : Bool). cond b (digits_from (((n * 10) % 2 ^ 64 + c % 16) % 2 ^ 64) r) n) s

pub decimal_read : (n : ℕ) (r : List ℕ) → n < 2 ^ 64 → starts_digit r ≡ false → decimal_at (decimal n ++ r) ≡ Some (n, r)
decimal_read n r low s =
    let is : digits_from 0 (decimal n ++ r) ≡ n = digits_read n low r low ∙ digits_stop n r s in
    ap (λ (m : ℕ). after (decimal m) (decimal n ++ r) >>= λ rest. some {A = Number} (m, rest)) is
    ∙ ap (λ (q : Option Text). q >>= λ rest. some {A = Number} (n, rest)) (after_front (decimal n) r)

pub up_to_read : (most n : ℕ) (r : List ℕ) → n ≤ most → n < 2 ^ 64 → starts_digit r ≡ false → number_to most (decimal n ++ r) ≡ Some (n, r)
up_to_read most n r le low s = then_is _ _ _ _ (decimal_read n r low s) (when_true (nat_le n most) (n, r) (le-leb n most le))

-- a digit isn't a sign
no_sign : (c : ℕ) → is_digit c ≡ true → (c == 45) ≡ false
no_sign c d = ne_eqb c 45 (λ e. omega (arith, e, leb-true 48 c (and_parts (nat_le 48 c) (nat_le c 57) d).0))

plus_read : (half n : ℕ) (r : List ℕ) → n < half → half ≤ 2 ^ 63 → starts_digit r ≡ false → signed_at half (decimal n ++ r) ≡ Some (n, r)
plus_read half n r low high s =
    let front = decimal_front n (omega arith) in
    let text : decimal n ++ r ≡ front.first ∷ (front.others ++ r) = ap (λ (t : List ℕ). t ++ r) front.is in
    ap (signed_at half) text
    ∙ ap (λ (b : Bool). cond b (negative_at half (front.others ++ r)) (number_to (half - 1) (front.first ∷ (front.others ++ r)))) (no_sign front.first front.digit)
    ∙ ap (number_to (half - 1)) (sym text)
    ∙ up_to_read (half - 1) n r (omega arith) (omega arith) s

minus_read : (half n : ℕ) (r : List ℕ) → half ≤ n → n < half + half → half ≤ 2 ^ 63 → starts_digit r ≡ false → signed_at half (45 ∷ (decimal (half + half - n) ++ r)) ≡ Some (n, r)
minus_read half n r le low high s =
    let d = half + half - n in
    let pos : nat_lt 0 d ≡ true = lt-ltb 0 d (omega arith) in
    let most : nat_le d half ≡ true = le-leb d half (omega arith) in
    then_is (decimal_at (decimal d ++ r)) _ _ _ (decimal_read d r (omega arith) s)
    (when_true (nat_lt 0 d && nat_le d half) (half - d + half, r) (and_from _ _ pos most)
    ∙ ap (λ (m : ℕ). some {A = Number} (m, r)) (omega arith))

pub signed_read : (half n : ℕ) (r : List ℕ) → n < half + half → half ≤ 2 ^ 63 → starts_digit r ≡ false → signed_at half (signed_from half n ++ r) ≡ Some (n, r)
signed_read half n r low high s = elim (cases_Bool (nat_lt n half)) [
  | inl e ↦ ap (λ (b : Bool). signed_at half (cond b (decimal n) (45 ∷ decimal (half + half - n)) ++ r)) e ∙ plus_read half n r (ltb-true n half e) high s
  | inr e ↦ ap (λ (b : Bool). signed_at half (cond b (decimal n) (45 ∷ decimal (half + half - n)) ++ r)) e ∙ minus_read half n r (ltb-false n half e) low high s
]

-- ---- hexadecimal digits

digit_again : (d : ℕ) → d < 16 → hex_value (hex_digit d) ≡ d
digit_again d low = grind (arith, nat_tests)

pub hex_again : (b : ℕ) (r : List ℕ) → b < 256 → hex_at (hex_byte b ++ r) ≡ Some (b, r)
hex_again b r low =
    let high = digit_again (b / 16) (omega arith) in
    let next = digit_again (b % 16) (omega arith) in
    ap₂ (λ (x y : ℕ). when (nat_lt x 16 && nat_lt y 16) (x * 16 + y, r)) high next
    ∙ when_true (nat_lt (b / 16) 16 && nat_lt (b % 16) 16) (b / 16 * 16 + b % 16, r) (and_from _ _ (lt-ltb (b / 16) 16 (omega arith)) (lt-ltb (b % 16) 16 (omega arith)))
    ∙ ap (λ (m : ℕ). some {A = Number} (m, r)) (omega arith)

pub hex_all_again : (bs out r : List ℕ) → AllByRecursion (λ b. b < 256) bs → hex_bytes (length bs) out (flat_map hex_byte bs ++ r) ≡ Some (out ++ bs, r)
unfolding hex_bytes
hex_all_again [] out r h = ap (λ (t : List ℕ). some {A = Bytes} (t, r)) (sym (append-nil out))
hex_all_again (b ∷ bs) out r h =
    ap (λ (t : List ℕ). hex_bytes (length (b ∷ bs)) out t) (append_assoc (hex_byte b) (flat_map hex_byte bs) r)
    ∙ then_is _ _ _ _ (hex_again b (flat_map hex_byte bs ++ r) h.0)
    (hex_all_again bs (out ++ b ∷ []) r h.1
    ∙ ap (λ (t : List ℕ). some {A = Bytes} (t, r)) (append_assoc out (b ∷ []) bs))

-- ---- texts in quotes

record IsEscaped (c : ℕ) (r : List ℕ) : Type 0 where
  open_still : (front_code (escaped c ++ r) == 34) ≡ false
  read : byte_at (escaped c ++ r) ≡ Some (c, r)
  long : 0 < length (escaped c)

escaped_is : (c : ℕ) (r : List ℕ) → IsEscaped c r
escaped_is c r = go (c == 92) (c == 34) (nat_lt c 32 || c == 127) refl refl refl
  where
    hex_is : (nat_lt c 32 || c == 127) ≡ true → c < 256
    hex_is h = grind (arith, nat_tests)

    go : (a b l : Bool) → (c == 92) ≡ a → (c == 34) ≡ b → (nat_lt c 32 || c == 127) ≡ l → IsEscaped c r
    go true b l p q s =
        let is : escaped c ≡ 92 ∷ c ∷ [] = ap (λ (x : Bool). cond (x || c == 34) (92 ∷ c ∷ []) (cond (nat_lt c 32 || c == 127) (92 ∷ 120 ∷ hex_byte c) (c ∷ []))) p in
        record {
          open_still = ap (λ (t : List ℕ). front_code (t ++ r) == 34) is;
          read = ap (λ (t : List ℕ). byte_at (t ++ r)) is ∙ ap (λ (x : Bool). cond (x || c == 34) (some {A = Number} (c, r)) (cond (c == 120) (hex_at r >>= λ y. when (nat_lt y.0 32 || y.0 == 127) y) None)) p;
          long = rw is (omega arith);
        }
    go false true l p q s =
        let is : escaped c ≡ 92 ∷ c ∷ [] = ap₂ (λ (x y : Bool). cond (x || y) (92 ∷ c ∷ []) (cond (nat_lt c 32 || c == 127) (92 ∷ 120 ∷ hex_byte c) (c ∷ []))) p q in
        record {
          open_still = ap (λ (t : List ℕ). front_code (t ++ r) == 34) is;
          read = ap (λ (t : List ℕ). byte_at (t ++ r)) is ∙ ap₂ (λ (x y : Bool). cond (x || y) (some {A = Number} (c, r)) (cond (c == 120) (hex_at r >>= λ z. when (nat_lt z.0 32 || z.0 == 127) z) None)) p q;
          long = rw is (omega arith);
        }
    go false false true p q s =
        let is : escaped c ≡ 92 ∷ 120 ∷ hex_byte c =
        ap₂ (λ (x y : Bool). cond (x || y) (92 ∷ c ∷ []) (cond (nat_lt c 32 || c == 127) (92 ∷ 120 ∷ hex_byte c) (c ∷ []))) p q
        ∙ ap (λ (x : Bool). cond x (92 ∷ 120 ∷ hex_byte c) (c ∷ [])) s in
        record {
          open_still = ap (λ (t : List ℕ). front_code (t ++ r) == 34) is;
          read = ap (λ (t : List ℕ). byte_at (t ++ r)) is
              ∙ then_is (hex_at (hex_byte c ++ r)) _ _ _ (hex_again c r (hex_is s)) (when_true (nat_lt c 32 || c == 127) (c, r) s);
          long = rw is (omega arith);
        }
    go false false false p q s =
        let is : escaped c ≡ c ∷ [] =
        ap₂ (λ (x y : Bool). cond (x || y) (92 ∷ c ∷ []) (cond (nat_lt c 32 || c == 127) (92 ∷ 120 ∷ hex_byte c) (c ∷ []))) p q
        ∙ ap (λ (x : Bool). cond x (92 ∷ 120 ∷ hex_byte c) (c ∷ [])) s in
        record {
          open_still = ap (λ (t : List ℕ). front_code (t ++ r) == 34) is ∙ q;
          read = ap (λ (t : List ℕ). byte_at (t ++ r)) is
              ∙ ap (λ (x : Bool). cond x (escape_at r) (cond (c == 34) None (cond (nat_lt c 32 || c == 127) None (some {A = Number} (c, r))))) p
              ∙ ap (λ (x : Bool). cond x None (cond (nat_lt c 32 || c == 127) None (some {A = Number} (c, r)))) q
              ∙ ap (λ (x : Bool). cond x None (some {A = Number} (c, r))) s;
          long = rw is (omega arith);
        }

pub quote_read : (text out r : List ℕ) (fuel : ℕ) → length text < fuel → bytes_to_quote fuel out (flat_map escaped text ++ 34 ∷ r) ≡ Some (out ++ text, r)
quote_read text out r zero h = absurd (omega arith)
quote_read [] out r (suc fuel) h = ap (λ (t : List ℕ). some {A = Bytes} (t, r)) (sym (append-nil out))
quote_read (c ∷ text) out r (suc fuel) h =
    let others = flat_map escaped text ++ 34 ∷ r in
    let is = escaped_is c others in
    ap (λ (t : List ℕ). bytes_to_quote (suc fuel) out t) (append_assoc (escaped c) (flat_map escaped text) (34 ∷ r))
    ∙ ap (λ (b : Bool). cond b (some {A = Bytes} (out, drop 1 (escaped c ++ others))) (byte_at (escaped c ++ others) >>= λ x. bytes_to_quote fuel (out ++ x.0 ∷ []) x.1)) is.open_still
    ∙ then_is _ _ _ _ is.read
    (quote_read text (out ++ c ∷ []) r fuel (omega arith)
    ∙ ap (λ (t : List ℕ). some {A = Bytes} (t, r)) (append_assoc out (c ∷ []) text))

escapes_long : (text : List ℕ) → length text ≤ length (flat_map escaped text)
escapes_long [] = omega arith
escapes_long (c ∷ text) = omega (arith, length-append (escaped c) (flat_map escaped text), (escaped_is c []).long, escapes_long text)

pub quoted_read : (text out r : List ℕ) → is_utf8 text ≡ true → quoted_at out (quoted text ++ r) ≡ Some (out ++ text, r)
quoted_read text out r ok =
    let inside = flat_map escaped text ++ 34 ∷ r in
    let same : drop (min (length out) (length (out ++ text))) (out ++ text) ≡ text =
    ap (λ (m : ℕ). drop m (out ++ text)) (omega (arith, length-append out text)) ∙ drop_at out text (length out) refl in
    ap (λ (t : List ℕ). quoted_at out t) (append_assoc (34 ∷ flat_map escaped text) (34 ∷ []) r)
    ∙ then_is (after_byte 34 (34 ∷ inside)) (λ x. bytes_to_quote (suc (length x)) out x >>= λ y. when (is_utf8 (drop (min (length out) (length y.0)) y.0)) y) inside _ (after_one 34 inside)
    (then_is (bytes_to_quote (suc (length inside)) out inside) (λ y. when (is_utf8 (drop (min (length out) (length y.0)) y.0)) y) (out ++ text, r) _ (quote_read text out r (suc (length inside)) (omega (arith, escapes_long text, length-append (flat_map escaped text) (34 ∷ r))))
    (when_true (is_utf8 (drop (min (length out) (length (out ++ text))) (out ++ text))) (out ++ text, r) (ap is_utf8 same ∙ ok)))
