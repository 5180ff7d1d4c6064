use Rattle.std.proofs.Common.{◌≡◌, ◌≤◌, ◌+◌, ◌*◌, ◌-◌, ℕ, Bool, true, false, ◌&&◌, List, ◌∷◌, length, take, drop, get_or, Option, Some, None, if◌then◌else◌, refl, sym, ap, ap₂, ◌∙◌, arith}
use Rattle.std.specs.Char.{digit_value, is_ascii_hexdigit}
use Rattle.std.proofs.Math.Seq.{take-length}
use Rattle.std.proofs.lemmas.List.{length-drop}
use Rattle.policy_args.specs.Addresses.{unescaped_part}
use Rattle.policy_args.proofs.address.escaped.Goals as goal
use Rattle.policy_args.proofs.address.escaped.Goals.{in_default-2-via-in-Some+in_default, in_default-2-via-in_default}

abbrev worth : ℕ → Option ℕ
worth c = if is_ascii_hexdigit c then Some (digit_value c) else None

abbrev joined : Option ℕ → Option ℕ → List ℕ → Option (List ℕ)
joined (Some high) (Some low) text = Some ((high * 16 + low) ∷ text)
joined _ _ text = None

two_digits : (bytes : List ℕ) (high low : Option ℕ) → 2 ≤ length bytes → high ≡ worth (get_or bytes 0 0) → low ≡ worth (get_or bytes 1 0) → joined high low (drop 2 bytes) ≡ unescaped_part bytes
two_digits (a ∷ b ∷ text) high low long e f = ap₂ (λ x y. joined x y text) e f ∙ by (is_ascii_hexdigit a) (is_ascii_hexdigit b)
  where
    by : (p q : Bool) → joined (if p then Some (digit_value a) else None) (if q then Some (digit_value b) else None) text ≡ (if p && q then Some ((digit_value a * 16 + digit_value b) ∷ text) else None)
    by true true = refl
    by true false = refl
    by false q = refl
two_digits _ high low long e f = absurd (omega (arith, long))

plain_is : (bytes : List ℕ) → take (length bytes - 2) (drop 2 bytes) ≡ drop 2 bytes
plain_is bytes = ap (λ (n : ℕ). take n (drop 2 bytes)) (sym (length-drop 2 bytes)) ∙ take-length (drop 2 bytes)

pub returns-in-Some-Some : goal.returns-in-Some-Some
returns-in-Some-Some c =
    ap (λ (text : List ℕ). joined (Some c.in-Some-Some.high) (Some c.in-Some-Some.low) text) (plain_is c.args.bytes.now)
    ∙ two_digits c.args.bytes.now (Some c.in-Some-Some.high) (Some c.in-Some-Some.low) c.in-len2-up.len_at_least (sym c.in-Some-Some.is-0 ∙ c.digit.ensures.value) (sym c.in-Some-Some.is-1 ∙ c.digit-in-len2-up.ensures.value)

pub returns-in_default-2 : goal.returns-in_default-2
returns-in_default-2 c =
    elim c.in_default-2.branch [
      | in_default-2-via-in-Some+in_default w ↦ two_digits c.args.bytes.now (Some w.in_default-2.field-0-0) None c.in-len2-up.len_at_least (sym w.in_default-2.is-0 ∙ c.digit.ensures.value) (sym w.in_default-2.is-1 ∙ c.digit-in-len2-up.ensures.value)
      | in_default-2-via-in_default w ↦ two_digits c.args.bytes.now None c.digit-in-len2-up.result c.in-len2-up.len_at_least (sym w.in_default-2.is-0 ∙ c.digit.ensures.value) c.digit-in-len2-up.ensures.value
    ]
