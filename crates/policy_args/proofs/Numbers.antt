-- The value of digits.
use Rattle.std.proofs.Common.{◌≡◌, ℕ, ◌+◌, ◌-◌, ◌*◌, ◌≤◌, ◌<◌, Bool, true, false, not, ◌&&◌, nat_le, nat_lt, ◌≢◌, ◌⊎◌, inl, inr, List, [], ◌∷◌, length, drop, get_or, Some, None, Ok, Err, if◌then◌else◌, refl, ap, ap₂, sym, ◌∙◌, arith}
use Rattle.std.specs.Char.{is_ascii_digit}
use Rattle.std.specs.List.{list_all}
use Rattle.std.proofs.lemmas.Bool.{and_parts}
use Rattle.std.proofs.lemmas.Bool.Decides.{nat_tests}
use Rattle.std.proofs.lemmas.List.{at_drop_more, drop_all}
use Rattle.policy_args.specs.ProxyLine.{count_of, descriptor_of, descriptor_within, digits_worth, has_leading_zero, sessions_of}
use Rattle.policy_args.specs.Reading.{worth_of}
use Rattle.policy_args.specs.Words.{◌>>=◌, or_kind}
use Rattle.policy_args.specs.declared.WordKind.TheVariants.{BadNumber}

-- more digits aren't worth less
pub worth-grows : (n : ℕ) (digits : List ℕ) → n ≤ digits_worth n digits
worth-grows n [] = omega arith
worth-grows n (c ∷ digits) = let rest = worth-grows (n * 10 + (c - 48)) digits in omega (arith, rest)

module _ (digits : List ℕ) (i n : ℕ) (inside : i < length digits) (before : digits_worth n (drop i digits) ≡ digits_worth 0 digits) where
  pub worth-next : digits_worth (n * 10 + (get_or digits i 0 - 48)) (drop (i + 1) digits) ≡ digits_worth 0 digits
  worth-next = sym (at_drop_more (digits_worth n) digits i 0 inside) ∙ before

  -- past the limit no more digits help
  pub worth-past : (most : ℕ) → most < n * 10 + (get_or digits i 0 - 48) → None ≡ worth_of most digits
  worth-past most past =
      let grown = worth-grows (n * 10 + (get_or digits i 0 - 48)) (drop (i + 1) digits) in
      let over : nat_le (digits_worth 0 digits) most ≡ false = grind (arith, nat_tests, worth-next, grown, past) in
      go (list_all is_ascii_digit digits) (nat_le (digits_worth 0 digits) most) over
    where
      go : (digit small : Bool) → small ≡ false → None ≡ (if digit && small then Some (digits_worth 0 digits) else None)
      go digit true e = absurd cc
      go true false e = refl
      go false false e = refl

pub digits-next : (digits : List ℕ) (i : ℕ) → i < length digits → is_ascii_digit (get_or digits i 0) ≡ true → list_all is_ascii_digit (drop i digits) ≡ list_all is_ascii_digit digits →
    list_all is_ascii_digit (drop (i + 1) digits) ≡ list_all is_ascii_digit digits
digits-next digits i inside digit before =
    ap (λ b. b && list_all is_ascii_digit (drop (i + 1) digits)) (sym digit) ∙ sym (at_drop_more (list_all is_ascii_digit) digits i 0 inside) ∙ before

-- what isn't a digit ends the number
pub no-digit : (most : ℕ) (digits : List ℕ) (i : ℕ) → i < length digits → is_ascii_digit (get_or digits i 0) ≡ false → list_all is_ascii_digit (drop i digits) ≡ list_all is_ascii_digit digits →
    None ≡ worth_of most digits
no-digit most digits i inside other before =
    ap (λ b. if b && nat_le (digits_worth 0 digits) most then Some (digits_worth 0 digits) else None)
    (sym (ap (λ b. b && list_all is_ascii_digit (drop (i + 1) digits)) other) ∙ sym (at_drop_more (list_all is_ascii_digit) digits i 0 inside) ∙ before)

-- all digits were read
pub worth-end : (most : ℕ) (digits : List ℕ) (i n : ℕ) → length digits ≤ i → n ≤ most → digits_worth n (drop i digits) ≡ digits_worth 0 digits → list_all is_ascii_digit (drop i digits) ≡ list_all is_ascii_digit digits →
    Some n ≡ worth_of most digits
worth-end most digits i n end small worth all =
    let none : drop i digits ≡ [] = drop_all i digits end in
    let is : n ≡ digits_worth 0 digits = ap (digits_worth n) (sym none) ∙ worth in
    let digit : true ≡ list_all is_ascii_digit digits = ap (list_all is_ascii_digit) (sym none) ∙ all in
    let below : true ≡ nat_le (digits_worth 0 digits) most = grind (arith, nat_tests, is, small) in
    ap (λ (k : ℕ). Some k) is ∙ ap₂ (λ (a b : Bool). if a && b then Some (digits_worth 0 digits) else None) digit below

-- a number that begins with no zero
module _ (c : ℕ) (rest : List ℕ) where
  counted : (s : Bool) → or_kind BadNumber (if s then Some (digits_worth 0 (c ∷ rest)) else None) ≡ (if s then Ok (digits_worth 0 (c ∷ rest)) else Err BadNumber)
  counted true = refl
  counted false = refl

  plain : (rest : List ℕ) → c ≢ 48 → has_leading_zero (c ∷ rest) ≡ false
  plain [] other = refl
  plain (d ∷ rest) other = grind (arith, nat_tests, other)

  positive : is_ascii_digit c ≡ true → c ≢ 48 → nat_lt 0 (digits_worth 0 (c ∷ rest)) ≡ true
  positive digit other = let grown = worth-grows (0 * 10 + (c - 48)) rest in grind (arith, nat_tests, grown, digit, other)

  by-digits : (d : Bool) → list_all is_ascii_digit (c ∷ rest) ≡ d → c ≢ 48 →
      or_kind BadNumber (if d && nat_le (digits_worth 0 (c ∷ rest)) 1000000 then Some (digits_worth 0 (c ∷ rest)) else None)
      ≡ (or_kind BadNumber (if d && not (has_leading_zero (c ∷ rest)) then Some (digits_worth 0 (c ∷ rest)) else None) >>= count_of)
  by-digits false all other = refl
  by-digits true all other =
      counted (nat_le (digits_worth 0 (c ∷ rest)) 1000000)
      ∙ ap (λ p. if p && nat_le (digits_worth 0 (c ∷ rest)) 1000000 then Ok (digits_worth 0 (c ∷ rest)) else Err BadNumber) (sym (positive (and_parts (is_ascii_digit c) (list_all is_ascii_digit rest) all).0 other))
      ∙ ap (λ z. or_kind BadNumber (if not z then Some (digits_worth 0 (c ∷ rest)) else None) >>= count_of) (sym (plain rest other))

pub sessions-of-worth : (digits : List ℕ) → 0 < length digits → get_or digits 0 0 ≢ 48 → or_kind BadNumber (worth_of 1000000 digits) ≡ sessions_of digits
sessions-of-worth [] some other = absurd (omega arith)
sessions-of-worth (c ∷ rest) some other = by-digits c rest (list_all is_ascii_digit (c ∷ rest)) refl other

-- zero, and what begins with it
pub no-sessions : (digits : List ℕ) → get_or digits 0 0 ≡ 48 ⊎ (length digits ≡ 0) → Err BadNumber ≡ sessions_of digits
no-sessions [] none = refl
no-sessions (c ∷ rest) (inr none) = absurd (omega (arith, none))
no-sessions (c ∷ []) (inl zero) = ap (λ n. sessions_of (n ∷ [])) (sym zero)
no-sessions (c ∷ d ∷ rest) (inl zero) = go (list_all is_ascii_digit (48 ∷ d ∷ rest)) ∙ ap (λ n. sessions_of (n ∷ d ∷ rest)) (sym zero)
  where
    go : (b : Bool) → Err BadNumber ≡ (or_kind BadNumber (if b && false then Some (digits_worth 0 (48 ∷ d ∷ rest)) else None) >>= count_of)
    go true = refl
    go false = refl

-- ---- descriptors

-- a number without leading zeros
pub descriptor-of-worth : (digits : List ℕ) → 0 < length digits → has_leading_zero digits ≡ false → worth_of 2147483647 digits ≡ descriptor_of digits
descriptor-of-worth [] some plain = absurd (omega arith)
descriptor-of-worth (c ∷ rest) some plain = by (list_all is_ascii_digit (c ∷ rest)) ∙ ap (λ z. descriptor_within (if list_all is_ascii_digit (c ∷ rest) && not z then Some (digits_worth 0 (c ∷ rest)) else None)) (sym plain)
  where
    by : (d : Bool) → (if d && nat_le (digits_worth 0 (c ∷ rest)) 2147483647 then Some (digits_worth 0 (c ∷ rest)) else None)
        ≡ descriptor_within (if d && not false then Some (digits_worth 0 (c ∷ rest)) else None)
    by true = refl
    by false = refl

-- none, or leading zeros
pub no-descriptor : (digits : List ℕ) → has_leading_zero digits ≡ true ⊎ (length digits ≡ 0) → None ≡ descriptor_of digits
no-descriptor [] none = refl
no-descriptor (c ∷ rest) (inr none) = absurd (omega (arith, none))
no-descriptor (c ∷ rest) (inl leading) = by (list_all is_ascii_digit (c ∷ rest)) ∙ ap (λ z. descriptor_within (if list_all is_ascii_digit (c ∷ rest) && not z then Some (digits_worth 0 (c ∷ rest)) else None)) (sym leading)
  where
    by : (d : Bool) → None ≡ descriptor_within (if d && not true then Some (digits_worth 0 (c ∷ rest)) else None)
    by true = refl
    by false = refl
