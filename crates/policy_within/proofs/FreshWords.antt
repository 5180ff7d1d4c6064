-- The words z0, z1 .. are elements of names, and no separator occurs in them.
use Rattle.std.proofs.Common.{◌≡◌, ℕ, ◌+◌, ◌^◌, ◌<◌, ◌%◌, Bool, true, List, [], ◌∷◌, refl, ◌∙◌, nat_eq, arith}
use Rattle.std.specs.Prelude.{◌&&◌, not, decimal}
use Rattle.std.specs.Char.{is_ascii_alphanumeric, is_ascii_digit}
use Rattle.std.specs.List.{list_all}
use Rattle.std.proofs.lemmas.Bool.{and_from, and_parts, or_left}
use Rattle.std.proofs.lemmas.Bool.Decides.{nat_tests}
use Rattle.std.proofs.lemmas.Fmt.{decimal_by_steps}
use Rattle.std.proofs.lemmas.List.Folds.{list_all-append}
use Rattle.dbus_names.specs.Names.{is_bus_byte, is_word_byte}
use Rattle.policy_within.specs.Apart.{IsPlain}
use Rattle.policy_within.specs.Elements.{z_word}

digit : (n : ℕ) → n < 10 → is_ascii_digit (48 + n) ≡ true
digit n l = grind (arith, nat_tests)

all_digits : (k : ℕ) → k < 2 ^ 64 → list_all is_ascii_digit (decimal k) ≡ true
all_digits = decimal_by_steps (λ n ds. list_all is_ascii_digit ds ≡ true)
    (λ n l. and_from (is_ascii_digit (48 + n)) true (digit n l) refl)
    (λ n ds l e. let small : n % 10 < 10 = omega arith in
    list_all-append is_ascii_digit ds ((48 + n % 10) ∷ [])
    ∙ and_from (list_all is_ascii_digit ds) (is_ascii_digit (48 + n % 10) && true) e (and_from (is_ascii_digit (48 + n % 10)) true (digit (n % 10) small) refl))

pub all-weaker : {X : Type 0} (p q : X → Bool) → ((x : X) → p x ≡ true → q x ≡ true) → (xs : List X) → list_all p xs ≡ true → list_all q xs ≡ true
all-weaker p q weaker [] e = refl
all-weaker p q weaker (x ∷ xs) e = let both = and_parts (p x) (list_all p xs) e in and_from (q x) (list_all q xs) (weaker x both.0) (all-weaker p q weaker xs both.1)

no_separator : (s c : ℕ) → s < 48 → is_ascii_digit c ≡ true → not (nat_eq c s) ≡ true
no_separator s c l e = grind (arith, nat_tests)

bus_byte : (c : ℕ) → is_ascii_digit c ≡ true → is_bus_byte c ≡ true
bus_byte c e = or_left (is_word_byte c) _ (or_left (is_ascii_alphanumeric c) _ (or_left _ _ (or_left (is_ascii_digit c) _ e)))

pub z_word-plain : (k : ℕ) → k < 2 ^ 64 → IsPlain (z_word k)
z_word-plain k l = record {
  no_dot = all-weaker is_ascii_digit (λ c. not (nat_eq c 46)) (λ c. no_separator 46 c (omega arith)) (decimal k) (all_digits k l);
  no_slash = all-weaker is_ascii_digit (λ c. not (nat_eq c 47)) (λ c. no_separator 47 c (omega arith)) (decimal k) (all_digits k l);
  element = all-weaker is_ascii_digit is_bus_byte bus_byte (decimal k) (all_digits k l);
  first = refl;
}
