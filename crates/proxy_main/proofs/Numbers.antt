-- What digits are worth, where that is so much at most.
use Rattle.std.proofs.Common.{◌≡◌, ℕ, ◌+◌, ◌-◌, ◌*◌, ◌<◌, Bool, true, false, ◌&&◌, nat_le, List, length, drop, get_or, Some, None, if◌then◌else◌, refl, arith}
use Rattle.std.specs.Char.{is_ascii_digit}
use Rattle.std.specs.List.{list_all}
use Rattle.std.proofs.lemmas.Bool.Decides.{nat_tests}
use Rattle.policy_args.specs.ProxyLine.{digits_worth}
use Rattle.policy_args.proofs.Numbers.{worth-grows, worth-next}
use Rattle.proxy_main.specs.Read.{worth_within}

module _ (most : ℕ) (digits : List ℕ) where
  -- past the limit no more digits help
  pub past_most : (i n : ℕ) → i < length digits → digits_worth n (drop i digits) ≡ digits_worth 0 digits → most < n * 10 + (get_or digits i 0 - 48) → None ≡ worth_within most digits
  past_most i n inside before past =
      let next = worth-next digits i n inside before in
      let grown = worth-grows (n * 10 + (get_or digits i 0 - 48)) (drop (i + 1) digits) in
      let over : nat_le (digits_worth 0 digits) most ≡ false = grind (arith, nat_tests, next, grown, past) in
      go (list_all is_ascii_digit digits) (nat_le (digits_worth 0 digits) most) over
    where
      go : (digit small : Bool) → small ≡ false → None ≡ (if digit && small then Some (digits_worth 0 digits) else None)
      go digit true e = absurd cc
      go true false e = refl
      go false false e = refl
