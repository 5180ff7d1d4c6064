use Rattle.std.proofs.Common.{◌≡◌, ◌≤◌, drop}
use Rattle.std.specs.Char.{is_ascii_digit}
use Rattle.std.specs.List.{list_all}
use Rattle.policy_args.specs.ProxyLine.{digits_worth}
use Rattle.policy_args.proofs.line.read_digits.Given as goal

abbrev pub invariant-loop-digit : goal.invariant-loop-digit
invariant-loop-digit l =
    (l.number ≤ l.most)
    × (digits_worth l.number (drop l.digit-index l.digits) ≡ digits_worth 0 l.digits)
    × (list_all is_ascii_digit (drop l.digit-index l.digits) ≡ list_all is_ascii_digit l.digits)
