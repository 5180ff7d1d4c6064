use Rattle.std.proofs.Common.{◌<◌, length, ap, ◌∙◌, arith}
use Rattle.std.proofs.lemmas.Bool.Decides.{nat_tests}
use Rattle.policy_args.specs.declared.WordKind.TheVariants.{BadNumber}
use Rattle.policy_args.specs.ProxyLine.{sessions_of}
use Rattle.policy_args.specs.Words.{or_kind}
use Rattle.policy_args.proofs.Numbers.{sessions-of-worth}
use Rattle.policy_args.proofs.line.read_sessions.Goals as goal

pub returns : goal.returns
returns c =
    let none = c.if-is_empty.ensures in
    let some : 0 < length c.as_bytes-digits.result.now = grind (arith, nat_tests, none) in
    ap (or_kind BadNumber) c.read_digits.ensures ∙ sessions-of-worth c.as_bytes-digits.result.now some c.if-digits-eq48.false ∙ ap sessions_of c.as_bytes-digits.ensures.value
