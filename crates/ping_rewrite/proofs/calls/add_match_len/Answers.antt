use Rattle.std.proofs.Common.{arith, ap, ◌∙◌, length}
use Rattle.ping_rewrite.specs.Fronts.{rule_before}
use Rattle.ping_rewrite.proofs.CallBytes.{add_match_count}
use Rattle.ping_rewrite.proofs.calls.add_match_len.Goals as goal

pub returns-clause-len : goal.returns-clause-len
returns-clause-len c = λ serial.
    let rule = ap length (c.rule_front.ensures ∙ ap rule_before c.is_exact.ensures) in
    let name = ap length c.name.ensures.name in
    omega (arith, add_match_count serial c.args.pattern.now, rule, name)
