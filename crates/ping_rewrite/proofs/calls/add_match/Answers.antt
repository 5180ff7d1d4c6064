use Rattle.std.proofs.Common.{ℕ, List, [], ◌∷◌, ◌≡◌, ◌++◌, OnOk, ap, ◌∙◌, subst}
use Rattle.bytes.specs.Filled.{UsesSpare}
use Rattle.ping_rewrite.specs.Fronts.{rule_before}
use Rattle.ping_rewrite.proofs.CallBytes.{add_match_parts, parts_length}
use Rattle.ping_rewrite.proofs.calls.add_match.Goals as goal

pub returns-clause-ok : goal.returns-clause-ok
returns-clause-ok c =
    subst (λ (bytes : List ℕ). OnOk c.put.result (c.put.new.calls.items ≡ c.args.calls.now.items ++ bytes))
    (add_match_parts c.args.serial c.args.pattern.now (c.rule_front-rule.ensures ∙ ap rule_before c.is_exact.ensures) c.name-name.ensures.name c.call_front-front.ensures)
    c.put.ensures.ok

pub returns-clause-spare : goal.returns-clause-spare
returns-clause-spare c =
    subst (UsesSpare c.put.result c.args.calls.now.spare c.put.new.calls.spare)
    (parts_length c.call_front-front.result c.rule_front-rule.result.now c.name-name.result.now (39 ∷ 0 ∷ [])
    (add_match_parts c.args.serial c.args.pattern.now (c.rule_front-rule.ensures ∙ ap rule_before c.is_exact.ensures) c.name-name.ensures.name c.call_front-front.ensures))
    c.put.ensures.spare
