use Rattle.std.proofs.Common.{◌∙◌, ap, arith, option_map}
use Rattle.std.proofs.lemmas.List.{take_all}
use Rattle.call_rules.specs.Parts.{rule_in}
use Rattle.call_rules.specs.Rules.{method_of}
use Rattle.call_rules.proofs.Cutting.{after-IsCut, before-IsCut, cut_at_first, not_cut, rule-anywhere, rule-at}
use Rattle.call_rules.proofs.parts.parts_of.Goals as goal

pub method_of-requires : goal.method_of-requires
method_of-requires c =
    before-IsCut c.args.text.now c.in-Some.at (cut_at_first c.args.text.now c.in-Some.at c.in-Some.ensures)

pub place_of-requires : goal.place_of-requires
place_of-requires c =
    after-IsCut c.args.text.now c.in-Some.at c.utf8.text (cut_at_first c.args.text.now c.in-Some.at c.in-Some.ensures)

pub returns-in-Some-clause-value : goal.returns-in-Some-clause-value
returns-in-Some-clause-value c =
    let found = cut_at_first c.args.text.now c.in-Some.at c.in-Some.ensures in
    ap (option_map (rule_in c.args.text.now)) c.join.ensures
    ∙ rule-at c.args.text.now c.in-Some.at _ _ found c.method_of.ensures.value c.place_of.ensures.value

pub returns-in-None-clause-value : goal.returns-in-None-clause-value
returns-in-None-clause-value c =
    ap (option_map (rule_in c.args.text.now)) c.join-in-None.ensures
    ∙ rule-anywhere c.args.text.now _ (not_cut c.args.text.now c.in-None.ensures) (c.method_of-in-None.ensures.value ∙ ap method_of (take_all _ c.args.text.now (omega arith)))
