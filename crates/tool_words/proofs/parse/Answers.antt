use Rattle.std.proofs.Common.{◌∙◌, ap, fold, map}
use Rattle.clap.specs.Words.{App, app_of, new_rule, with_rule}
use Rattle.tool_words.specs.Tools.{command_with}
use Rattle.tool_words.proofs.Parsing.{parsed}
use Rattle.tool_words.proofs.parse.Goals as goal

pub returns : goal.returns
returns c =
    parsed (command_with c.args.tool.now (map (λ p. p.now) c.args.places.now) (map (λ p. p.now) c.args.others.now)) _ (app_of c.in_ok-with_others.field-0) _ (c.in_ok-with_others.ensures ∙ ap (λ (command : App). fold (λ made place. with_rule made (new_rule place)) command (map (λ p. p.now) c.args.others.now)) c.in_ok-command.ensures) c.requires
    c.try_get_matches_from.ensures.kinds c.try_get_matches_from.ensures.matches
