use Rattle.std.proofs.Common.{◌∙◌, Some, ap, map, option_map, sym}
use Rattle.tool_words.proofs.OneWordEach.{audit_at_most}
use Rattle.tool_words.proofs.audit_words.Goals as goal

pub filled-requires : goal.filled-requires
filled-requires c = audit_at_most

pub returns-in-Some-clause-found : goal.returns-in-Some-clause-found
returns-in-Some-clause-found c = ap Some c.first_apart.ensures ∙ sym (ap (option_map (λ found. map (λ word. word.now) found.items)) c.in-Some.is) ∙ c.in_ok-found.ensures.found

pub returns-in-None-clause-found : goal.returns-in-None-clause-found
returns-in-None-clause-found c = sym (ap (option_map (λ found. map (λ word. word.now) found.items)) c.in-None.is) ∙ c.in_ok-found.ensures.found
