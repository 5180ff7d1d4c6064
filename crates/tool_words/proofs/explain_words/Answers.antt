use Rattle.std.proofs.Common.{◌∙◌, ap, sym}
use Rattle.tool_words.specs.Tools.{explain_places, words_found}
use Rattle.tool_words.proofs.OneWordEach.{explain_one_each}
use Rattle.tool_words.proofs.explain_words.Goals as goal

pub matches_of-requires : goal.matches_of-requires
matches_of-requires c = explain_one_each

pub returns-in-Some-clause-found : goal.returns-in-Some-clause-found
returns-in-Some-clause-found c = c.explain_places.ensures ∙ sym (ap (words_found explain_places) c.in-Some.is) ∙ c.in_ok-matches.ensures.found

pub returns-in-None-clause-found : goal.returns-in-None-clause-found
returns-in-None-clause-found c = sym (ap (words_found explain_places) c.in-None.is) ∙ c.in_ok-matches.ensures.found
