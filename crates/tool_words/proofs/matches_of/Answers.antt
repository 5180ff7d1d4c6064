use Rattle.std.proofs.Common.{◌∙◌, ap, map}
use Rattle.std.proofs.lemmas.Result.{IfOk-weaker}
use Rattle.tool_words.specs.Tools.{taken, words_at}
use Rattle.tool_words.proofs.OneWordEach.{utf8_behind}
use Rattle.tool_words.proofs.matches_of.Goals as goal

pub returns-clause-found : goal.returns-clause-found
unfolding taken
returns-clause-found c = IfOk-weaker c.accepted.result _ _ (λ r h. h (words_at (map (λ p. p.now) c.args.places.now))) c.accepted.ensures

pub returns-clause-plain : goal.returns-clause-plain
unfolding taken
returns-clause-plain c =
    IfOk-weaker c.accepted.result _ _ (λ r h. h (words_at (map (λ p. p.now) c.args.places.now)) ∙ c.requires.takes _ (utf8_behind c.args.words.now)) c.accepted.ensures
