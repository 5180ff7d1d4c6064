use Rattle.std.proofs.Common.{Bool, [], length, drop, sym, ap, ◌∙◌}
use Rattle.std.specs.Prelude.{◌&&◌}
use Rattle.sasl_watch.specs.Lines.{has_word}
use Rattle.sasl_watch.proofs.WordLaws.{word-front}
use Rattle.sasl_watch.proofs.words.has_word.Goals as goal

pub returns-in-Some : goal.returns-in-Some
returns-in-Some c =
    let found = c.in-Some.ensures.cases in
    c.is_behind_word.ensures
    ∙ ap (has_word []) found.1
    ∙ sym (word-front c.args.word.now c.args.line.now c.requires
    ∙ ap (λ (b : Bool). b && has_word [] (drop (length c.args.word.now) c.args.line.now)) found.0)
