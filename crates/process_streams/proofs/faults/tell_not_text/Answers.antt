use Rattle.std.proofs.Common.{◌≡◌, length, rules, codes, map, ◌∙◌}
use Rattle.std.proofs.lemmas.List.{length-map}
use Rattle.link_traits.specs.Texts.{texts_of}
use Rattle.process_streams.specs.Faults.{not_text_line, word_line}
use Rattle.process_streams.proofs.Telling.{by_line}
use Rattle.process_streams.proofs.faults.tell_not_text.Goals as goal

pub returns-then-begins_tool-clause-ends : goal.returns-then-begins_tool-clause-ends
returns-then-begins_tool-clause-ends g c =
    let line : codes "error: usage\n" ≡ not_text_line (texts_of c.args.before.now) = search rules in
    by_line _ _ _ (texts_of c.args.before.now) _ _ c.tell.ensures.ends line

pub returns-in-Ok-clause-ends : goal.returns-in-Ok-clause-ends
returns-in-Ok-clause-ends g c =
    let line : word_line (length c.args.before.now) ≡ not_text_line (texts_of c.args.before.now) = search (rules, length-map) in
    by_line _ _ _ (texts_of c.args.before.now) _ _ c.tell-in-Ok.ensures.ends (c.as_str.ensures.value ∙ c.in-Ok.ensures ∙ line)
