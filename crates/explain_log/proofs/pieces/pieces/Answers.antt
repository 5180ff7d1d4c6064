use Rattle.std.proofs.Common.{◌≡◌, ◌∙◌, ap, length, rules}
use Rattle.explain_log.specs.Lines.{number_word, text_word}
use Rattle.explain_log.proofs.LineWords.{line_of_pieces}
use Rattle.explain_log.proofs.pieces.pieces.Goals as goal

pub returns : goal.returns
returns c =
    let two : length c.kind_pieces.result ≡ 2 = search rules in
    let four : length c.decision_pieces.result ≡ 4 = search rules in
    line_of_pieces c.args.session c.args.note.now c.side.result c.number.result _ c.decision.result c.kind_pieces.result c.decision_pieces.result _ _ _ _ _ _ _ _ _ _ _
    c.side.ensures c.number.ensures c.requires c.decision.ensures
    two c.kind_pieces.ensures four c.decision_pieces.ensures
    c.format.ensures.text c.side_word-side.ensures c.format-2.ensures.text c.format-3.ensures.text (c.number_word.ensures ∙ ap number_word c.reply_serial.ensures.seen)
    (c.text_word-sender.ensures ∙ ap text_word c.sender.ensures.seen) (c.text_word-destination.ensures ∙ ap text_word c.destination.ensures.seen)
    (c.text_word-path.ensures ∙ ap text_word c.path.ensures.seen) (c.text_word-interface.ensures ∙ ap text_word c.interface.ensures.seen)
    (c.text_word-member.ensures ∙ ap text_word c.member.ensures.seen)
