use Rattle.std.proofs.Common.{◌∙◌, ap, sym, arith}
use Rattle.explain_log.proofs.EntryWords.{line_of_number, no_line_at_0, no_line_past}
use Rattle.explain_log.specs.Lines.{decision_entry}
use Rattle.explain_log.proofs.lines.entry_line.Goals as goal

pub returns-then-number-eq0 : goal.returns-then-number-eq0
returns-then-number-eq0 c = sym (no_line_at_0 c.args.policy.now c.args.note.now c.entry_number-number.result (c.entry_number-number.ensures ∙ ap decision_entry c.decision.ensures) c.if-number-eq0.true)

pub returns-then-len-number : goal.returns-then-len-number
returns-then-len-number c = sym (no_line_past c.args.policy.now c.args.note.now c.entry_number-number.result (c.entry_number-number.ensures ∙ ap decision_entry c.decision.ensures) (omega arith))

pub returns : goal.returns
returns c =
    line_of_number c.args.policy.now c.args.note.now c.entry_number-number.result c.word-word.result.now _ _ _ _ _ _ (c.entry_number-number.ensures ∙ ap decision_entry c.decision.ensures)
    (omega arith) c.word-word.ensures
    c.in_ok-line.ensures.bytes c.in_ok-push_str.ensures.bytes (rw c.format.ensures.text at c.in_ok-push_str-2.ensures.bytes)
    c.in_ok-push_str-3.ensures.bytes c.in_ok-push_str-4.ensures.bytes c.in_ok-push_str-5.ensures.bytes
