use Rattle.std.proofs.Common.{sym, ◌∙◌}
use Rattle.std.proofs.lemmas.Result.{IfErr-weaker, IfOk-weaker}
use Rattle.message_text.proofs.WholeBytes.{same_as_head}
use Rattle.message_files.proofs.Messages.{above_limit, good_head, head_is_bad, no_head}
use Rattle.message_files.proofs.showing.message.Goals as goal

pub returns-then-bytes-gt-MESSAGE_LIMIT-clause-bad : goal.returns-then-bytes-gt-MESSAGE_LIMIT-clause-bad
returns-then-bytes-gt-MESSAGE_LIMIT-clause-bad c = above_limit c.args.bytes.now c.if-bytes-gt-MESSAGE_LIMIT.true

pub returns-in_default-clause-bad : goal.returns-in_default-clause-bad
returns-in_default-clause-bad c = no_head c.args.bytes.now c.if-bytes-gt-MESSAGE_LIMIT.false c.in_default.ensures.cases

pub message_of_length-requires-clause-head : goal.message_of_length-requires-clause-head
message_of_length-requires-clause-head c = (same_as_head c.args.bytes.now c.in-Some.head.now c.in-Some.ensures.cases).1 ∙ sym c.in-Ok.ensures.refusal

pub returns-in-Ok-clause-read : goal.returns-in-Ok-clause-read
returns-in-Ok-clause-read c =
    let head = (same_as_head c.args.bytes.now c.in-Some.head.now c.in-Some.ensures.cases).1 ∙ sym c.in-Ok.ensures.refusal in
    IfOk-weaker c.message_of_length.result _ _ (λ x h. record {
      same = h.0;
      message = h.1.0;
      is = good_head c.args.bytes.now c.if-bytes-gt-MESSAGE_LIMIT.false c.in-Some.ensures.cases.enough head ∙ h.1.1;
      read = h.1.2;
    }) c.message_of_length.ensures.read

pub returns-in-Ok-clause-bad : goal.returns-in-Ok-clause-bad
returns-in-Ok-clause-bad c =
    let head = (same_as_head c.args.bytes.now c.in-Some.head.now c.in-Some.ensures.cases).1 ∙ sym c.in-Ok.ensures.refusal in
    IfErr-weaker c.message_of_length.result _ _ (λ bad h. good_head c.args.bytes.now c.if-bytes-gt-MESSAGE_LIMIT.false c.in-Some.ensures.cases.enough head ∙ h) c.message_of_length.ensures.bad

pub returns-in-Err-clause-bad : goal.returns-in-Err-clause-bad
returns-in-Err-clause-bad c =
    let head = (same_as_head c.args.bytes.now c.in-Some.head.now c.in-Some.ensures.cases).1 ∙ sym c.in-Err.ensures.refusal in
    head_is_bad c.args.bytes.now c.in-Err.malformed c.bad.result c.if-bytes-gt-MESSAGE_LIMIT.false c.in-Some.ensures.cases.enough head c.bad.ensures
