use Rattle.std.proofs.Common.{string_bytes}
use Rattle.audit.proofs.Texts.{text-is}
use Rattle.audit.proofs.lines.audit_text.Goals as goal

pub returns : goal.returns
returns c = λ recordings zipped.
    let sums = c.in_ok-sums.ensures recordings zipped in
    text-is c.args.policy.now recordings c.args.tallies.now c.in_ok-sums.sums (string_bytes c.new-text.result) (string_bytes c.push_recordings.new.text) (string_bytes c.push_reasons.new.text)
    (string_bytes c.push_all_denied.new.text) (string_bytes c.push_all_unnamed.new.text) zipped sums c.new-text.ensures.bytes c.in_ok-push_recordings.ensures c.in_ok-push_reasons.ensures c.in_ok-push_all_denied.ensures
    (c.in_ok-push_all_unnamed.ensures _ sums.named_is)
