use Rattle.std.proofs.Common.{◌≡◌, ◌∙◌, ap, refl, sym}
use Rattle.std.proofs.lemmas.Result.{on_ok_weaker}
use Rattle.dbus_header.specs.Contents.{message_in}
use Rattle.policy_view.specs.declared.Decision.TheVariants.{Judged, Shown}
use Rattle.policy_view.specs.declared.Verdict.TheVariants.{Pass}
use Rattle.policy_view.specs.declared.Showing.TheVariants.{Whole}
use Rattle.audit.specs.Audit.{denied_by, named, named_by_bus, named_by_client, named_on}
use Rattle.audit.proofs.Added.{sums-name}
use Rattle.audit.proofs.sums.Sums.count.Goals as goal

pub returns-in-Judged-Pass : goal.returns-in-Judged-Pass
returns-in-Judged-Pass c = λ notes sums.
    let note = c.args.note.now in
    let is : note.decision ≡ Judged Pass = sym c.decision.ensures ∙ c.in-Judged-Pass.is ∙ ap Judged c.in-Judged-Pass.field-0-is in
    on_ok_weaker c.mark_client_names.result
    (λ marked. sums-name c.args.policy.now notes note (named_by_client (message_in c.message-message.result.bytes.now)) c.args.self.now (record (c.args.self.now) { named = c.mark_client_names.new.marks }) (ap denied_by is)
    (ap (named_on (message_in note.frame)) is ∙ ap (λ frame. named_by_client (message_in frame)) (sym c.message-message.ensures.bytes)) refl refl sums marked)
    (c.mark_client_names.ensures (named notes) sums.named_is)

pub returns-in-Shown-Whole : goal.returns-in-Shown-Whole
returns-in-Shown-Whole c = λ notes sums.
    let note = c.args.note.now in
    let is : note.decision ≡ Shown Whole = sym c.decision.ensures ∙ c.in-Shown-Whole.is ∙ ap Shown c.in-Shown-Whole.field-0-is in
    on_ok_weaker c.mark_bus_names.result
    (λ marked. sums-name c.args.policy.now notes note (named_by_bus (message_in c.message-message-in-Shown-Whole.result.bytes.now)) c.args.self.now (record (c.args.self.now) { named = c.mark_bus_names.new.marks }) (ap denied_by is)
    (ap (named_on (message_in note.frame)) is ∙ ap (λ frame. named_by_bus (message_in frame)) (sym c.message-message-in-Shown-Whole.ensures.bytes)) refl refl sums marked)
    (c.mark_bus_names.ensures (named notes) sums.named_is)
