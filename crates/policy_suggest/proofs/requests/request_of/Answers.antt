use Rattle.std.proofs.Common.{◌≡◌, ap, ap₂, sym, ◌∙◌, subst}
use Rattle.dbus_header.specs.Contents.{contents_of, message_of, message_in}
use Rattle.dbus_header.specs.Read.{message_seen}
use Rattle.dbus_header.specs.Message.{first_text}
use Rattle.dbus_header.proofs.MessageBodies.{message-read}
use Rattle.dbus_header.proofs.MessageIn.{message-is}
use Rattle.policy_suggest.specs.AskedBy.{asked_by, asked_from}
use Rattle.policy_suggest.specs.Read.{asked_in}
use Rattle.policy_suggest.proofs.Asking.{asked-in}
use Rattle.policy_suggest.proofs.Possible.{IsPossible, asked-possible, request-possible}
use Rattle.policy_suggest.proofs.requests.request_of.Goals as goal

pub returns-in-Client-clause-exact : goal.returns-in-Client-clause-exact
returns-in-Client-clause-exact c =
    let message = c.message-message.result in
    let note = c.args.note.now in
    let found = message-read message.bytes.now (message_seen message) message.read in
    let held : message_in note.frame ≡ found.0 = message-is note.frame found.0 (ap message_of (sym c.message-message.ensures.bytes) ∙ found.1) in
    c.by_message.ensures
    ∙ ap₂ asked_in (c.message-message.ensures.contents ∙ ap contents_of held) (c.first_text.ensures ∙ ap first_text (message-is message.bytes.now found.0 found.1))
    ∙ asked-in found.0 ∙ ap₂ asked_from (sym c.in-Client.is ∙ c.side.ensures) (sym held)

pub returns-in-Client-clause-grammar : goal.returns-in-Client-clause-grammar
returns-in-Client-clause-grammar c =
    let note = c.args.note.now in
    request-possible c.by_message.result (asked_by note) (returns-in-Client-clause-exact c)
    (subst (λ side. IsPossible (asked_from side (message_in note.frame))) (sym c.in-Client.is ∙ c.side.ensures) (asked-possible (message_in note.frame) c.message-message.ensures.valid.0))
