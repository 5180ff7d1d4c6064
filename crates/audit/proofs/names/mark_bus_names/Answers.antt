use Rattle.std.proofs.Common.{◌++◌, ◌∙◌, ap, append-nil, subst, sym}
use Rattle.dbus_header.specs.Message.{first_text}
use Rattle.dbus_header.specs.Read.{message_seen}
use Rattle.dbus_header.specs.Contents.{message_in}
use Rattle.audit.specs.Audit.{listed}
use Rattle.audit.specs.Tallies.{Marked}
use Rattle.audit.proofs.Messages.{bus-names, listed_if, read-message}
use Rattle.audit.proofs.names.mark_bus_names.Goals as goal

pub returns-in_ok-mark_text : goal.returns-in_ok-mark_text
returns-in_ok-mark_text c = λ names marked.
    let bytes = c.args.message.now.bytes.now in
    let read = read-message bytes (message_seen c.args.message.now) c.args.message.now.read in
    let tested = sym c.is_owner_change.ensures ∙ c.if-is_owner_change.true in
    subst (λ t. Marked c.args.policy.now.entries (names ++ t) c.mark_text.new.marks)
    (ap listed c.first_text.ensures ∙ ap (λ b. listed_if b (first_text (message_in bytes))) (sym tested) ∙ bus-names (message_in bytes) (message_seen c.args.message.now) read.1)
    (c.in_ok-mark_text.ensures names marked)

pub returns-else-is_owner_change : goal.returns-else-is_owner_change
returns-else-is_owner_change c = λ names marked.
    let bytes = c.args.message.now.bytes.now in
    let read = read-message bytes (message_seen c.args.message.now) c.args.message.now.read in
    let tested = sym c.is_owner_change.ensures ∙ c.if-is_owner_change.false in
    subst (λ t. Marked c.args.policy.now.entries t c.args.marks.now)
    (sym (append-nil names) ∙ ap (λ t. names ++ t) (ap (λ b. listed_if b (first_text (message_in bytes))) (sym tested) ∙ bus-names (message_in bytes) (message_seen c.args.message.now) read.1))
    marked
