use Rattle.std.proofs.Common.{◌++◌, ◌∙◌, ap, append-nil, append_assoc, subst, sym}
use Rattle.dbus_header.specs.Message.{first_text}
use Rattle.dbus_header.specs.Read.{message_seen}
use Rattle.dbus_header.specs.Seen.{text_seen}
use Rattle.dbus_header.specs.Contents.{message_in}
use Rattle.audit.specs.Audit.{listed, where_well_known}
use Rattle.audit.specs.Tallies.{Marked}
use Rattle.audit.proofs.Messages.{client-names, listed_if, read-message}
use Rattle.audit.proofs.names.mark_client_names.Goals as goal

pub returns-in_ok-mark_text : goal.returns-in_ok-mark_text
returns-in_ok-mark_text c = λ names marked.
    let bytes = c.args.message.now.bytes.now in
    let read = read-message bytes (message_seen c.args.message.now) c.args.message.now.read in
    let tested = sym c.is_bus_call.ensures ∙ c.if-is_bus_call.true in
    let first = where_well_known (message_seen c.args.message.now).parts.destination in
    let marks = subst (λ t. Marked c.args.policy.now.entries (names ++ where_well_known t) c.mark_destination.new.marks) c.destination.ensures.seen (c.in_ok-mark_destination.ensures names marked) in
    subst (λ t. Marked c.args.policy.now.entries t c.mark_text.new.marks)
    (append_assoc names first (listed (text_seen c.first_text.result))
    ∙ ap (λ t. names ++ t) (ap (λ t. first ++ t) (ap listed c.first_text.ensures ∙ ap (λ b. listed_if b (first_text (message_in bytes))) (sym tested))
    ∙ client-names (message_in bytes) (message_seen c.args.message.now) read.1))
    (c.in_ok-mark_text.ensures _ marks)

pub returns-else-is_bus_call : goal.returns-else-is_bus_call
returns-else-is_bus_call c = λ names marked.
    let bytes = c.args.message.now.bytes.now in
    let read = read-message bytes (message_seen c.args.message.now) c.args.message.now.read in
    let tested = sym c.is_bus_call.ensures ∙ c.if-is_bus_call.false in
    let first = where_well_known (message_seen c.args.message.now).parts.destination in
    let marks = subst (λ t. Marked c.args.policy.now.entries (names ++ where_well_known t) c.mark_destination.new.marks) c.destination.ensures.seen (c.in_ok-mark_destination.ensures names marked) in
    subst (λ t. Marked c.args.policy.now.entries (names ++ t) c.mark_destination.new.marks)
    (sym (append-nil first) ∙ ap (λ t. first ++ t) (ap (λ b. listed_if b (first_text (message_in bytes))) (sym tested)) ∙ client-names (message_in bytes) (message_seen c.args.message.now) read.1)
    marks
