use Rattle.std.proofs.Common.{Bool, ap, codes, sym, ◌∙◌}
use Rattle.std.specs.Prelude.{◌||◌}
use Rattle.dbus_header.specs.Read.{message_seen}
use Rattle.proxy_core.specs.Messages.{is_bus_member_by}
use Rattle.proxy_core.proofs.Taking.{asks_is}
use Rattle.proxy_core.proofs.requests.asks_names.Goals as goal

pub returns-then-is_bus_member : goal.returns-then-is_bus_member
returns-then-is_bus_member c =
    c.if-is_bus_member.true
    ∙ sym (asks_is c.args.message.now ∙ ap (λ (b : Bool). b || is_bus_member_by (codes "ListActivatableNames") (message_seen c.args.message.now)) (sym c.is_bus_member.ensures ∙ c.if-is_bus_member.true))

pub returns-else-is_bus_member : goal.returns-else-is_bus_member
returns-else-is_bus_member c =
    c.is_bus_member-else-is_bus_member.ensures
    ∙ sym (asks_is c.args.message.now ∙ ap (λ (b : Bool). b || is_bus_member_by (codes "ListActivatableNames") (message_seen c.args.message.now)) (sym c.is_bus_member.ensures ∙ c.if-is_bus_member.false))
