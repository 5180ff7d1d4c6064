use Rattle.std.proofs.Common.{sym, ◌∙◌}
use Rattle.proxy_core.proofs.Taking.{asks_nothing}
use Rattle.proxy_core.proofs.requests.expected.Goals as goal

pub returns-then-not-is_bus_call : goal.returns-then-not-is_bus_call
returns-then-not-is_bus_call c = sym (asks_nothing c.args.message.now (sym c.is_bus_call.ensures ∙ c.if-not-is_bus_call.true))
