use Rattle.std.proofs.Common.{ap, Some}
use Rattle.policy_view.specs.declared.End.{End}
use Rattle.proxy_core.specs.Sessions.{is_memory}
use Rattle.proxy_loop.proofs.link_work.finish.Goals as goal

pub returns-in-Client-clause-stands : goal.returns-in-Client-clause-stands
returns-in-Client-clause-stands c = rw c.in-Client.is c.client_ended.ensures.stands

pub returns-in-Bus-clause-stands : goal.returns-in-Bus-clause-stands
returns-in-Bus-clause-stands c = rw c.in-Bus.is c.bus_ended.ensures.stands

pub returns-in-Client-clause-own : goal.returns-in-Client-clause-own
returns-in-Client-clause-own c = λ e. ap (λ (x : End). is_memory (Some x)) (c.client_ended.ensures.first e)

pub returns-in-Bus-clause-own : goal.returns-in-Bus-clause-own
returns-in-Bus-clause-own c = λ e. ap (λ (x : End). is_memory (Some x)) (c.bus_ended.ensures.first e)
