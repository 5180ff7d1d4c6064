use Rattle.std.proofs.Common.{◌≡◌, ap, subst, sym}
use Rattle.policy_view.specs.declared.Decision.TheVariants.{Judged, Shown}
use Rattle.policy_view.specs.declared.Side.{Side}
use Rattle.proxy_core.specs.Messages.{decision_in, with_message}
use Rattle.proxy_core.specs.Steps.{TookMessage}
use Rattle.proxy_core.proofs.Taking.{tree}
use Rattle.proxy_core.proofs.session.Session.process_of_side.Goals as goal

pub returns-in-Client-clause-took : goal.returns-in-Client-clause-took
returns-in-Client-clause-took c =
    subst (λ (s : Side). TookMessage (with_message c.args.policy.now s (tree c.args.incoming.now.message.now) c.args.self.now) c.args.self.now c.process_client_message.new.self) (sym c.in-Client.is)
    c.process_client_message.ensures.took

pub returns-in-Bus-clause-took : goal.returns-in-Bus-clause-took
returns-in-Bus-clause-took c =
    subst (λ (s : Side). TookMessage (with_message c.args.policy.now s (tree c.args.incoming.now.message.now) c.args.self.now) c.args.self.now c.process_bus_message.new.self) (sym c.in-Bus.is)
    c.process_bus_message.ensures.took

pub returns-in-Client-clause-decision : goal.returns-in-Client-clause-decision
returns-in-Client-clause-decision c =
    subst (λ (s : Side). Judged c.process_client_message.result ≡ decision_in c.args.policy.now s (tree c.args.incoming.now.message.now) c.args.self.now) (sym c.in-Client.is)
    (ap Judged c.process_client_message.ensures.decision)

pub returns-in-Bus-clause-decision : goal.returns-in-Bus-clause-decision
returns-in-Bus-clause-decision c =
    subst (λ (s : Side). Shown c.process_bus_message.result ≡ decision_in c.args.policy.now s (tree c.args.incoming.now.message.now) c.args.self.now) (sym c.in-Bus.is)
    (ap Shown c.process_bus_message.ensures.decision)
