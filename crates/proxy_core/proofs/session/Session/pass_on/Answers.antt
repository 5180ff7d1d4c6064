use Rattle.std.proofs.Common.{rules, sym, subst, ◌∙◌}
use Rattle.proxy_core.specs.Sessions.{SessionView}
use Rattle.proxy_core.specs.Steps.{TookMessage}
use Rattle.proxy_core.proofs.SendingSteps.{greets_as}
use Rattle.proxy_core.proofs.Taking.{tree}
use Rattle.proxy_core.proofs.session.Session.pass_on.Goals as goal

pub returns-then-is_hello : goal.returns-then-is_hello
returns-then-is_hello c =
    subst (λ (v : SessionView). TookMessage v c.args.self.now c.greet.new.self)
    (greets_as c.args.policy.now (tree c.args.incoming.now.message.now) c.args.self.now (sym c.is_hello.ensures ∙ c.if-is_hello.true) (search rules))
    c.greet.ensures
