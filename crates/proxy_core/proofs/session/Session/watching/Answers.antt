use Rattle.std.proofs.Common.{rules, [], subst, sym}
use Rattle.proxy_core.specs.Sessions.{SessionView, StandsFor, nothing}
use Rattle.proxy_core.proofs.Standing.{watching_stands}
use Rattle.proxy_core.proofs.session.Session.watching.Goals as goal

pub returns-clause-start : goal.returns-clause-start
returns-clause-start c = search rules

pub returns-clause-stands : goal.returns-clause-stands
returns-clause-stands c = subst (λ (v : SessionView). StandsFor c.args.policy.now v [] nothing) (sym (returns-clause-start c)) (watching_stands c.args.policy.now c.args.auth)
