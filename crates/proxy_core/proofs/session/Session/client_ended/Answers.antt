use Rattle.std.proofs.Common.{ap}
use Rattle.policy_view.specs.History.{Finished}
use Rattle.policy_view.specs.declared.Side.TheVariants.{Client}
use Rattle.proxy_core.specs.Sessions.{SessionView}
use Rattle.proxy_core.proofs.Standing.{closes, finish_stands}
use Rattle.proxy_core.proofs.session.Session.client_ended.Goals as goal

pub returns-clause-stands : goal.returns-clause-stands
returns-clause-stands c = λ policy events taken stands.
    rw c.end_first.ensures.answer (finish_stands policy c.args.self.now events taken Client c.end_first.result c.end_first.ensures.first c.end_first.ensures.last stands)

pub returns-clause-closes : goal.returns-clause-closes
returns-clause-closes c = λ policy.
    closes policy (Finished Client) c.args.self.now c.end_first.new.self (ap (λ (v : SessionView). v.mode) c.end_first.ensures.answer) (returns-clause-stands c policy)
