use Rattle.std.proofs.Common.{ap}
use Rattle.policy_view.specs.History.{Stopped}
use Rattle.proxy_core.specs.Sessions.{SessionView}
use Rattle.proxy_core.proofs.Standing.{closes, stop_stands}
use Rattle.proxy_core.proofs.session.Session.stop.Goals as goal

pub returns-clause-stands : goal.returns-clause-stands
returns-clause-stands c = λ policy events taken stands.
    rw c.end_first.ensures.answer (stop_stands policy c.args.self.now events taken c.args.end c.end_first.result c.end_first.ensures.first c.end_first.ensures.last stands)

pub returns-clause-closes : goal.returns-clause-closes
returns-clause-closes c = λ policy.
    closes policy (Stopped c.args.end) c.args.self.now c.end_first.new.self (ap (λ (v : SessionView). v.mode) c.end_first.ensures.answer) (returns-clause-stands c policy)
