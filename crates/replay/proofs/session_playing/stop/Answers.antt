use Rattle.std.proofs.Common.{◌∷◌, subst}
use Rattle.policy_view.specs.History.{Stopped}
use Rattle.proxy_core.specs.Sessions.{StandsFor}
use Rattle.replay.proofs.session_playing.stop.Goals as goal

pub returns-clause-stands : goal.returns-clause-stands
returns-clause-stands c = λ policy events taken stood.
    subst (λ end. StandsFor policy c.stop.new.self (Stopped end ∷ events) taken) c.end_of_stop.ensures.end (c.stop.ensures.stands policy events taken stood)
