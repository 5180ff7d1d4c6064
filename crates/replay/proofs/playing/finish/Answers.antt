use Rattle.std.proofs.Common.{◌∷◌, sym, subst}
use Rattle.policy_view.specs.History.{Finished}
use Rattle.proxy_core.specs.Sessions.{StandsFor}
use Rattle.replay_output.specs.Output.{side_of}
use Rattle.replay.proofs.playing.finish.Goals as goal

pub returns-in-Client-clause-stands : goal.returns-in-Client-clause-stands
returns-in-Client-clause-stands c = λ policy events taken stood.
    subst (λ side. StandsFor policy c.client_ended.new.self (Finished (side_of side) ∷ events) taken)
    (sym c.in-Client.is) (c.client_ended.ensures.stands policy events taken stood)

pub returns-in-Bus-clause-stands : goal.returns-in-Bus-clause-stands
returns-in-Bus-clause-stands c = λ policy events taken stood.
    subst (λ side. StandsFor policy c.bus_ended.new.self (Finished (side_of side) ∷ events) taken)
    (sym c.in-Bus.is) (c.bus_ended.ensures.stands policy events taken stood)
