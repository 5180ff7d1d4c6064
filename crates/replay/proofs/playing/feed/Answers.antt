use Rattle.std.proofs.Common.{◌∷◌, sym, subst}
use Rattle.policy_view.specs.History.{Bytes}
use Rattle.proxy_core.specs.Sessions.{StandsFor}
use Rattle.replay_output.specs.Output.{side_of}
use Rattle.replay.proofs.playing.feed.Goals as goal

pub returns-in-Client-clause-stands : goal.returns-in-Client-clause-stands
returns-in-Client-clause-stands c = λ events taken stood.
    subst (λ side. StandsFor c.args.policy.now c.feed_client.new.self (Bytes (side_of side) c.args.piece.now ∷ events) taken)
    (sym c.in-Client.is) (c.feed_client.ensures.stands events taken stood)

pub returns-in-Bus-clause-stands : goal.returns-in-Bus-clause-stands
returns-in-Bus-clause-stands c = λ events taken stood.
    subst (λ side. StandsFor c.args.policy.now c.feed_bus.new.self (Bytes (side_of side) c.args.piece.now ∷ events) taken)
    (sym c.in-Bus.is) (c.feed_bus.ensures.stands events taken stood)
