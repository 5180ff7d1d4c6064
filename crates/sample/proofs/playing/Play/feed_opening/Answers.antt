use Rattle.std.proofs.Common.{[], ◌∷◌, OnOk, subst}
use Rattle.recording.specs.Recording.{Bytes}
use Rattle.recording.specs.declared.Side.TheVariants.{Client, Bus}
use Rattle.sample.specs.Playing.{Played}
use Rattle.sample.specs.declared.opening.TheConstants.{HELLO, GREETED, MATCHED}
use Rattle.sample.proofs.OpeningBytes.{opening_events}
use Rattle.sample.proofs.playing.Play.feed_opening.Goals as goal

pub returns : goal.returns
returns c = λ played.
    subst (λ events. OnOk c.feed_bus-3.result (Played c.args.policy.now events c.feed_bus-3.new.self)) opening_events
    (c.feed_bus-3.ensures (Bytes Client HELLO ∷ Bytes Bus GREETED ∷ Bytes Bus MATCHED ∷ [])
    (c.in_ok-feed_bus-2.ensures (Bytes Client HELLO ∷ Bytes Bus GREETED ∷ [])
    (c.in_ok-feed_bus.ensures (Bytes Client HELLO ∷ []) (c.in_ok-feed_client.ensures [] played))))
