use Rattle.std.proofs.Common.{sym, subst}
use Rattle.replay.proofs.Sides.{lights}
use Rattle.proxy_core.specs.Sessions.{StandsFor, nothing}
use Rattle.replay.proofs.OwnEvents.{next-what, next-what-size}
use Rattle.replay.proofs.session_playing.play_each.Goals as goal

pub loop-event-preserved : goal.loop-event-preserved
loop-event-preserved c =
    let event = next-what c.args.events.now c.loop-event.event-index c.event-item.result c.loop-event-test.true c.event-item.is in
    let size = next-what-size c.args.events.now c.loop-event.event-index c.event-item.result c.loop-event-test.true c.event-item.is in
    record {
      stands = λ start. subst (λ events. StandsFor c.args.policy.now c.play_what.new.session events nothing) (sym event)
          (c.play_what.ensures.stands _ nothing (c.loop-event.invariant.stands start));
      light = lights c.args.policy.now _ _ _ _ _ _ size c.loop-event.invariant.light c.play_what.ensures.light;
    }
