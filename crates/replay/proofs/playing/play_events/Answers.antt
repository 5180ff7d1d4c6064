use Rattle.std.proofs.Common.{sym, subst}
use Rattle.replay.proofs.Sides.{lights}
use Rattle.proxy_core.specs.Sessions.{StandsFor, nothing}
use Rattle.replay_output.proofs.Events.{next-event, next-size}
use Rattle.replay.proofs.playing.play_events.Goals as goal

pub loop-event-preserved : goal.loop-event-preserved
loop-event-preserved c =
    let event = next-event c.args.events.now c.loop-event.event-index c.event-item.result c.loop-event-test.true c.event-item.is in
    let size = next-size c.args.events.now c.loop-event.event-index c.event-item.result c.loop-event-test.true c.event-item.is in
    record {
      stands = λ start. subst (λ events. StandsFor c.args.policy.now c.play_event.new.session events nothing) (sym event)
          (c.play_event.ensures.stands _ nothing (c.loop-event.invariant.stands start));
      light = lights c.args.policy.now _ _ _ _ _ _ size c.loop-event.invariant.light c.play_event.ensures.light;
    }
