use Rattle.std.proofs.Common.{sym, subst}
use Rattle.replay.specs.SessionsPlayed.{PlayedSoFar}
use Rattle.replay.proofs.OwnEvents.{so-far-seen}
use Rattle.replay.proofs.PlayersLaws.{played-none}
use Rattle.replay.proofs.session_playing.play_all.Goals as goal

pub loop-event-init : goal.loop-event-init
loop-event-init c = played-none c.args.policy.now c.args.mode _ c.new.ensures.empty c.new.ensures.ordered c.new-2.ensures.items

pub loop-event-preserved : goal.loop-event-preserved
loop-event-preserved c =
    subst (λ events. PlayedSoFar c.args.policy.now c.args.mode events c.play_next.new.players)
    (sym (so-far-seen c.args.events.now c.loop-event.event-index c.event-item.result c.loop-event-test.true c.event-item.is)) (c.in_ok-play_next.ensures _ c.loop-event.invariant)
