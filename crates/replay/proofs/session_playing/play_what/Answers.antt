use Rattle.std.proofs.Common.{◌∷◌, sym, subst}
use Rattle.proxy_core.specs.Sessions.{StandsFor}
use Rattle.proxy_core.specs.Steps.{IsLight}
use Rattle.recording.specs.SessionsSeen.{what_seen, what_size}
use Rattle.replay.specs.SessionsOutput.{event_by}
use Rattle.replay.proofs.session_playing.play_what.Goals as goal

pub returns-in-Event-clause-stands : goal.returns-in-Event-clause-stands
returns-in-Event-clause-stands c = λ events taken stood.
    subst (λ w. StandsFor c.args.policy.now c.play_event.new.session (event_by (what_seen w) ∷ events) taken) (sym c.in-Event.is) (c.play_event.ensures.stands events taken stood)

pub returns-in-Stopped-clause-stands : goal.returns-in-Stopped-clause-stands
returns-in-Stopped-clause-stands c = λ events taken stood.
    subst (λ w. StandsFor c.args.policy.now c.stop.new.session (event_by (what_seen w) ∷ events) taken) (sym c.in-Stopped.is) (c.stop.ensures.stands c.args.policy.now events taken stood)

pub returns-in-Stopped-clause-light : goal.returns-in-Stopped-clause-light
returns-in-Stopped-clause-light c =
    subst (λ w. IsLight c.args.policy.now (what_size (what_seen w)) c.args.session.now c.stop.new.session) (sym c.in-Stopped.is) (c.stop.ensures.light c.args.policy.now)
