use Rattle.std.proofs.Common.{◌∷◌, ◌∙◌, ap, sym, subst}
use Rattle.policy_view.specs.Elements.{BringsBytes}
use Rattle.policy_view.specs.History.{Bytes}
use Rattle.proxy_core.specs.Sessions.{StandsFor}
use Rattle.proxy_core.specs.Steps.{IsLight}
use Rattle.recording.specs.Seen.{seen, size_of}
use Rattle.replay_output.specs.Output.{event_of, side_of}
use Rattle.replay.proofs.playing.play_event.Goals as goal

pub returns-in-Bytes-clause-bytes : goal.returns-in-Bytes-clause-bytes
returns-in-Bytes-clause-bytes c =
    subst BringsBytes (sym (ap (λ e. event_of (seen e)) c.in-Bytes.is ∙ ap (Bytes (side_of c.in-Bytes.side)) (sym c.as_slice.ensures))) c.feed.ensures.bytes

pub returns-in-Bytes-clause-stands : goal.returns-in-Bytes-clause-stands
returns-in-Bytes-clause-stands c = λ events taken stood.
    subst (λ e. StandsFor c.args.policy.now c.feed.new.session (e ∷ events) taken)
    (sym (ap (λ e. event_of (seen e)) c.in-Bytes.is ∙ ap (Bytes (side_of c.in-Bytes.side)) (sym c.as_slice.ensures)))
    (c.feed.ensures.stands events taken stood)

pub returns-in-Finished-clause-bytes : goal.returns-in-Finished-clause-bytes
returns-in-Finished-clause-bytes c = subst (λ e. BringsBytes (event_of (seen e))) (sym c.in-Finished.is) tt

pub returns-in-Finished-clause-stands : goal.returns-in-Finished-clause-stands
returns-in-Finished-clause-stands c = λ events taken stood.
    subst (λ e. StandsFor c.args.policy.now c.finish.new.session (e ∷ events) taken)
    (sym (ap (λ e. event_of (seen e)) c.in-Finished.is))
    (c.finish.ensures.stands c.args.policy.now events taken stood)

pub returns-in-Finished-clause-light : goal.returns-in-Finished-clause-light
returns-in-Finished-clause-light c =
    subst (λ e. IsLight c.args.policy.now (size_of (seen e)) c.args.session.now c.finish.new.session) (sym c.in-Finished.is)
    (c.finish.ensures.light c.args.policy.now)
