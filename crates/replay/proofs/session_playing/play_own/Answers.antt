use Rattle.std.proofs.Common.{sym, ◌∙◌, ap}
use Rattle.proxy_core.specs.Sessions.{is_memory}
use Rattle.recording.specs.SessionsSeen.{session_event_seen}
use Rattle.replay.proofs.PlayingLaws.{plays-own, when-ok}
use Rattle.replay.proofs.session_playing.play_own.Goals as goal

pub returns : goal.returns
returns c = λ mode events plays.
    when-ok c.take_notes.result c.take_notes.ensures.taken c.take_notes.ensures.session c.take_notes.ensures.stands
    (λ taken session stands.
    plays-own c.args.policy.now mode events (session_event_seen c.args.event.now) c.args.session.now c.play_what.new.session c.take_notes.new.session
    c.args.notes.now.items c.take_notes.new.notes.items plays c.play_what.ensures.stands c.play_what.ensures.light
    (ap is_memory (sym c.ended.ensures) ∙ sym c.is_memory.ensures ∙ c.if-is_memory.false) taken session stands)
