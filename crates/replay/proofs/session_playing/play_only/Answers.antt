use Rattle.std.proofs.Common.{◌≡◌, ◌≤◌, ap, sym, ◌∙◌, false, subst, map}
use Rattle.policy_args.specs.Seen.{options_seen}
use Rattle.policy_view.specs.History.{history}
use Rattle.proxy_core.specs.Sessions.{SessionView, Holds, is_memory, nothing}
use Rattle.recording.specs.SessionsSeen.{session_event_seen, sessions_seen, sessions_size}
use Rattle.replay.specs.SessionsOutput.{session_events}
use Rattle.replay.proofs.OnlySession.{only-asked-is, only-log-is, only-noted-is, only-output-is}
use Rattle.replay.proofs.Sides.{few}
use Rattle.replay.proofs.session_playing.play_only.Goals as goal

pub returns : goal.returns
returns c =
    let session = c.play_each.new.session in
    let options = options_seen c.args.options.now in
    let s = sessions_seen c.args.sessions.now in
    let running : is_memory session.ended ≡ false = ap is_memory (sym c.ended.ensures) ∙ sym c.is_memory.ensures ∙ c.if-is_memory.false in
    let mode = c.play_each.ensures.light.mode ∙ ap (λ (v : SessionView). v.mode) c.in_ok-session.ensures.start in
    let holds = subst (λ events. Holds options.policy session (history options.policy session.mode (session_events (map session_event_seen events))) nothing) c.deref.ensures.value
    ((c.play_each.ensures.stands c.in_ok-session.ensures.stands).holds running) in
    record {
      output = only-output-is options s c.requires.readable c.requires.version session mode holds;
      noted = only-noted-is options s c.requires.readable c.requires.version session mode holds;
      log = only-log-is options s c.requires.readable c.requires.version session mode holds;
      asked = only-asked-is options s c.requires.readable c.requires.version session mode holds;
      few = few options.policy _ _ _ c.in_ok-session.ensures.light c.play_each.ensures.light
          (subst (λ events. sessions_size (map session_event_seen events) ≤ 67108864) (sym c.deref.ensures.value) c.requires.readable.size);
    }
