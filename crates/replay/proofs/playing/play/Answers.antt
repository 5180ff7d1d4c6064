use Rattle.std.proofs.Common.{◌≡◌, ◌≤◌, ap, sym, ◌∙◌, false, subst, map}
use Rattle.policy_args.specs.Seen.{options_seen}
use Rattle.policy_view.specs.History.{history}
use Rattle.proxy_core.specs.Sessions.{SessionView, Holds, is_memory, nothing}
use Rattle.recording.specs.Seen.{recording_seen, seen, size}
use Rattle.replay_output.specs.Output.{events_of}
use Rattle.replay_output.specs.Explained.{noting_as}
use Rattle.replay.proofs.Logs.{log-is, asked-is, noted-is}
use Rattle.replay.proofs.Sides.{output-is, few}
use Rattle.replay.proofs.playing.play.Goals as goal

pub returns : goal.returns
returns c =
    let session = c.play_events.new.session in
    let options = noting_as c.args.noting (options_seen c.args.options.now) in
    let policy = options.policy in
    let running : is_memory session.ended ≡ false = ap is_memory (sym c.ended.ensures) ∙ sym c.is_memory.ensures ∙ c.if-is_memory.false in
    let mode = c.play_events.ensures.light.mode ∙ ap (λ (v : SessionView). v.mode) c.in_ok-session.ensures.start in
    let holds = subst (λ events. Holds policy session (history policy session.mode (events_of (map seen events))) nothing) c.deref.ensures.value
    ((c.play_events.ensures.stands c.in_ok-session.ensures.stands).holds running) in
    record {
      output = output-is options (recording_seen c.args.recording.now) session mode holds;
      log = log-is options (recording_seen c.args.recording.now) session mode holds;
      noted = noted-is options (recording_seen c.args.recording.now) session mode holds;
      asked = asked-is options (recording_seen c.args.recording.now) session mode holds;
      few = few policy _ _ _ c.in_ok-session.ensures.light c.play_events.ensures.light
          (subst (λ events. size (map seen events) ≤ 67108864) (sym c.deref.ensures.value) c.requires.size);
    }
