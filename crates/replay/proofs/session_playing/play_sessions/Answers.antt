use Rattle.std.proofs.Common.{IfOk, map, subst}
use Rattle.policy_args.specs.Seen.{options_seen}
use Rattle.recording.specs.SessionsSeen.{session_event_seen, sessions_seen}
use Rattle.replay.specs.SessionsOutput.{session_mode}
use Rattle.replay.specs.SessionsPlayed.{PlayedSoFar}
use Rattle.replay.proofs.SessionOutputs.{all-short, if-played, sessions-asked-is, sessions-log-is, sessions-noted-is, sessions-output-is}
use Rattle.replay.proofs.session_playing.play_sessions.Goals as goal

played : (c : goal.After-play_all) → IfOk c.play_all.result (λ p. PlayedSoFar c.args.options.now.policy (session_mode (options_seen c.args.options.now) c.args.sessions.now.auth) (sessions_seen c.args.sessions.now).events p)
played c = subst (λ events. IfOk c.play_all.result (λ p. PlayedSoFar c.args.options.now.policy (session_mode (options_seen c.args.options.now) c.args.sessions.now.auth) (map session_event_seen events) p)) c.deref.ensures.value c.play_all.ensures

pub returns : goal.returns
returns c =
    let options = options_seen c.args.options.now in
    let s = sessions_seen c.args.sessions.now in
    record {
      output = if-played c.play_all.result (played c) (λ p is. sessions-output-is options s p is c.requires.version);
      noted = if-played c.play_all.result (played c) (λ p is. sessions-noted-is options s p is c.requires.version);
      log = if-played c.play_all.result (played c) (λ p is. sessions-log-is options s p is c.requires.version);
      asked = if-played c.play_all.result (played c) (λ p is. sessions-asked-is options s p is);
      few = if-played c.play_all.result (played c) (λ p is. all-short options.policy (session_mode options s.auth) s.events p is c.requires.readable.size);
    }
