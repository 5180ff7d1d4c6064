use Rattle.std.proofs.Common.{[], take, map}
use Rattle.proxy_core.specs.Sessions.{StandsFor, nothing}
use Rattle.proxy_core.specs.Steps.{IsLight}
use Rattle.recording.specs.SessionsSeen.{session_event_seen, sessions_size}
use Rattle.replay.specs.SessionsOutput.{session_events}
use Rattle.replay.proofs.session_playing.play_each.Given as goal

abbrev pub invariant-loop-event : goal.invariant-loop-event
invariant-loop-event l = record {
  stands : StandsFor l.policy l.fn.session [] nothing → StandsFor l.policy l.session (session_events (map session_event_seen (take l.event-index l.events))) nothing;
  light : IsLight l.policy (sessions_size (map session_event_seen (take l.event-index l.events))) l.fn.session l.session;
}
