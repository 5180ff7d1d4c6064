use Rattle.std.proofs.Common.{◌≡◌, map, take}
use Rattle.recording.specs.Seen.{seen}
use Rattle.recording.specs.Sessions.{one_session_event}
use Rattle.recording.specs.SessionsSeen.{session_event_seen}
use Rattle.recording.proofs.sessions.migrate.Given as goal

abbrev pub invariant-loop-event : goal.invariant-loop-event
invariant-loop-event l = map session_event_seen l.events.items ≡ map one_session_event (map seen (take l.event-index l.recording.events.items))
