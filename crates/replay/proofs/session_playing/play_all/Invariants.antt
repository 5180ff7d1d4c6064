use Rattle.std.proofs.Common.{take, map}
use Rattle.recording.specs.SessionsSeen.{session_event_seen}
use Rattle.replay.specs.SessionsPlayed.{PlayedSoFar}
use Rattle.replay.proofs.session_playing.play_all.Given as goal

abbrev pub invariant-loop-event : goal.invariant-loop-event
invariant-loop-event l = PlayedSoFar l.policy l.mode (map session_event_seen (take l.event-index l.events)) l.players
