use Rattle.std.proofs.Common.{take, map}
use Rattle.recording.specs.Sessions.{sessions_named}
use Rattle.recording.specs.SessionsSeen.{session_event_seen}
use Rattle.session_files.specs.Counting.{AllCounted, only_session}
use Rattle.session_files.proofs.counting.counts_of.Given as goal

abbrev pub invariant-loop-event : goal.invariant-loop-event
invariant-loop-event l =
    let so_far = map session_event_seen (take l.event-index l.sessions.events.items) in
    AllCounted so_far (sessions_named (only_session l.sessions.version) so_far) l.counts
