use Rattle.std.proofs.Common.{◌≡◌, ◌++◌, string_bytes}
use Rattle.recording.specs.SessionsSeen.{sessions_seen}
use Rattle.session_files.proofs.Texts.{AreCounts, lines_of}
use Rattle.session_files.proofs.lines.listing.Given as goal

abbrev pub invariant-loop-session : goal.invariant-loop-session
invariant-loop-session l =
    let events = (sessions_seen l.sessions).events in
    record {
      text : string_bytes l.text ++ lines_of events l.session-iterator ≡ lines_of events l.initial.session-iterator;
      counts : AreCounts events l.session-iterator;
    }
