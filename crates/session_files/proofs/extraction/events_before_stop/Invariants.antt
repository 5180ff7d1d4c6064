use Rattle.std.proofs.Common.{◌≡◌, [], drop, map}
use Rattle.recording.specs.Seen.{seen}
use Rattle.session_files.proofs.OwnWhats.{events_with}
use Rattle.session_files.proofs.extraction.events_before_stop.Given as goal

abbrev pub invariant-loop-event : goal.invariant-loop-event
invariant-loop-event l = events_with (map seen l.events.items) l.session (drop l.event-index l.all) ≡ events_with [] l.session l.all
