use Rattle.std.proofs.Common.{◌≡◌, ◌+◌, length, map, take}
use Rattle.std.specs.List.{flat_map}
use Rattle.recording.specs.Recording.{spelled_event}
use Rattle.recording.specs.Seen.{seen}
use Rattle.recording.proofs.writing.file_len.Given as goal

abbrev pub invariant-loop-event : goal.invariant-loop-event
invariant-loop-event l = l.len ≡ 6 + length (flat_map spelled_event (map seen (take l.event-index l.events)))
