use Rattle.std.proofs.Common.{◌≡◌, ◌∷◌, ◌++◌, map, take}
use Rattle.std.specs.List.{flat_map}
use Rattle.recording.specs.Recording.{magic, auth_byte, spelled_event}
use Rattle.recording.specs.Seen.{seen}
use Rattle.recording.proofs.writing.write.Given as goal

abbrev pub invariant-loop-event : goal.invariant-loop-event
invariant-loop-event l = l.file.items ≡ magic ++ 1 ∷ auth_byte l.recording.auth ∷ flat_map spelled_event (map seen (take l.event-index l.recording.events.items))
