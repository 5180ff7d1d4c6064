use Rattle.std.proofs.Common.{◌-◌, List, length}
use Rattle.policy_view.specs.declared.visible.Visible.{Visible as Element}
use Rattle.recording.specs.Seen.{recording_seen}
use Rattle.replay.specs.Watching.{Gave}
use Rattle.replay.proofs.watching.Watched.next_element.Given as goal

abbrev pub invariant-loop-element : goal.invariant-loop-element
invariant-loop-element l = (given : List Element) → Gave l.policy (recording_seen l.recording) l.fn.self given → Gave l.policy (recording_seen l.recording) l.self given

abbrev pub decreases-loop-element : goal.decreases-loop-element
decreases-loop-element l = length l.recording.events.items - l.self.played
