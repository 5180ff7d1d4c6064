use Rattle.std.proofs.Common.{◌≡◌, ◌≤◌, ◌-◌, Ok, drop, length, map, vec_capacity}
use Rattle.recording.specs.Passes.{counted, records}
use Rattle.recording.specs.Seen.{seen}
use Rattle.recording.proofs.Walk.{with_front}
use Rattle.recording.proofs.reading.events.Given as goal

-- the events so far and those from here on are all, none has a fault, and there is room for each
abbrev pub invariant-loop-at : goal.invariant-loop-at
invariant-loop-at l = record {
  same : with_front (map seen l.events.items) (records l.at (drop l.at l.file)) ≡ records 6 (drop 6 l.file);
  sound : counted (length l.events.items) (records l.at (drop l.at l.file)) ≡ Ok l.count;
  within : l.at ≤ length l.file;
  room : l.count ≤ vec_capacity l.events;
}

abbrev pub decreases-loop-at : goal.decreases-loop-at
decreases-loop-at l = length l.file - l.at
