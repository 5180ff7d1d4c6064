use Rattle.std.proofs.Common.{◌≡◌, ◌≤◌, ◌-◌, [], drop, length}
use Rattle.recording.specs.Passes.{counted}
use Rattle.recording.specs.SessionPasses.{session_records}
use Rattle.recording.proofs.session_reading.session_record_count.Given as goal

-- the records so far and those from here on are all
abbrev pub invariant-loop-at : goal.invariant-loop-at
invariant-loop-at l = record {
  same : counted l.count (session_records l.sessions.keys l.at (drop l.at l.file)) ≡ counted 0 (session_records [] 6 (drop 6 l.file));
  within : l.at ≤ length l.file;
  few : l.count ≤ l.at;
}

abbrev pub decreases-loop-at : goal.decreases-loop-at
decreases-loop-at l = length l.file - l.at
