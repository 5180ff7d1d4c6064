use Rattle.std.proofs.Common.{◌≡◌, ◌≤◌, ◌-◌, [], Ok, drop, length, map, vec_capacity}
use Rattle.recording.specs.Passes.{counted}
use Rattle.recording.specs.SessionPasses.{session_records}
use Rattle.recording.specs.SessionsSeen.{session_event_seen}
use Rattle.recording.proofs.SessionWalk.{named}
use Rattle.recording.proofs.Walk.{with_front}
use Rattle.recording.proofs.session_reading.session_events.Given as goal

-- the events so far and those from here on are all, none has a fault, and there is room for each
abbrev pub invariant-loop-at : goal.invariant-loop-at
invariant-loop-at l = record {
  same : with_front (map session_event_seen l.events.items) (session_records (named l.events.items) l.at (drop l.at l.file)) ≡ session_records [] 6 (drop 6 l.file);
  sound : counted (length l.events.items) (session_records (named l.events.items) l.at (drop l.at l.file)) ≡ Ok l.count;
  within : l.at ≤ length l.file;
  room : l.count ≤ vec_capacity l.events;
}

abbrev pub decreases-loop-at : goal.decreases-loop-at
decreases-loop-at l = length l.file - l.at
