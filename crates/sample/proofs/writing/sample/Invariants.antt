use Rattle.std.proofs.Common.{◌≡◌, ◌≤◌, ◌++◌, ℕ, List, flat_map}
use Rattle.link_traits.specs.Told.{added}
use Rattle.recording.specs.Recording.{spelled_event, spelled_recording}
use Rattle.sample.specs.Made.{to_come}
use Rattle.sample.specs.Sample.{sample as sample_of}
use Rattle.sample.proofs.writing.sample.Given as goal

-- what was written, what was made and what is still to come are together the whole
abbrev pub invariant-loop-draws : goal.invariant-loop-draws
invariant-loop-draws g l = record {
  written : List ℕ;
  got : (g.S.Sink.view l.sink).told ≡ added written (g.S.Sink.view l.fn.sink).told;
  split : written ++ (l.out.items ++ flat_map spelled_event (to_come l.draws)) ≡ spelled_recording (sample_of l.fn.n l.fn.seed);
  count : (g.S.Sink.view l.fn.sink).faults ≤ (g.S.Sink.view l.sink).faults;
}

abbrev pub decreases-loop-draws : goal.decreases-loop-draws
decreases-loop-draws g l = l.draws.left
