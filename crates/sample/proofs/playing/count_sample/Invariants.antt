use Rattle.std.proofs.Common.{◌≡◌, ◌++◌, List}
use Rattle.policy_args.specs.Seen.{options_seen}
use Rattle.recording.specs.Recording.{Event}
use Rattle.sample.specs.Made.{to_come}
use Rattle.sample.specs.Playing.{Played}
use Rattle.sample.specs.Sample.{sample as sample_of}
use Rattle.sample.specs.Summary.{sample_options}
use Rattle.sample.proofs.playing.count_sample.Given as goal

-- what was played and what is still to come are together the whole
abbrev pub invariant-loop-draws : goal.invariant-loop-draws
invariant-loop-draws l = record {
  so_far : List Event;
  played : Played sample_options.policy so_far l.play;
  split : so_far ++ to_come l.draws ≡ (sample_of l.fn.n l.fn.seed).events;
  options : options_seen l.options ≡ sample_options;
}

abbrev pub decreases-loop-draws : goal.decreases-loop-draws
decreases-loop-draws l = l.draws.left
