use Rattle.std.proofs.Common.{ap}
use Rattle.std.specs.Prelude.{option_to_list}
use Rattle.clap.specs.Words.{found_of, rows_of}
use Rattle.tool_words.proofs.Places.{pushed-more}
use Rattle.tool_words.proofs.push_filled.Goals as goal

pub loop-place-preserved : goal.loop-place-preserved
loop-place-preserved c =
    pushed-more _ _ _ _ c.args.places.now c.loop-place.place-index _ (rows_of (found_of c.args.matches.now)) c.loop-place-test.true c.loop-place.invariant (ap (λ word. option_to_list word) c.word_at.ensures)
    c.in_ok-push_some.ensures
