use Rattle.std.proofs.Common.{◌∙◌, ◌++◌, Bor, List, ap, map}
use Rattle.clap.specs.Words.{Text, found_of, rows_of}
use Rattle.tool_words.specs.Tools.{filled_at, more_recordings}
use Rattle.tool_words.proofs.Places.{filled-both}
use Rattle.tool_words.proofs.all_filled.Goals as goal

pub returns : goal.returns
returns c =
    let places = map (λ p. p.now) c.args.places.now in
    let rows = rows_of (found_of c.args.matches.now) in
    filled-both _ _ places more_recordings rows
    (c.in_ok-push_filled.ensures ∙ ap (λ (items : List (Bor Text)). map (λ word. word.now) items ++ filled_at places rows) c.new-found.ensures.items)
    c.in_ok-push_filled-2.ensures
