use Rattle.std.proofs.Common.{◌≡◌, ◌∙◌, ◌++◌, List, Option, Some, ap, map, sym}
use Rattle.clap.specs.Words.{Row, Text}
use Rattle.tool_words.specs.Tools.{filled_at, more_recordings, read_of, taken_with}
use Rattle.tool_words.proofs.OneWordEach.{utf8_behind}
use Rattle.tool_words.proofs.filled.Goals as goal

abbrev read : List Text → List Row → Option (List Text)
read places rows = Some (filled_at (places ++ more_recordings) rows)

pub returns-in_ok-all_filled-in-Some-clause-found : goal.returns-in_ok-all_filled-in-Some-clause-found
unfolding taken_with
returns-in_ok-all_filled-in-Some-clause-found c =
    let places = map (λ p. p.now) c.args.places.now in
    ap Some c.in_ok-all_filled-in-Some.ensures ∙ sym (ap (read_of (read places)) c.in-Some.is) ∙ c.in_ok-matches.ensures (read places)

pub returns-in_ok-all_filled-in-Some-clause-plain : goal.returns-in_ok-all_filled-in-Some-clause-plain
unfolding taken_with
returns-in_ok-all_filled-in-Some-clause-plain c =
    let places = map (λ p. p.now) c.args.places.now in
    ap Some c.in_ok-all_filled-in-Some.ensures ∙ sym (ap (read_of (read places)) c.in-Some.is) ∙ c.in_ok-matches.ensures (read places)
    ∙ c.requires.takes _ (utf8_behind c.args.words.now)

pub returns-in-None-clause-found : goal.returns-in-None-clause-found
unfolding taken_with
returns-in-None-clause-found c =
    let places = map (λ p. p.now) c.args.places.now in
    sym (ap (read_of (read places)) c.in-None.is) ∙ c.in_ok-matches.ensures (read places)

pub returns-in-None-clause-plain : goal.returns-in-None-clause-plain
unfolding taken_with
returns-in-None-clause-plain c =
    let places = map (λ p. p.now) c.args.places.now in
    sym (ap (read_of (read places)) c.in-None.is) ∙ c.in_ok-matches.ensures (read places) ∙ c.requires.takes _ (utf8_behind c.args.words.now)
