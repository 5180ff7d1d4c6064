use Rattle.std.proofs.Common.{◌≡◌, take, String, ℕ, [], ◌∷◌, ◌+◌, ◌++◌, List, drop, string_bytes, ap, ◌∙◌, subst, arith}
use Rattle.std.proofs.lemmas.List.{take_all}
use Rattle.link_traits.specs.Texts.{texts_of}
use Rattle.line_words.specs.Stops.{Expands, StopsFrom}
use Rattle.line_words.specs.FilesRead.{paths_in, IsNamedBy, NoneIsBad, EndsNeeded}
use Rattle.line_words.proofs.ReadLaws.{read_before, read_next, read_until}
use Rattle.line_words.proofs.NeededLaws.{needed_before, sound_then, stops_needed, all_needed}
use Rattle.line_words.proofs.WordLaws.{expands_then, stops_then, told_same, stops_same, next_word}
use Rattle.line_words.proofs.reading.expand.Goals as goal

-- if memory runs out before a word is processed
pub returns-in-Err-clause-until : goal.returns-in-Err-clause-until
returns-in-Err-clause-until g c = read_before c.args.words.now c.loop-word.word-index (g.F.Files.view c.args.files.now).reads (g.F.Files.view c.loop-word.files).reads c.loop-word.invariant.read

pub returns-in-Err-clause-needed : goal.returns-in-Err-clause-needed
returns-in-Err-clause-needed g c =
    needed_before (g.F.Files.view c.args.files.now).told c.args.words.now c.loop-word.word-index (g.F.Files.view c.args.files.now).reads (g.F.Files.view c.loop-word.files).reads
    c.loop-word.invariant.read c.loop-word.invariant.sound

pub returns-in-Err-add_word-clause-stops : goal.returns-in-Err-add_word-clause-stops
returns-in-Err-add_word-clause-stops g c =
    stops_then (g.F.Files.view c.args.files.now).told [] (texts_of c.loop-word.all.items) (texts_of c.args.words.now) (texts_of (drop c.loop-word.word-index c.args.words.now)) c.in-Err-add_word.stop
    c.loop-word.invariant.words
    (rw (next_word c.args.words.now c.loop-word.word-index c.word-item.result c.loop-word-test.true c.word-item.is)
    (stops_same (g.F.Files.view c.args.files.now).told (g.F.Files.view c.loop-word.files).told (texts_of c.loop-word.all.items)
    (string_bytes c.word-item.result ∷ texts_of (drop (c.loop-word.word-index + 1) c.args.words.now)) c.in-Err-add_word.stop c.loop-word.invariant.kept
    (subst (λ (w : List ℕ). StopsFrom (g.F.Files.view c.loop-word.files).told (texts_of c.loop-word.all.items) (w ∷ texts_of (drop (c.loop-word.word-index + 1) c.args.words.now)) c.in-Err-add_word.stop) c.deref-in-loop-word.ensures
    (c.in-Err-add_word.ensures.stops (texts_of (drop (c.loop-word.word-index + 1) c.args.words.now))))))

pub returns-in-Err-add_word-clause-until : goal.returns-in-Err-add_word-clause-until
returns-in-Err-add_word-clause-until g c =
    read_until c.args.words.now c.loop-word.word-index c.word-item.result (g.F.Files.view c.args.files.now).reads (g.F.Files.view c.loop-word.files).reads (g.F.Files.view c.add_word.new.files).reads c.in-Err-add_word.stop
    c.loop-word-test.true c.word-item.is c.loop-word.invariant.read
    (c.add_word.ensures.read ∙ ap (λ (w : List ℕ). (g.F.Files.view c.loop-word.files).reads ++ paths_in (w ∷ [])) c.deref-in-loop-word.ensures)
    (subst (λ (w : List ℕ). IsNamedBy w c.in-Err-add_word.stop) c.deref-in-loop-word.ensures c.in-Err-add_word.ensures.named)

pub returns-in-Err-add_word-clause-needed : goal.returns-in-Err-add_word-clause-needed
returns-in-Err-add_word-clause-needed g c =
    stops_needed (g.F.Files.view c.args.files.now).told (g.F.Files.view c.loop-word.files).told c.args.words.now c.loop-word.word-index c.word-item.result (texts_of c.loop-word.all.items)
    (g.F.Files.view c.args.files.now).reads (g.F.Files.view c.loop-word.files).reads (g.F.Files.view c.add_word.new.files).reads c.in-Err-add_word.stop
    c.loop-word-test.true c.word-item.is c.loop-word.invariant.kept c.loop-word.invariant.read
    (c.add_word.ensures.read ∙ ap (λ (w : List ℕ). (g.F.Files.view c.loop-word.files).reads ++ paths_in (w ∷ [])) c.deref-in-loop-word.ensures)
    c.loop-word.invariant.sound c.loop-word.invariant.words
    (subst (λ (w : List ℕ). EndsNeeded (g.F.Files.view c.loop-word.files).told (texts_of c.loop-word.all.items) w c.in-Err-add_word.stop) c.deref-in-loop-word.ensures c.in-Err-add_word.ensures.ends)

pub returns-clause-needed : goal.returns-clause-needed
returns-clause-needed g c =
    let whole : take c.loop-word.word-index c.args.words.now ≡ c.args.words.now = take_all c.loop-word.word-index c.args.words.now (omega (arith, c.loop-word-test.false)) in
    all_needed (g.F.Files.view c.args.files.now).told (texts_of c.args.words.now) (g.F.Files.view c.args.files.now).reads (g.F.Files.view c.loop-word.files).reads
    (subst (λ (ws : List (String _)). NoneIsBad (g.F.Files.view c.args.files.now).told (texts_of ws)) whole c.loop-word.invariant.sound)
    (c.loop-word.invariant.read ∙ ap (λ (ws : List (String _)). (g.F.Files.view c.args.files.now).reads ++ paths_in (texts_of ws)) whole)

pub loop-word-preserved : goal.loop-word-preserved
loop-word-preserved g c = record {
  words = expands_then (g.F.Files.view c.args.files.now).told [] (texts_of c.loop-word.all.items) (texts_of c.add_word.new.all.items) (texts_of c.args.words.now)
      (texts_of (drop c.loop-word.word-index c.args.words.now)) (texts_of (drop (c.loop-word.word-index + 1) c.args.words.now))
      c.loop-word.invariant.words
      (rw (next_word c.args.words.now c.loop-word.word-index c.word-item.result c.loop-word-test.true c.word-item.is)
      (told_same (g.F.Files.view c.args.files.now).told (g.F.Files.view c.loop-word.files).told (texts_of c.loop-word.all.items) (texts_of c.add_word.new.all.items)
      (string_bytes c.word-item.result ∷ texts_of (drop (c.loop-word.word-index + 1) c.args.words.now)) (texts_of (drop (c.loop-word.word-index + 1) c.args.words.now)) c.loop-word.invariant.kept
      (subst (λ (w : List ℕ). Expands (g.F.Files.view c.loop-word.files).told (texts_of c.loop-word.all.items) (w ∷ texts_of (drop (c.loop-word.word-index + 1) c.args.words.now))
      (texts_of c.add_word.new.all.items) (texts_of (drop (c.loop-word.word-index + 1) c.args.words.now))) c.deref-in-loop-word.ensures
      (c.in-Ok-add_word.ensures.words (texts_of (drop (c.loop-word.word-index + 1) c.args.words.now))))));
  kept = λ p. c.add_word.ensures.kept p ∙ c.loop-word.invariant.kept p;
  count = omega (arith, c.loop-word.invariant.count, c.add_word.ensures.count);
  read = read_next c.args.words.now c.loop-word.word-index c.word-item.result (g.F.Files.view c.args.files.now).reads (g.F.Files.view c.loop-word.files).reads (g.F.Files.view c.add_word.new.files).reads
      c.loop-word-test.true c.word-item.is c.loop-word.invariant.read
      (c.add_word.ensures.read ∙ ap (λ (w : List ℕ). (g.F.Files.view c.loop-word.files).reads ++ paths_in (w ∷ [])) c.deref-in-loop-word.ensures);
  sound = sound_then (g.F.Files.view c.args.files.now).told (g.F.Files.view c.loop-word.files).told c.args.words.now c.loop-word.word-index c.word-item.result c.loop-word-test.true c.word-item.is c.loop-word.invariant.kept
      c.loop-word.invariant.sound (subst (λ (w : List ℕ). NoneIsBad (g.F.Files.view c.loop-word.files).told (w ∷ [])) c.deref-in-loop-word.ensures c.in-Ok-add_word.ensures.sound);
}
