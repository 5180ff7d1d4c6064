use Rattle.std.proofs.Common.{◌≡◌, ◌≤◌, ℕ, [], ◌++◌, List, take, drop}
use Rattle.link_traits.specs.Texts.{texts_of}
use Rattle.line_words.specs.FilesRead.{paths_in, NoneIsBad}
use Rattle.line_words.specs.Stops.{Expands}
use Rattle.line_words.proofs.reading.expand.Given as goal

abbrev pub invariant-loop-word : goal.invariant-loop-word
invariant-loop-word g l = record {
  words : Expands (g.F.Files.view l.fn.files).told [] (texts_of l.words) (texts_of l.all.items) (texts_of (drop l.word-index l.words));
  kept : (p : List ℕ) → (g.F.Files.view l.files).told p ≡ (g.F.Files.view l.fn.files).told p;
  count : (g.F.Files.view l.fn.files).faults ≤ (g.F.Files.view l.files).faults;
  read : (g.F.Files.view l.files).reads ≡ (g.F.Files.view l.fn.files).reads ++ paths_in (texts_of (take l.word-index l.words));
  sound : NoneIsBad (g.F.Files.view l.fn.files).told (texts_of (take l.word-index l.words));
}
