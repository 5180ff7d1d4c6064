use Rattle.std.proofs.Common.{rules, ◌≡◌, List, Err, String, Global, map, string_bytes, ap, sym, ◌∙◌}
use Rattle.link_traits.specs.Texts.{texts_of}
use Rattle.policy_args.specs.ProxyLine.{line_of}
use Rattle.policy_args.specs.Reading.{line_seen}
use Rattle.line_words.specs.Words.{Bad, Reads, read_all as come_to_line}
use Rattle.line_words.specs.FilesRead.{paths_in, needed_by}
use Rattle.line_words.proofs.ReadLaws.{read_all}
use Rattle.line_words.proofs.WordLaws.{come_to}
use Rattle.line_words.proofs.NeededLaws.{all_needed}
use Rattle.line_words.proofs.reading.read_words.Goals as goal

pub returns-in-Err-Bad-clause-until : goal.returns-in-Err-Bad-clause-until
returns-in-Err-Bad-clause-until g c = read_all (paths_in (texts_of c.args.words.now)) (g.F.Files.view c.args.files.now).reads (g.F.Files.view c.expand.new.files).reads c.in-Ok.ensures.read

pub returns-in-Ok-clause-until : goal.returns-in-Ok-clause-until
returns-in-Ok-clause-until g c = read_all (paths_in (texts_of c.args.words.now)) (g.F.Files.view c.args.files.now).reads (g.F.Files.view c.expand.new.files).reads c.in-Ok.ensures.read

pub returns-in-Err-Bad-clause-needed : goal.returns-in-Err-Bad-clause-needed
returns-in-Err-Bad-clause-needed g c =
    let all = all_needed (g.F.Files.view c.args.files.now).told (texts_of c.args.words.now) (g.F.Files.view c.args.files.now).reads (g.F.Files.view c.expand.new.files).reads c.in-Ok.ensures.sound c.in-Ok.ensures.read in
    (read_all (needed_by (g.F.Files.view c.args.files.now).told (texts_of c.args.words.now)) (g.F.Files.view c.args.files.now).reads (g.F.Files.view c.expand.new.files).reads all, λ settled. all)

pub returns-in-Ok-clause-needed : goal.returns-in-Ok-clause-needed
returns-in-Ok-clause-needed g c =
    read_all (needed_by (g.F.Files.view c.args.files.now).told (texts_of c.args.words.now)) (g.F.Files.view c.args.files.now).reads (g.F.Files.view c.expand.new.files).reads
    (all_needed (g.F.Files.view c.args.files.now).told (texts_of c.args.words.now) (g.F.Files.view c.args.files.now).reads (g.F.Files.view c.expand.new.files).reads c.in-Ok.ensures.sound c.in-Ok.ensures.read)

pub returns-in-Ok-read_line-clause-line : goal.returns-in-Ok-read_line-clause-line
returns-in-Ok-read_line-clause-line g c =
    come_to (g.F.Files.view c.args.files.now).told (texts_of c.args.words.now) (texts_of c.in-Ok.all.items) (Reads (line_seen c.in-Ok-read_line.line)) c.in-Ok.ensures.words
    (ap (λ (l : List (String Global)). come_to_line (line_of (texts_of l))) (sym c.deref.ensures.value) ∙ ap come_to_line c.in-Ok-read_line.ensures)

pub returns-in-Err-Bad-clause-stops : goal.returns-in-Err-Bad-clause-stops
returns-in-Err-Bad-clause-stops g c =
    let read : line_of (map (λ w. string_bytes w) c.deref.result.now) ≡ Err c.in-Err-Bad.bad = search rules in
    come_to (g.F.Files.view c.args.files.now).told (texts_of c.args.words.now) (texts_of c.in-Ok.all.items) (Bad c.in-Err-Bad.bad) c.in-Ok.ensures.words
    (ap (λ (l : List (String Global)). come_to_line (line_of (texts_of l))) (sym c.deref.ensures.value) ∙ ap come_to_line read)
