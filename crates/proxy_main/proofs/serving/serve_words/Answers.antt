use Rattle.std.proofs.Common.{◌≡◌, ◌∙◌, ◌++◌, ℕ, List, inl, inr, refl}
use Rattle.link_traits.specs.Views.{SinkRose}
use Rattle.link_traits.specs.Texts.{texts_of}
use Rattle.line_words.specs.Words.{line_in}
use Rattle.line_words.specs.Stops.{IsSettled}
use Rattle.line_words.specs.FilesRead.{paths_in, needed_by}
use Rattle.line_words.proofs.ReadLaws.{read_all}
use Rattle.proxy_main.specs.LineRuns.{MadeBy}
use Rattle.proxy_main.proofs.Needed.{line_needed_front, line_needed_exactly}
use Rattle.proxy_main.proofs.ReadFiles.{line_all, line_stop_reads}
use Rattle.proxy_main.proofs.LineEndings.{line_run, stop_ends, served_ends}
use Rattle.proxy_main.proofs.serving.serve_words.Goals as goal

-- what serving a line leaves of what was read
all_read : (reads mid new_reads more : List (List ℕ)) → mid ≡ reads ++ more → new_reads ≡ mid → new_reads ≡ reads ++ more
all_read reads mid new_reads more read same = same ∙ read

pub returns-in-Ok : goal.returns-in-Ok
returns-in-Ok g c =
    let texts = texts_of c.args.words.now in
    let made = MadeBy g.N.Net.view g.N.Net.takes c.args.net.now in
    let files = g.F.Files.view c.args.files.now in
    let between = g.F.Files.view c.read_words.new.files in
    let files' = g.F.Files.view c.serve_line.new.files in
    let net = g.N.Net.view c.args.net.now in
    let net' = g.N.Net.view c.serve_line.new.net in
    let err = g.E.Sink.view c.args.err.now in
    let err' = g.E.Sink.view c.serve_line.new.err in
    let named : files'.reads ≡ files.reads ++ paths_in texts = all_read files.reads between.reads files'.reads (paths_in texts) c.in-Ok.ensures.read c.serve_line.ensures.unread in
    let needed : files'.reads ≡ files.reads ++ needed_by files.told texts = all_read files.reads between.reads files'.reads (needed_by files.told texts) c.in-Ok.ensures.needed c.serve_line.ensures.unread in
    line_run made texts files files' net net' err err' c.serve_line.result.code
    (served_ends made texts files between files' c.in-Ok.line net net' err err' c.serve_line.result.code c.read_words.ensures.count c.in-Ok.ensures.line c.serve_line.ensures.went)
    (line_all (paths_in texts) files.reads files'.reads (SinkRose err err') err.told err'.told c.serve_line.result.code named) (inr named) (read_all (needed_by files.told texts) files.reads files'.reads needed) (λ settled. inl needed)
    (λ p apart. c.serve_line.ensures.others p (apart c.in-Ok.line c.in-Ok.ensures.line) ∙ c.read_words.ensures.kept p)

pub returns-in-Err : goal.returns-in-Err
returns-in-Err g c =
    let texts = texts_of c.args.words.now in
    let made = MadeBy g.N.Net.view g.N.Net.takes c.args.net.now in
    let files = g.F.Files.view c.args.files.now in
    let files' = g.F.Files.view c.read_words.new.files in
    let net = g.N.Net.view c.args.net.now in
    let err = g.E.Sink.view c.args.err.now in
    let err' = g.E.Sink.view c.tell.new.err in
    let settled = IsSettled (line_in files.told texts) in
    line_run made texts files files' net net err err' c.tell.result.code
    (stop_ends made texts files files' net err err' c.tell.result.code c.in-Err.stop c.told_as.result c.in-Err.ensures.stops c.in-Err.ensures.cause c.told_as.ensures c.tell.ensures.told)
    (line_stop_reads (paths_in texts) files.reads files'.reads (SinkRose err err') err.told err'.told c.tell.result.code c.in-Err.stop c.told_as.result c.in-Err.ensures.until c.told_as.ensures c.tell.ensures.told)
    (inl refl)
    (line_needed_front settled (needed_by files.told texts) files.reads files'.reads c.in-Err.stop c.in-Err.ensures.needed)
    (line_needed_exactly settled (needed_by files.told texts) files.reads files'.reads (SinkRose err err') err.told err'.told c.tell.result.code c.in-Err.stop c.told_as.result c.in-Err.ensures.needed c.told_as.ensures c.tell.ensures.told)
    (λ p apart. c.read_words.ensures.kept p)
