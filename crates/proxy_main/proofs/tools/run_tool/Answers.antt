use Rattle.std.proofs.Common.{inl}
use Rattle.link_traits.specs.Views.{SinkRose}
use Rattle.link_traits.specs.Texts.{texts_of}
use Rattle.line_words.proofs.ReadLaws.{read_all}
use Rattle.proxy_main.specs.Words.{reading}
use Rattle.proxy_main.specs.Answers.{answer_of, IsSettled}
use Rattle.proxy_main.specs.Endings.{Done}
use Rattle.proxy_main.specs.FilesRead.{paths_of, policies_of, needed}
use Rattle.proxy_main.proofs.Endings.{ends_stop}
use Rattle.proxy_main.proofs.Needed.{needed_front, needed_exactly}
use Rattle.proxy_main.proofs.ReadFiles.{done_reads, stop_reads}
use Rattle.proxy_main.proofs.ToolEndings.{tool_run}
use Rattle.proxy_main.proofs.tools.run_tool.Goals as goal

pub returns-in-Ok : goal.returns-in-Ok
returns-in-Ok g c =
    let texts = texts_of c.args.words.now in
    let files = g.F.Files.view c.args.files.now in
    let files' = g.F.Files.view c.work.new.files in
    let err = g.E.Sink.view c.args.err.now in
    let err' = g.E.Sink.view c.work.new.err in
    tool_run texts files files' (g.O.Sink.view c.args.out.now) (g.O.Sink.view c.work.new.out) err err' c.in-Ok.status.code
    (Done c.in-Ok.ensures.end c.in-Ok.ensures.done c.in-Ok.ensures.logged)
    (done_reads (policies_of (reading texts)) (paths_of (reading texts)) files.reads files'.reads (SinkRose err err') err.told err'.told c.in-Ok.status.code c.in-Ok.ensures.read c.in-Ok.ensures.end)
    (read_all (needed files.told (reading texts)) files.reads files'.reads c.in-Ok.ensures.needed)
    (λ settled. inl c.in-Ok.ensures.needed)

pub returns-in-Err : goal.returns-in-Err
returns-in-Err g c =
    let texts = texts_of c.args.words.now in
    let files = g.F.Files.view c.args.files.now in
    let files' = g.F.Files.view c.work.new.files in
    let out = g.O.Sink.view c.args.out.now in
    let out' = g.O.Sink.view c.work.new.out in
    let err = g.E.Sink.view c.args.err.now in
    let between = g.E.Sink.view c.work.new.err in
    let err' = g.E.Sink.view c.tell.new.err in
    let settled = IsSettled (answer_of texts files.told) in
    tool_run texts files files' out out' err err' c.tell.result.code
    (ends_stop (reading texts) files files' out out' err between err' c.tell.result.code c.in-Err.stop c.work.ensures.count c.tell.ensures.count
    c.in-Err.ensures.stops c.in-Err.ensures.cause c.in-Err.ensures.keeps c.in-Err.ensures.log c.tell.ensures.told)
    (stop_reads files.told (reading texts) (policies_of (reading texts)) (paths_of (reading texts)) files.reads files'.reads err.told between.told err'.told err.faults between.faults err'.faults c.tell.result.code c.in-Err.stop c.work.ensures.count
    c.in-Err.ensures.until c.in-Err.ensures.log c.tell.ensures.told)
    (needed_front settled (needed files.told (reading texts)) files.reads files'.reads c.in-Err.stop c.in-Err.ensures.needed)
    (needed_exactly settled (needed files.told (reading texts)) files.reads files'.reads (SinkRose between err') between.told err'.told c.tell.result.code c.in-Err.stop c.in-Err.ensures.needed c.tell.ensures.told)
