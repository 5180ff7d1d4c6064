use Rattle.std.proofs.Common.{ℕ, List, refl, subst}
use Rattle.link_traits.specs.Views.{FilesRose, SinkRose}
use Rattle.proxy_main.specs.LineRuns.{RecordRan, Unstarted}
use Rattle.proxy_main.proofs.recorded.record_line.Goals as goal

pub returns-in-Ok-clause-ran : goal.returns-in-Ok-clause-ran
returns-in-Ok-clause-ran g c =
    subst (λ (p : List ℕ). RecordRan c.args.line.blocks.items c.args.line.sessions p (g.F.Files.view c.record_in.new.files).told (FilesRose (g.F.Files.view c.args.files.now) (g.F.Files.view c.record_in.new.files))
    (SinkRose (g.E.Sink.view c.args.err.now) (g.E.Sink.view c.record_in.new.err)) (g.N.Net.view c.args.net.now) (g.N.Net.view c.record_in.new.net)
    (g.E.Sink.view c.args.err.now) (g.E.Sink.view c.record_in.new.err) c.record_in.result.code)
    c.as_str-shown.ensures.value c.record_in.ensures.ran

pub returns-in-Err-clause-ran : goal.returns-in-Err-clause-ran
returns-in-Err-clause-ran g c = Unstarted c.tell_memory.ensures.code refl c.tell_memory.ensures.said
