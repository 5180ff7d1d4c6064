use Rattle.std.proofs.Common.{refl, subst}
use Rattle.link_traits.specs.Texts.{texts_of}
use Rattle.proxy_main.specs.LineRuns.{LineRun, MadeBy}
use Rattle.proxy_main.proofs.program.run.Goals as goal

pub returns-in-None-clause-line : goal.returns-in-None-clause-line
returns-in-None-clause-line g c = λ line.
    subst (λ x. LineRun (MadeBy g.N.Net.view g.N.Net.takes c.args.net.now) (texts_of c.args.words.now) (g.F.Files.view x) (g.F.Files.view c.serve_words.new.files) (g.N.Net.view c.args.net.now) (g.N.Net.view c.serve_words.new.net)
    (g.E.Sink.view c.args.err.now) (g.E.Sink.view c.serve_words.new.err) c.serve_words.result.code)
    (c.in-None.ensures.files refl)
    (subst (λ y. LineRun (MadeBy g.N.Net.view g.N.Net.takes c.args.net.now) (texts_of c.args.words.now) (g.F.Files.view c.tool.new.files) (g.F.Files.view c.serve_words.new.files) (g.N.Net.view c.args.net.now) (g.N.Net.view c.serve_words.new.net)
    (g.E.Sink.view y) (g.E.Sink.view c.serve_words.new.err) c.serve_words.result.code)
    (c.in-None.ensures.err refl) c.serve_words.ensures)
