use Rattle.std.proofs.Common.{Err, ap, refl}
use Rattle.link_traits.specs.Views.{SinkRose}
use Rattle.proxy_main.specs.LineRuns.{Ran, Untaken}
use Rattle.proxy_main.proofs.LineEndings.{untaken}
use Rattle.proxy_main.proofs.serving.serve_line.Goals as goal

pub returns-in-Ok-clause-went : goal.returns-in-Ok-clause-went
returns-in-Ok-clause-went g c =
    Ran (g.N.Net.view c.prepare.new.net)
    (record {
      unasked = λ no. ap g.N.Net.view (c.prepare.ensures.unasked no);
      taken = λ asked. (c.prepare.new.net, c.in-Ok.ensures.taken asked, refl);
      told = c.prepare.ensures.told;
      wishes = c.prepare.ensures.wishes;
    })
    c.run_line.ensures.ran

pub returns-in-Err-clause-went : goal.returns-in-Err-clause-went
returns-in-Err-clause-went g c =
    Untaken (untaken c.args.line (SinkRose (g.E.Sink.view c.args.err.now) (g.E.Sink.view c.tell_unprepared.new.err)) (g.N.Net.view c.args.net.now) (g.N.Net.view c.prepare.new.net)
    (g.E.Sink.view c.args.err.now) (g.E.Sink.view c.tell_unprepared.new.err) c.tell_unprepared.result.code c.in-Err.fault c.in-Err.ensures.asked c.prepare.ensures.told c.prepare.ensures.wishes
    (λ e. c.in-Err.ensures.failed (ap Err e)) c.tell_unprepared.ensures.said)
