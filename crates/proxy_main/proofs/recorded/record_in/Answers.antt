use Rattle.std.proofs.Common.{◌∙◌, ℕ, List, Err, ap, sym, subst}
use Rattle.proxy_main.specs.LineRuns.{FileRecorded, Recorded}
use Rattle.proxy_main.proofs.LineEndings.{not_made, record_said_all}
use Rattle.proxy_main.proofs.recorded.record_in.Goals as goal

pub returns-in-Ok-clause-ran : goal.returns-in-Ok-clause-ran
returns-in-Ok-clause-ran g c =
    Recorded c.in-Ok.recorded.end c.in-Ok.recorded.failed (g.E.Sink.view c.serve_recorded.new.err)
    (record { did = c.in-Ok.ensures.did; links = c.in-Ok.ensures.links; log = c.in-Ok.ensures.log; listen = c.in-Ok.ensures.listen; wait = c.in-Ok.ensures.wait })
    (subst (λ (p : List ℕ). FileRecorded c.args.line.blocks.items (g.N.Net.view c.args.net.now) (g.N.Net.view c.serve_recorded.new.net) ((g.F.Files.view c.serve_recorded.new.files).told p) c.in-Ok.recorded.failed) (sym c.requires.same)
    (record {
      exact = c.in-Ok.ensures.exact;
      fits = c.in-Ok.ensures.fits;
      read = c.in-Ok.ensures.read;
      histories = c.in-Ok.ensures.histories;
      links = c.in-Ok.ensures.recorded_links;
      replayed = c.in-Ok.ensures.replayed_links;
    }))
    c.in-Ok.ensures.recording.cause c.in-Ok.ensures.recording.short
    (record_said_all (g.E.Sink.view c.args.err.now) (g.E.Sink.view c.serve_recorded.new.err)
    (g.E.Sink.view c.tell_recorded.new.err) c.tell_recorded.result.code c.args.shown.now c.in-Ok.recorded.end c.in-Ok.recorded.failed c.in-Ok.ensures.count c.tell_recorded.ensures.said)

pub returns-in-Ok-clause-others : goal.returns-in-Ok-clause-others
returns-in-Ok-clause-others g c = λ p apart. c.serve_recorded.ensures.others p (λ same. apart (same ∙ sym c.requires.same))

pub returns-in-Err-clause-ran : goal.returns-in-Err-clause-ran
returns-in-Err-clause-ran g c =
    not_made _ _ _ _ _ _ _ _ _ _ (ap g.N.Net.view c.in-Err.ensures.unserved) (g.E.Sink.view c.serve_recorded.new.err) c.in-Err.fault
    (ap (λ e. g.E.Sink.view e) c.in-Err.ensures.unlogged)
    (λ e. c.in-Err.ensures.cause (ap Err e)) (λ e. c.in-Err.ensures.short (ap Err e)) c.tell_tape.ensures.said

pub returns-in-Err-clause-others : goal.returns-in-Err-clause-others
returns-in-Err-clause-others g c = λ p apart. c.serve_recorded.ensures.others p (λ same. apart (same ∙ sym c.requires.same))
