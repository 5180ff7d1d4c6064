use Rattle.std.proofs.Common.{[], ℕ, List, subst}
use Rattle.std.proofs.lemmas.Result.{IfErr-weaker, IfOk-weaker}
use Rattle.proxy_main.specs.Answers.{Wrote}
use Rattle.proxy_main.specs.Loads.{IsDone, Keeps}
use Rattle.proxy_main.proofs.work.work_text.Goals as goal

pub returns-clause-done : goal.returns-clause-done
returns-clause-done g c =
    IfOk-weaker c.write_bytes.result _ _ (λ status h.
    subst (λ (b : List ℕ). IsDone (Wrote b []) (g.O.Sink.view c.args.out.now).told (g.O.Sink.view c.write_bytes.new.out).told status.code) c.as_bytes.ensures.value h) c.write_bytes.ensures.done

pub returns-clause-stops : goal.returns-clause-stops
returns-clause-stops g c = IfErr-weaker c.write_bytes.result _ _ (λ stop h told command work. h told command (λ settled. work)) c.write_bytes.ensures.stops

pub returns-clause-keeps : goal.returns-clause-keeps
returns-clause-keeps g c =
    IfErr-weaker c.write_bytes.result _ _ (λ stop h.
    subst (λ (b : List ℕ). Keeps (Wrote b []) (g.O.Sink.view c.args.out.now).told (g.O.Sink.view c.write_bytes.new.out).told stop) c.as_bytes.ensures.value h) c.write_bytes.ensures.keeps
