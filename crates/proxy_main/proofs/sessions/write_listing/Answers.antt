use Rattle.std.proofs.Common.{[], ◌≡◌, ◌∙◌, subst, sym}
use Rattle.std.proofs.lemmas.Result.{IfErr-weaker, IfOk-weaker}
use Rattle.recording.specs.SessionsSeen.{sessions_seen}
use Rattle.proxy_main.specs.Answers.{Answer, Wrote, listed}
use Rattle.proxy_main.specs.Loads.{IsDone, Keeps}
use Rattle.proxy_main.proofs.OfSessions.{list_written, written_work}
use Rattle.proxy_main.proofs.sessions.write_listing.Goals as goal

pub returns-in-Ok-clause-done : goal.returns-in-Ok-clause-done
returns-in-Ok-clause-done g c =
    let is : listed (sessions_seen c.args.sessions.now) ≡ Wrote c.as_bytes.result.now [] = list_written (sessions_seen c.args.sessions.now) c.as_bytes.result.now (c.as_bytes.ensures.value ∙ c.in-Ok.ensures) in
    IfOk-weaker c.write_bytes.result _ _ (λ status h. subst (λ (a : Answer). IsDone a (g.O.Sink.view c.args.out.now).told (g.O.Sink.view c.write_bytes.new.out).told status.code) (sym is) h) c.write_bytes.ensures.done

pub returns-in-Ok-clause-stops : goal.returns-in-Ok-clause-stops
returns-in-Ok-clause-stops g c =
    let is : listed (sessions_seen c.args.sessions.now) ≡ Wrote c.as_bytes.result.now [] = list_written (sessions_seen c.args.sessions.now) c.as_bytes.result.now (c.as_bytes.ensures.value ∙ c.in-Ok.ensures) in
    IfErr-weaker c.write_bytes.result _ _ (λ stop h told command agrees. h told command (written_work told command (listed (sessions_seen c.args.sessions.now)) c.as_bytes.result.now agrees is)) c.write_bytes.ensures.stops

pub returns-in-Ok-clause-keeps : goal.returns-in-Ok-clause-keeps
returns-in-Ok-clause-keeps g c =
    let is : listed (sessions_seen c.args.sessions.now) ≡ Wrote c.as_bytes.result.now [] = list_written (sessions_seen c.args.sessions.now) c.as_bytes.result.now (c.as_bytes.ensures.value ∙ c.in-Ok.ensures) in
    IfErr-weaker c.write_bytes.result _ _ (λ stop h. subst (λ (a : Answer). Keeps a (g.O.Sink.view c.args.out.now).told (g.O.Sink.view c.write_bytes.new.out).told stop) (sym is) h) c.write_bytes.ensures.keeps
