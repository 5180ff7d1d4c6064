use Rattle.std.proofs.Common.{[], ◌≡◌, Some, None, arith, subst, sym}
use Rattle.std.proofs.lemmas.Result.{IfErr-weaker, IfOk-weaker}
use Rattle.recording.specs.SessionsSeen.{sessions_seen}
use Rattle.session_files.specs.OneSession.{session_file_of}
use Rattle.proxy_main.specs.Answers.{Answer, Wrote, extracting}
use Rattle.proxy_main.specs.Loads.{IsDone, Keeps}
use Rattle.proxy_main.proofs.OfSessions.{missing_stops, session_found, written_work}
use Rattle.proxy_main.proofs.sessions.write_session.Goals as goal

pub returns-in-Ok-Some-clause-done : goal.returns-in-Ok-Some-clause-done
returns-in-Ok-Some-clause-done g c =
    let found : session_file_of (sessions_seen c.args.sessions.now) c.args.number ≡ Some c.as_slice.result.now = grind (arith, c.in-Ok-Some.ensures, c.in-Ok-Some.field-0-is, c.as_slice.ensures) in
    let is : extracting c.args.number (sessions_seen c.args.sessions.now) ≡ Wrote c.as_slice.result.now [] = session_found c.args.number (sessions_seen c.args.sessions.now) c.as_slice.result.now found in
    IfOk-weaker c.write_bytes.result _ _ (λ status h. subst (λ (a : Answer). IsDone a (g.O.Sink.view c.args.out.now).told (g.O.Sink.view c.write_bytes.new.out).told status.code) (sym is) h) c.write_bytes.ensures.done

pub returns-in-Ok-Some-clause-stops : goal.returns-in-Ok-Some-clause-stops
returns-in-Ok-Some-clause-stops g c =
    let found : session_file_of (sessions_seen c.args.sessions.now) c.args.number ≡ Some c.as_slice.result.now = grind (arith, c.in-Ok-Some.ensures, c.in-Ok-Some.field-0-is, c.as_slice.ensures) in
    let is : extracting c.args.number (sessions_seen c.args.sessions.now) ≡ Wrote c.as_slice.result.now [] = session_found c.args.number (sessions_seen c.args.sessions.now) c.as_slice.result.now found in
    IfErr-weaker c.write_bytes.result _ _ (λ stop h told command agrees asked. h told command (written_work told command (extracting c.args.number (sessions_seen c.args.sessions.now)) c.as_slice.result.now agrees is)) c.write_bytes.ensures.stops

pub returns-in-Ok-Some-clause-keeps : goal.returns-in-Ok-Some-clause-keeps
returns-in-Ok-Some-clause-keeps g c =
    let found : session_file_of (sessions_seen c.args.sessions.now) c.args.number ≡ Some c.as_slice.result.now = grind (arith, c.in-Ok-Some.ensures, c.in-Ok-Some.field-0-is, c.as_slice.ensures) in
    let is : extracting c.args.number (sessions_seen c.args.sessions.now) ≡ Wrote c.as_slice.result.now [] = session_found c.args.number (sessions_seen c.args.sessions.now) c.as_slice.result.now found in
    IfErr-weaker c.write_bytes.result _ _ (λ stop h. subst (λ (a : Answer). Keeps a (g.O.Sink.view c.args.out.now).told (g.O.Sink.view c.write_bytes.new.out).told stop) (sym is) h) c.write_bytes.ensures.keeps

pub returns-in-Ok-None-clause-stops : goal.returns-in-Ok-None-clause-stops
returns-in-Ok-None-clause-stops g c = λ told command agrees is.
    let none : session_file_of (sessions_seen c.args.sessions.now) c.args.number ≡ None = grind (arith, c.in-Ok-None.ensures, c.in-Ok-None.field-0-is) in
    missing_stops told command c.args.number (sessions_seen c.args.sessions.now) agrees none is
