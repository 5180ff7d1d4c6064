use Rattle.std.proofs.Common.{arith, ap, sym, subst, ◌∙◌, map, [], drop, Result, Vec, Global, eq-eqb}
use Rattle.std.proofs.lemmas.Bool.{ne_eqb}
use Rattle.std.proofs.lemmas.Result.{err_from_is_err_and}
use Rattle.recording.specs.declared.BadRecording.{BadRecording}
use Rattle.recording.specs.declared.sessions.SessionEvent.{SessionEvent}
use Rattle.recording.specs.Gives.{GivesUnlessMemory}
use Rattle.recording.specs.Sessions.{Sessions, sessions_of}
use Rattle.recording.specs.SessionPasses.{session_records}
use Rattle.recording.specs.SessionsSeen.{session_event_seen, sessions_seen}
use Rattle.recording.proofs.Refusals.{passed_on}
use Rattle.recording.proofs.SessionsRead.{file_head_long, given-readable, sessions-readable, sessions-are}
use Rattle.recording.proofs.SessionWalk.{sessions-too_long, sessions-head_fault, sessions-of_one, sessions-of_many, then_sessions}
use Rattle.recording.proofs.session_reading.read_any.Goals as goal

pub returns-then-bytes-gt-RECORDING_LIMIT-clause-exact : goal.returns-then-bytes-gt-RECORDING_LIMIT-clause-exact
returns-then-bytes-gt-RECORDING_LIMIT-clause-exact c = rw c.fault.ensures (sessions-too_long c.args.bytes.now (omega arith))

pub returns-in_err-head-clause-exact : goal.returns-in_err-head-clause-exact
returns-in_err-head-clause-exact c =
    let p = err_from_is_err_and c.from_residual.result c.from_residual.ensures.1 in
    rw (p.1, p.2) (sessions-head_fault c.args.bytes.now _ (omega arith) c.in_err-head.ensures.fault)

pub returns-then-head-eq-VERSION-clause-exact : goal.returns-then-head-eq-VERSION-clause-exact
returns-then-head-eq-VERSION-clause-exact c =
    let h = c.in_ok-head.head in
    let same = sessions-of_one c.args.bytes.now h.version h.auth (omega arith) c.in_ok-head.ensures.ok (eq-eqb h.version 1 c.if-head-eq-VERSION.true) in
    subst (λ (read : Result Sessions BadRecording). GivesUnlessMemory sessions_seen c.read_one_session.result read) (sym same) c.read_one_session.ensures

pub returns-then-head-eq-VERSION-clause-readable : goal.returns-then-head-eq-VERSION-clause-readable
returns-then-head-eq-VERSION-clause-readable c =
    let h = c.in_ok-head.head in
    let same = sessions-of_one c.args.bytes.now h.version h.auth (omega arith) c.in_ok-head.ensures.ok (eq-eqb h.version 1 c.if-head-eq-VERSION.true) in
    given-readable c.read_one_session.result c.args.bytes.now (λ i. omega (arith, c.type_inv.bytes i))
    (subst (λ (read : Result Sessions BadRecording). GivesUnlessMemory sessions_seen c.read_one_session.result read) (sym same) c.read_one_session.ensures)

pub read_session_events-requires-clause-long : goal.read_session_events-requires-clause-long
read_session_events-requires-clause-long c = file_head_long c.args.bytes.now _ c.in_ok-head.ensures.ok

pub returns-in_err-events-clause-exact : goal.returns-in_err-events-clause-exact
returns-in_err-events-clause-exact c =
    let h = c.in_ok-head.head in
    let p = err_from_is_err_and c.from_residual-in_err-events.result c.from_residual-in_err-events.ensures.1 in
    let many = sessions-of_many c.args.bytes.now h.version h.auth (omega arith) c.in_ok-head.ensures.ok (ne_eqb h.version 1 c.if-head-eq-VERSION.false) in
    rw (p.1, p.2) (passed_on c.in_err-events.field-0.0 (λ (v : Vec SessionEvent Global). map session_event_seen v.items) sessions_seen (session_records [] 6 (drop 6 c.args.bytes.now)) (sessions_of c.args.bytes.now) c.in_err-events.ensures (λ fault e.
    many ∙ ap (then_sessions h.auth) e))

pub returns-clause-exact : goal.returns-clause-exact
returns-clause-exact c =
    let h = c.in_ok-head.head in
    sessions-of_many c.args.bytes.now h.version h.auth (omega arith) c.in_ok-head.ensures.ok (ne_eqb h.version 1 c.if-head-eq-VERSION.false)
    ∙ ap (then_sessions h.auth) c.in_ok-events.ensures

pub returns-clause-readable : goal.returns-clause-readable
returns-clause-readable c =
    let h = c.in_ok-head.head in
    sessions-readable c.args.bytes.now _ (λ i. omega (arith, c.type_inv.bytes i)) (sessions-of_many c.args.bytes.now h.version h.auth (omega arith) c.in_ok-head.ensures.ok (ne_eqb h.version 1 c.if-head-eq-VERSION.false)
    ∙ ap (then_sessions h.auth) c.in_ok-events.ensures)

pub returns-clause-spelled : goal.returns-clause-spelled
returns-clause-spelled c two =
    let h = c.in_ok-head.head in
    sessions-are c.args.bytes.now _ (λ i. omega (arith, c.type_inv.bytes i)) (sessions-of_many c.args.bytes.now h.version h.auth (omega arith) c.in_ok-head.ensures.ok (ne_eqb h.version 1 c.if-head-eq-VERSION.false)
    ∙ ap (then_sessions h.auth) c.in_ok-events.ensures) two
