use Rattle.std.proofs.Common.{◌+◌, arith, refl, sym, ap, ◌∙◌, ℕ, [], drop}
use Rattle.std.proofs.lemmas.Result.{err_from_is_err_and}
use Rattle.recording.specs.Passes.{counted}
use Rattle.recording.specs.SessionPasses.{session_records}
use Rattle.recording.specs.Sessions.{record_session, session_record_len}
use Rattle.recording.proofs.Refusals.{passed_on}
use Rattle.recording.proofs.SessionWalk.{session_counted-on, session_counted-bad_session, session_counted-bad_len, session_counted-end, within_session}
use Rattle.recording.proofs.Walk.{tail}
use Rattle.recording.proofs.session_reading.session_record_count.Goals as goal

pub returns-in_err-meet_session : goal.returns-in_err-meet_session
returns-in_err-meet_session c =
    let at = c.loop-at.at in
    let file = c.args.file.now in
    let keys = c.loop-at.sessions.keys in
    let p = err_from_is_err_and c.from_residual.result c.from_residual.ensures.1 in
    rw (p.1, p.2) (passed_on c.in_err-meet_session.field-0.0 (λ (n : ℕ). n) (λ (n : ℕ). n) _ (counted 0 (session_records [] 6 (drop 6 file))) c.in_err-meet_session.ensures.exact (λ fault e.
    sym c.loop-at.invariant.same ∙ session_counted-bad_session c.loop-at.count keys at file fault (omega arith) (ap (record_session keys at) (sym (tail at file file refl)) ∙ e)))

pub returns-in_err-len : goal.returns-in_err-len
returns-in_err-len c =
    let at = c.loop-at.at in
    let file = c.args.file.now in
    let keys = c.loop-at.sessions.keys in
    let session = ap (record_session keys at) (sym (tail at file file refl)) ∙ c.in_ok-meet_session.ensures.exact in
    let read = ap (session_record_len at) (sym (tail at file file refl)) ∙ sym c.in_err-len.ensures in
    let p = err_from_is_err_and c.from_residual-in_err-len.result c.from_residual-in_err-len.ensures.1 in
    rw (p.1, p.2) (sym c.loop-at.invariant.same ∙ session_counted-bad_len c.loop-at.count keys at _ file _ (omega arith) session read)

pub overflow_add-at : goal.overflow_add-at
overflow_add-at c =
    let at = c.loop-at.at in
    let file = c.args.file.now in
    let read = ap (session_record_len at) (sym (tail at file file refl)) ∙ sym c.in_ok-len.ensures in
    omega (arith, (within_session at c.in_ok-len.len file (omega arith) read).all, c.requires.short)

pub overflow_add-at-in-loop-at : goal.overflow_add-at-in-loop-at
overflow_add-at-in-loop-at c =
    let at = c.loop-at.at in
    let file = c.args.file.now in
    let read = ap (session_record_len at) (sym (tail at file file refl)) ∙ sym c.in_ok-len.ensures in
    omega (arith, (within_session at c.in_ok-len.len file (omega arith) read).all, c.requires.short)

pub loop-at-preserved : goal.loop-at-preserved
loop-at-preserved c =
    let at = c.loop-at.at in
    let file = c.args.file.now in
    let len = c.in_ok-len.len in
    let keys = c.loop-at.sessions.keys in
    let session = ap (record_session keys at) (sym (tail at file file refl)) ∙ c.in_ok-meet_session.ensures.exact in
    let read = ap (session_record_len at) (sym (tail at file file refl)) ∙ sym c.in_ok-len.ensures in
    record {
      same =
          session_counted-on c.loop-at.count keys _ at c.in_ok-meet_session.field-0 len (at + (9 + len)) file (omega arith) (record { named = session; read = read }) (omega arith) c.in_ok-meet_session.ensures.met
          ∙ c.loop-at.invariant.same;
      within = omega (arith, (within_session at len file (omega arith) read).all);
      few = omega arith;
    }

pub returns : goal.returns
returns c = sym c.loop-at.invariant.same ∙ session_counted-end c.loop-at.count _ c.loop-at.at c.args.file.now (omega arith)
