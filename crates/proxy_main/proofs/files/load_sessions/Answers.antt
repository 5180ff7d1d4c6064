use Rattle.std.proofs.Common.{◌≡◌, ◌∙◌, Ok, Err, ap, sym, subst, None, Some, Option, IfSome, List, ℕ, ◌<◌, length}
use Rattle.recording.specs.declared.TheConstants.{RECORDING_LIMIT}
use Rattle.recording.specs.SessionsSeen.{sessions_seen}
use Rattle.recording.specs.Sessions.{sessions_of}
use Rattle.proxy_main.specs.declared.Refusal.TheVariants.{Recording as BadFile}
use Rattle.proxy_main.specs.Answers.{checked_sessions}
use Rattle.proxy_main.proofs.Loading.{read_told}
use Rattle.proxy_main.proofs.Replaying.{sessions_long, sessions_read}
use Rattle.proxy_main.proofs.files.load_sessions.Goals as goal

pub returns-in-Ok-sessions_in-clause-loads : goal.returns-in-Ok-sessions_in-clause-loads
returns-in-Ok-sessions_in-clause-loads g c =
    let exact : sessions_of c.in-Ok.bytes.items ≡ Ok (sessions_seen c.in-Ok-sessions_in.sessions) = ap sessions_of (sym c.deref.ensures.value) ∙ c.in-Ok-sessions_in.ensures.exact in
    read_told RECORDING_LIMIT _ c.in-Ok.bytes.items checked_sessions (Ok (sessions_seen c.in-Ok-sessions_in.sessions)) c.in-Ok.ensures.given (sessions_read _ _ exact)

pub returns-in-Err-Bad-clause-loads : goal.returns-in-Err-Bad-clause-loads
returns-in-Err-Bad-clause-loads g c =
    let exact : sessions_of c.in-Ok.bytes.items ≡ Err c.in-Err-Bad.fault = ap sessions_of (sym c.deref.ensures.value) ∙ (rw c.in-Err-Bad.field-0-is at c.in-Err-Bad.ensures.exact) in
    (read_told RECORDING_LIMIT _ c.in-Ok.bytes.items checked_sessions (Err (BadFile c.in-Err-Bad.fault)) c.in-Ok.ensures.given (sessions_read _ _ exact), tt)

pub returns-in-Err-TooLong-clause-loads : goal.returns-in-Err-TooLong-clause-loads
returns-in-Err-TooLong-clause-loads g c = (sessions_long _ c.too_long.result c.too_long.ensures.many (c.in-Err-TooLong.ensures.too_long (ap Err c.in-Err-TooLong.field-0-is)), tt)
