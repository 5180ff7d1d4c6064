use Rattle.std.proofs.Common.{sym}
use Rattle.dbus_framing.proofs.Fronts.{head_known, head_bad}
use Rattle.dbus_framing.proofs.state.read_head.Goals as goal

pub returns-in-Ok-clause-known : goal.returns-in-Ok-clause-known
returns-in-Ok-clause-known c =
    let chunk = c.in-Some.ensures.cases in
    head_known c.args.left.now c.in-Some.first16.now chunk.enough chunk.same c.in-Ok.len (sym c.in-Ok.ensures.refusal) c.in-Ok.ensures.length

pub returns-in-Err-clause-known : goal.returns-in-Err-clause-known
returns-in-Err-clause-known c =
    let chunk = c.in-Some.ensures.cases in
    head_bad c.args.left.now c.in-Some.first16.now chunk.enough chunk.same c.in-Err.fault (sym c.in-Err.ensures.refusal)
