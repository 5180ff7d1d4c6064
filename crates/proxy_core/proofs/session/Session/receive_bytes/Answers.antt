use Rattle.std.proofs.Common.{ℕ, ap, sym, ◌∙◌, ◌+◌}
use Rattle.proxy_core.proofs.Draining.{bytes_refused, bytes_taken}
use Rattle.proxy_core.proofs.session.Session.receive_bytes.Goals as goal

pub returns-in-Err-clause-took : goal.returns-in-Err-clause-took
returns-in-Err-clause-took c = bytes_refused c.args.policy.now c.args.side c.args.bytes.now c.args.self.now c.push.new.self c.end_with.new.self c.requires.running c.in-Err.ensures.err c.end_with.ensures

pub returns-in-Ok-clause-took : goal.returns-in-Ok-clause-took
returns-in-Ok-clause-took c =
    bytes_taken c.args.policy.now c.args.side c.args.bytes.now c.args.self.now c.push.new.self c.drain.new.self (c.left_len-most.result + 2) (sym c.is_empty.ensures ∙ c.if-is_empty.false)
    c.in-Ok.ensures.ok
    (ap (λ (n : ℕ). n + 2) c.left_len-most.ensures.value)
    c.drain.ensures.took
