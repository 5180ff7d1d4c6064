use Rattle.std.proofs.Common.{refl, ap, drop, subst, ◌∙◌}
use Rattle.proxy_core.specs.Seen.{TookFirst}
use Rattle.proxy_core.specs.Sessions.{SessionView}
use Rattle.proxy_core.proofs.Draining.{runs_by}
use Rattle.proxy_core.proofs.Lent.{bad_first, whole_first}
use Rattle.proxy_core.proofs.Taking.{err_of}
use Rattle.proxy_core.proofs.session.Session.process_stated.Goals as goal

pub returns-in-Ok : goal.returns-in-Ok
returns-in-Ok c =
    subst (λ (v : SessionView). TookFirst c.args.policy.now c.args.side c.args.messages.now c.take.new.self v c.process_checked.new.self c.is_none.result) c.check_message.ensures.stays
    (whole_first c.args.policy.now c.args.side c.args.messages.now c.check_message.new.self c.process_checked.new.self c.is_none.result c.args.messages.now _ c.take.new.self c.args.len refl c.process_checked.ensures.valid (c.take.ensures ∙ ap (drop c.args.len) c.process_checked.ensures.stays) c.process_checked.ensures.took
    (runs_by c.self.inside.ended _ c.is_none.result c.is_none.ensures (ap (λ (v : SessionView). v.ended) c.self.view_is)))

pub returns-in-Err : goal.returns-in-Err
returns-in-Err c =
    subst (λ (v : SessionView). TookFirst c.args.policy.now c.args.side c.args.messages.now c.args.messages.now v c.end_malformed.new.self c.end_malformed.result) c.check_message.ensures.stays
    (bad_first c.args.policy.now c.args.side c.args.messages.now c.check_message.new.self c.end_malformed.new.self c.end_malformed.result c.args.messages.now c.in-Err.fault refl (err_of _ c.in-Err.fault _ c.in-Err.is c.check_message.ensures.bad) c.end_malformed.ensures.ended c.end_malformed.ensures.stops)
