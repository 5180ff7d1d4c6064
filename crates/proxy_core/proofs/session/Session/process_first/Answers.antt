use Rattle.std.proofs.Common.{List, ℕ, subst}
use Rattle.proxy_core.specs.Seen.{TookFirst}
use Rattle.proxy_core.proofs.Lent.{bad_first}
use Rattle.proxy_core.proofs.session.Session.process_first.Goals as goal

pub returns-in-Whole : goal.returns-in-Whole
returns-in-Whole c =
    subst (λ (left : List ℕ). TookFirst c.args.policy.now c.args.side left c.process_stated.new.messages c.args.self.now c.process_stated.new.self c.process_stated.result) c.in-Whole.ensures.stays
    c.process_stated.ensures

pub returns-in-Bad : goal.returns-in-Bad
returns-in-Bad c =
    bad_first c.args.policy.now c.args.side c.args.messages.now c.args.self.now c.end_malformed.new.self c.end_malformed.result c.front.new.self c.in-Bad.fault c.in-Bad.ensures.stays c.in-Bad.ensures.looks c.end_malformed.ensures.ended c.end_malformed.ensures.stops
