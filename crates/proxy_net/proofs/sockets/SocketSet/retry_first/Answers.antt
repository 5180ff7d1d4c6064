use Rattle.std.proofs.Common.{◌≤◌, refl, arith}
use Rattle.proxy_net.proofs.Going.{goes_through}
use Rattle.proxy_net.proofs.Retrying.{others_not_overdue, others_early}
use Rattle.proxy_net.proofs.Tries.{tries_go, all_tried}
use Rattle.proxy_net.proofs.sockets.SocketSet.retry_first.Goals as goal

pub returns-in-NotDue-clause-goes : goal.returns-in-NotDue-clause-goes
returns-in-NotDue-clause-goes g c =
    let same : c.attempt.new.self.waits ≤ c.attempt.new.self.waits = omega arith in
    goes_through c.attempt.ensures.goes (tries_go c.attempt.new.self _ refl refl refl refl same refl refl (all_tried c.attempt.new.self _ c.rotate_left.ensures.items))

pub returns-in-WouldBlock-clause-goes : goal.returns-in-WouldBlock-clause-goes
returns-in-WouldBlock-clause-goes g c =
    goes_through c.attempt.ensures.goes (tries_go c.attempt.new.self _ refl refl refl refl c.raised-self.ensures.grows refl refl (all_tried c.attempt.new.self _ c.rotate_left-in-WouldBlock.ensures.items))

pub returns-in-NotDue-clause-others : goal.returns-in-NotDue-clause-others
returns-in-NotDue-clause-others g c = others_not_overdue c.args.self.now c.attempt.new.self c.args.now _ c.attempt.ensures.others c.attempt.ensures.tried

pub returns-in-WouldBlock-clause-others : goal.returns-in-WouldBlock-clause-others
returns-in-WouldBlock-clause-others g c = others_not_overdue c.args.self.now c.attempt.new.self c.args.now _ c.attempt.ensures.others c.attempt.ensures.tried

pub returns-in-Done-clause-others : goal.returns-in-Done-clause-others
returns-in-Done-clause-others g c = others_not_overdue c.args.self.now c.attempt.new.self c.args.now _ c.attempt.ensures.others c.attempt.ensures.tried

pub returns-in-NotDue-clause-early : goal.returns-in-NotDue-clause-early
returns-in-NotDue-clause-early g c = others_early c.args.self.now c.attempt.new.self c.args.now _ c.attempt.ensures.others (λ time due is at less. (c.attempt.ensures.early time due is at less).1)

pub returns-in-WouldBlock-clause-early : goal.returns-in-WouldBlock-clause-early
returns-in-WouldBlock-clause-early g c = others_early c.args.self.now c.attempt.new.self c.args.now _ c.attempt.ensures.others (λ time due is at less. (c.attempt.ensures.early time due is at less).1)

pub returns-in-Done-clause-early : goal.returns-in-Done-clause-early
returns-in-Done-clause-early g c = others_early c.args.self.now c.attempt.new.self c.args.now _ c.attempt.ensures.others (λ time due is at less. (c.attempt.ensures.early time due is at less).1)
