use Rattle.std.proofs.Common.{◌+◌, ◌∙◌, ap, arith}
use Rattle.link_traits.specs.Answers.{accept_entry}
use Rattle.proxy_net.proofs.Answering.{bound_kept, accept_silent, accept_makes, asked_then_told, told_one, consistent_grows, counted_one, accepts_counted}
use Rattle.proxy_net.proofs.Telling.{steps_weaker}
use Rattle.proxy_net.proofs.net.MioNetNet.accept.Goals as goal

pub returns-clause-asked : goal.returns-clause-asked
returns-clause-asked g c = asked_then_told (accept_entry c.args.listener c.accept-answer.result) (c.accept-answer.ensures.told (c.args.self.now.consistent.listener_tokens c.args.listener)) c.tell.ensures

pub returns-clause-told : goal.returns-clause-told
returns-clause-told g c =
    told_one c.args.self.now.sockets c.accept-answer.new.self c.args.self.now.starter c.args.self.now.starter (accept_entry c.args.listener c.accept-answer.result)
    (steps_weaker (accept_silent _ _ _ c.accept-answer.result) (c.accept-answer.ensures.told (c.args.self.now.consistent.listener_tokens c.args.listener))) c.tell.ensures c.accept-answer.ensures.grows.each

pub returns-clause-numbered : goal.returns-clause-numbered
returns-clause-numbered g c = λ session new before told.
    (c.accept-answer.ensures.numbered session new).0 ∙ ap (λ n. n + 1) (accepts_counted (g.S.Sockets.journal c.args.self.now.system) c.args.self.now.counted before told)

pub invariant_of-self : goal.invariant_of-self
invariant_of-self g c =
    let makes = accept_makes c.args.listener c.accept-answer.result c.args.self.now.sockets.sessions c.accept-answer.new.self.sessions c.accept-answer.ensures.numbered c.accept-answer.ensures.sessions in
    record {
      consistent = consistent_grows c.args.self.now.sockets c.accept-answer.new.self c.accept-answer.ensures.grows c.args.self.now.consistent;
      room = c.args.self.now.room;
      counted = counted_one (accept_entry c.args.listener c.accept-answer.result) c.args.self.now.counted
          (steps_weaker (accept_silent _ _ _ c.accept-answer.result) (c.accept-answer.ensures.told (c.args.self.now.consistent.listener_tokens c.args.listener))) c.tell.ensures
          (omega (arith, makes.0, c.accept-answer.ensures.number)) makes.1;
      bound = bound_kept c.args.self.now.sockets c.accept-answer.new.self (asked_then_told (accept_entry c.args.listener c.accept-answer.result) (c.accept-answer.ensures.told (c.args.self.now.consistent.listener_tokens c.args.listener)) c.tell.ensures) c.accept-answer.ensures.number c.accept-answer.ensures.grows.files c.args.self.now.bound;
    }
