use Rattle.std.proofs.Common.{refl}
use Rattle.link_traits.specs.Entries.{shut}
use Rattle.link_traits.specs.Numbers.{number_of}
use Rattle.proxy_net.specs.Sockets.{is_open_at}
use Rattle.proxy_net.proofs.Answering.{bound_kept, shut_silent, asked_then_told, told_one, consistent_grows, counted_same}
use Rattle.proxy_net.proofs.Telling.{steps_weaker}
use Rattle.proxy_net.proofs.net.MioNetNet.shut.Goals as goal

pub returns-clause-asked : goal.returns-clause-asked
returns-clause-asked g c = asked_then_told (shut c.args.link) (c.shut.ensures.told (c.args.self.now.consistent.link_tokens (number_of c.args.link))) c.tell.ensures

pub returns-clause-told : goal.returns-clause-told
returns-clause-told g c =
    told_one c.args.self.now.sockets c.shut.new.self c.args.self.now.starter c.args.self.now.starter (shut c.args.link)
    (steps_weaker (shut_silent (is_open_at c.args.self.now.sockets (number_of c.args.link)) (number_of c.args.link)) (c.shut.ensures.told (c.args.self.now.consistent.link_tokens (number_of c.args.link)))) c.tell.ensures c.shut.ensures.grows.each

pub invariant_of-self : goal.invariant_of-self
invariant_of-self g c = record {
  consistent = consistent_grows c.args.self.now.sockets c.shut.new.self c.shut.ensures.grows c.args.self.now.consistent;
  room = c.args.self.now.room;
  counted = counted_same (shut c.args.link) c.args.self.now.counted
      (steps_weaker (shut_silent (is_open_at c.args.self.now.sockets (number_of c.args.link)) (number_of c.args.link)) (c.shut.ensures.told (c.args.self.now.consistent.link_tokens (number_of c.args.link)))) c.tell.ensures
      (refl, refl) c.shut.ensures.number c.shut.ensures.sessions;
  bound = bound_kept c.args.self.now.sockets c.shut.new.self (asked_then_told (shut c.args.link) (c.shut.ensures.told (c.args.self.now.consistent.link_tokens (number_of c.args.link))) c.tell.ensures) c.shut.ensures.number c.shut.ensures.grows.files c.args.self.now.bound;
}
