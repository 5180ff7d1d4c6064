use Rattle.link_traits.specs.Answers.{read_entry}
use Rattle.link_traits.specs.Numbers.{number_of}
use Rattle.proxy_net.specs.Sockets.{is_open_at}
use Rattle.proxy_net.proofs.Answering.{bound_kept, read_silent, read_polled, read_makes, asked_then_told, told_one, consistent_goes, counted_same}
use Rattle.proxy_net.proofs.Telling.{steps_weaker}
use Rattle.proxy_net.proofs.net.MioNetNet.read.Goals as goal

pub returns-clause-asked : goal.returns-clause-asked
returns-clause-asked g c = asked_then_told (read_entry c.args.link c.read-got.new.into c.read-got.result) (c.read-got.ensures.told (c.args.self.now.consistent.link_tokens (number_of c.args.link))) c.tell.ensures

pub returns-clause-told : goal.returns-clause-told
returns-clause-told g c =
    told_one c.args.self.now.sockets c.read-got.new.self c.args.self.now.starter c.args.self.now.starter (read_entry c.args.link c.read-got.new.into c.read-got.result)
    (steps_weaker (read_silent (is_open_at c.args.self.now.sockets (number_of c.args.link)) (number_of c.args.link) c.read-got.new.into c.read-got.result) (c.read-got.ensures.told (c.args.self.now.consistent.link_tokens (number_of c.args.link)))) c.tell.ensures c.read-got.ensures.goes.counts

pub invariant_of-self : goal.invariant_of-self
invariant_of-self g c = record {
  consistent = consistent_goes c.args.self.now.sockets c.read-got.new.self c.read-got.ensures.goes c.args.self.now.consistent;
  room = c.args.self.now.room;
  counted = counted_same (read_entry c.args.link c.read-got.new.into c.read-got.result) c.args.self.now.counted
      (steps_weaker (read_silent (is_open_at c.args.self.now.sockets (number_of c.args.link)) (number_of c.args.link) c.read-got.new.into c.read-got.result) (c.read-got.ensures.told (c.args.self.now.consistent.link_tokens (number_of c.args.link)))) c.tell.ensures
      (read_makes c.args.link c.read-got.new.into c.read-got.result) c.read-got.ensures.goes.number c.read-got.ensures.goes.sessions;
  bound = bound_kept c.args.self.now.sockets c.read-got.new.self (asked_then_told (read_entry c.args.link c.read-got.new.into c.read-got.result) (c.read-got.ensures.told (c.args.self.now.consistent.link_tokens (number_of c.args.link))) c.tell.ensures) c.read-got.ensures.goes.number c.read-got.ensures.goes.files c.args.self.now.bound;
}

pub returns-clause-polled : goal.returns-clause-polled
returns-clause-polled g c = λ connected waits.
    asked_then_told (read_entry c.args.link c.read-got.new.into c.read-got.result)
    (steps_weaker (read_polled (is_open_at c.args.self.now.sockets (number_of c.args.link)) (number_of c.args.link) c.read-got.new.into c.read-got.result (λ closed. c.read-got.ensures.without closed connected) waits)
    (c.read-got.ensures.told (c.args.self.now.consistent.link_tokens (number_of c.args.link)))) c.tell.ensures
