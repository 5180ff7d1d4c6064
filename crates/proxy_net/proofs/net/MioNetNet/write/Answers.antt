use Rattle.link_traits.specs.Answers.{write_entry}
use Rattle.link_traits.specs.Numbers.{number_of}
use Rattle.proxy_net.proofs.Answering.{bound_kept, write_silent, write_makes, asked_then_told, told_one, consistent_goes, counted_same}
use Rattle.proxy_net.proofs.Telling.{steps_weaker}
use Rattle.proxy_net.proofs.net.MioNetNet.write.Goals as goal

pub returns-clause-asked : goal.returns-clause-asked
returns-clause-asked g c = asked_then_told (write_entry c.args.link c.args.piece.now c.write-took.result) (c.write-took.ensures.told (c.args.self.now.consistent.link_tokens (number_of c.args.link))) c.tell.ensures

pub returns-clause-told : goal.returns-clause-told
returns-clause-told g c =
    told_one c.args.self.now.sockets c.write-took.new.self c.args.self.now.starter c.args.self.now.starter (write_entry c.args.link c.args.piece.now c.write-took.result)
    (steps_weaker (write_silent _ _ c.write-took.result) (c.write-took.ensures.told (c.args.self.now.consistent.link_tokens (number_of c.args.link)))) c.tell.ensures c.write-took.ensures.goes.counts

pub invariant_of-self : goal.invariant_of-self
invariant_of-self g c = record {
  consistent = consistent_goes c.args.self.now.sockets c.write-took.new.self c.write-took.ensures.goes c.args.self.now.consistent;
  room = c.args.self.now.room;
  counted = counted_same (write_entry c.args.link c.args.piece.now c.write-took.result) c.args.self.now.counted
      (steps_weaker (write_silent _ _ c.write-took.result) (c.write-took.ensures.told (c.args.self.now.consistent.link_tokens (number_of c.args.link)))) c.tell.ensures
      (write_makes c.args.link c.args.piece.now c.write-took.result) c.write-took.ensures.goes.number c.write-took.ensures.goes.sessions;
  bound = bound_kept c.args.self.now.sockets c.write-took.new.self (asked_then_told (write_entry c.args.link c.args.piece.now c.write-took.result) (c.write-took.ensures.told (c.args.self.now.consistent.link_tokens (number_of c.args.link))) c.tell.ensures) c.write-took.ensures.goes.number c.write-took.ensures.goes.files c.args.self.now.bound;
}

pub returns-clause-reached : goal.returns-clause-reached
returns-clause-reached g c = λ connected. asked_then_told (write_entry c.args.link c.args.piece.now c.write-took.result) (c.write-took.ensures.asked (c.args.self.now.consistent.link_tokens (number_of c.args.link)) connected) c.tell.ensures
