use Rattle.proxy_net.proofs.Answering.{bound_kept, removals_silent, consistent_goes, counted_kept}
use Rattle.proxy_net.proofs.Telling.{steps_weaker}
use Rattle.proxy_net.proofs.net.MioNet.remove_sockets.Goals as goal

pub invariant_of-self : goal.invariant_of-self
invariant_of-self g c = record {
  consistent = consistent_goes c.args.self.now.sockets c.remove_files.new.self c.remove_files.ensures.goes c.args.self.now.consistent;
  room = c.args.self.now.room;
  counted = counted_kept c.args.self.now.counted (steps_weaker (removals_silent _) c.remove_files.ensures.told) c.remove_files.ensures.number c.remove_files.ensures.goes.sessions;
  bound = bound_kept c.args.self.now.sockets c.remove_files.new.self c.remove_files.ensures.told c.remove_files.ensures.number c.remove_files.ensures.goes.files c.args.self.now.bound;
}
