use Rattle.std.proofs.Common.{refl}
use Rattle.proxy_net.proofs.Answering.{bound_kept, counted_kept}
use Rattle.proxy_net.proofs.Telling.{steps_weaker}
use Rattle.proxy_net.proofs.Waiting.{noticed_silent}
use Rattle.proxy_net.proofs.net.MioNet.notify_starter.Goals as goal

pub invariant_of-self : goal.invariant_of-self
invariant_of-self g c = record {
  consistent = c.args.self.now.consistent;
  room = c.args.self.now.room;
  counted = counted_kept c.args.self.now.counted (steps_weaker noticed_silent c.notify-self.ensures.told) refl refl;
  bound = bound_kept c.args.self.now.sockets c.args.self.now.sockets c.notify-self.ensures.told refl (λ place path below at. at) c.args.self.now.bound;
}
