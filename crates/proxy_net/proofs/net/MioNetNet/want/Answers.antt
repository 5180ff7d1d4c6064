use Rattle.proxy_net.proofs.Answering.{bound_kept, silent_none, told_none, consistent_grows, counted_kept}
use Rattle.proxy_net.proofs.net.MioNetNet.want.Goals as goal

pub returns-clause-told : goal.returns-clause-told
returns-clause-told g c = told_none c.args.self.now.sockets c.want.new.self c.args.self.now.starter c.args.self.now.starter (g.S.Sockets.journal c.args.self.now.system) c.want.ensures.grows.each

pub invariant_of-self : goal.invariant_of-self
invariant_of-self g c = record {
  consistent = consistent_grows c.args.self.now.sockets c.want.new.self c.want.ensures.grows c.args.self.now.consistent;
  room = c.args.self.now.room;
  counted = counted_kept c.args.self.now.counted (silent_none (g.S.Sockets.journal c.args.self.now.system)) c.want.ensures.number c.want.ensures.sessions;
  bound = bound_kept c.args.self.now.sockets c.want.new.self (silent_none (g.S.Sockets.journal c.args.self.now.system)) c.want.ensures.number c.want.ensures.grows.files c.args.self.now.bound;
}
