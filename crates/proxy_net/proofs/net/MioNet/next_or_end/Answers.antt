use Rattle.std.proofs.Common.{refl}
use Rattle.proxy_net.proofs.Answering.{bound_kept, consistent_goes, counted_kept, silent_none}
use Rattle.proxy_net.proofs.Going.{goes_through}
use Rattle.proxy_net.proofs.Retrying.{early_same, early_through}
use Rattle.proxy_net.proofs.net.MioNet.next_or_end.Goals as goal

pub returns-then-eq-clause-goes : goal.returns-then-eq-clause-goes
returns-then-eq-clause-goes g c = goes_through c.next-ready.ensures.goes c.raise.ensures.goes

pub invariant_of-self : goal.invariant_of-self
invariant_of-self g c = record {
  consistent = consistent_goes c.next-ready.new.self.sockets c.raise.new.self c.raise.ensures.goes c.next-ready.new.self.consistent;
  room = c.next-ready.new.self.room;
  counted = counted_kept c.next-ready.new.self.counted (silent_none (g.S.Sockets.journal c.next-ready.new.self.system)) c.raise.ensures.goes.number c.raise.ensures.goes.sessions;
  bound = bound_kept c.next-ready.new.self.sockets c.raise.new.self (silent_none (g.S.Sockets.journal c.next-ready.new.self.system)) c.raise.ensures.goes.number c.raise.ensures.goes.files c.next-ready.new.self.bound;
}

pub returns-then-is_gone-clause-early : goal.returns-then-is_gone-clause-early
returns-then-is_gone-clause-early g c = early_same c.args.self.now.sockets c.args.self.now.sockets (λ number. refl)

pub returns-then-eq-clause-early : goal.returns-then-eq-clause-early
returns-then-eq-clause-early g c = early_through c.next-ready.ensures.early (early_same c.next-ready.new.self.sockets c.raise.new.self c.raise.ensures.dues)
