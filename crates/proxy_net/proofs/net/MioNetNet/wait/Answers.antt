use Rattle.std.proofs.Common.{refl, subst}
use Rattle.link_traits.specs.Entries.{ready}
use Rattle.proxy_net.specs.Sockets.{GoesOn, HasLink, IsTriedTo, IsNamedOrTried, KeepsEarly, StaysClosed}
use Rattle.proxy_net.specs.Steps.{Steps, AreWaits, is_failed}
use Rattle.proxy_net.specs.declared.sockets.SocketSet.{SocketSet}
use Rattle.proxy_net.proofs.Answering.{asked_then_told, bound_kept, told_one, counted_same, silent_through}
use Rattle.proxy_net.proofs.Telling.{steps_weaker, steps_through}
use Rattle.proxy_net.proofs.Waiting.{turns_silent, noticed_silent, notice_then}
use Rattle.proxy_net.proofs.net.MioNetNet.wait.Goals as goal

pub returns-clause-told : goal.returns-clause-told
returns-clause-told g c =
    let goes = subst (λ (s : SocketSet _ _). GoesOn s c.next_or_end-ready.new.self.sockets) c.notify_starter.ensures.sockets c.next_or_end-ready.ensures.goes in
    told_one c.args.self.now.sockets c.next_or_end-ready.new.self.sockets c.args.self.now.starter c.next_or_end-ready.new.self.starter (ready c.next_or_end-ready.result) (silent_through (steps_weaker noticed_silent c.notify_starter.ensures.told) (steps_weaker (turns_silent _ _) c.next_or_end-ready.ensures.asked)) c.tell.ensures goes.counts

pub invariant_of-self : goal.invariant_of-self
invariant_of-self g c =
    let goes = subst (λ (s : SocketSet _ _). GoesOn s c.next_or_end-ready.new.self.sockets) c.notify_starter.ensures.sockets c.next_or_end-ready.ensures.goes in
    let silent = silent_through (steps_weaker noticed_silent c.notify_starter.ensures.told) (steps_weaker (turns_silent _ _) c.next_or_end-ready.ensures.asked) in
    record {
      consistent = c.next_or_end-ready.new.self.consistent;
      room = c.next_or_end-ready.new.self.room;
      counted = counted_same (ready c.next_or_end-ready.result) c.args.self.now.counted silent c.tell.ensures (refl, refl) goes.number goes.sessions;
      bound = bound_kept c.args.self.now.sockets c.next_or_end-ready.new.self.sockets (asked_then_told (ready c.next_or_end-ready.result) silent c.tell.ensures) goes.number goes.files c.args.self.now.bound;
    }

pub returns-clause-asked : goal.returns-clause-asked
returns-clause-asked g c =
    let waited = subst (λ (s : SocketSet _ _). Steps (AreWaits (HasLink s) (IsTriedTo s) c.notify_starter.new.self.starter c.next_or_end-ready.new.self.starter (is_failed c.next_or_end-ready.result)) (g.S.Sockets.journal c.notify_starter.new.self.system) (g.S.Sockets.journal c.next_or_end-ready.new.self.system)) c.notify_starter.ensures.sockets c.next_or_end-ready.ensures.asked in
    asked_then_told (ready c.next_or_end-ready.result) (steps_through (λ first second p q. notice_then first second p q) c.notify_starter.ensures.told waited) c.tell.ensures

pub returns-clause-closed : goal.returns-clause-closed
returns-clause-closed g c = subst (λ (s : SocketSet _ _). StaysClosed s c.next_or_end-ready.new.self.sockets) c.notify_starter.ensures.sockets c.next_or_end-ready.ensures.closed

pub returns-clause-early : goal.returns-clause-early
returns-clause-early g c = subst (λ (s : SocketSet _ _). KeepsEarly g.S.Sockets.shows s c.next_or_end-ready.new.self.sockets) c.notify_starter.ensures.sockets c.next_or_end-ready.ensures.early

pub returns-clause-tried : goal.returns-clause-tried
returns-clause-tried g c = λ succeeds named. subst (λ (s : SocketSet _ _). IsNamedOrTried g.S.Sockets.shows s c.next_or_end-ready.new.self.sockets) c.notify_starter.ensures.sockets (c.next_or_end-ready.ensures.tried succeeds named)
