use Rattle.std.proofs.Common.{Option, subst}
use Rattle.std.specs.declared.time.Instant.{Instant}
use Rattle.proxy_net.specs.Sockets.{IsFirstDue}
use Rattle.proxy_net.proofs.Lefts.{idle_until}
use Rattle.proxy_net.proofs.sockets.SocketSet.timeout.Goals as goal

pub returns-clause-until : goal.returns-clause-until
returns-clause-until g c = λ none. idle_until g.S.Sockets.shows c.args.self.now c.next_due-due.result c.now.result c.delay.result c.now.ensures c.next_due-due.ensures c.delay.ensures.delay c.delay.ensures.none c.delay.ensures.none_stalled

pub returns-clause-waits : goal.returns-clause-waits
returns-clause-waits g c = λ none. subst (λ (due : Option Instant). IsFirstDue c.args.self.now c.args.self.now.pending.items due) (c.delay.ensures.none none) c.next_due-due.ensures
