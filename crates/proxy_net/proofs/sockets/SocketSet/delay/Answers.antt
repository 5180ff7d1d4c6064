use Rattle.std.proofs.Common.{inl, inr, ap, arith}
use Rattle.proxy_net.specs.Delays.{nanos_of}
use Rattle.proxy_net.proofs.Lefts.{delay_is, left_below, neither_due, none_stalled}
use Rattle.proxy_net.proofs.sockets.SocketSet.delay.Goals as goal

pub returns-clause-delay : goal.returns-clause-delay
returns-clause-delay g c =
    delay_is c.args.self.now c.args.due c.args.now _ _ (nanos_of c.shorter.result) c.connect_delay.ensures c.accept_delay.ensures c.shorter.ensures.one c.shorter.ensures.other
    (λ place time at. let below = left_below c.args.now c.args.self.now.listeners.items place time at in grind (arith, below))
    (elim c.shorter.ensures.either [ inl same ↦ inl (ap nanos_of same) | inr same ↦ inr (ap nanos_of same) ])

pub returns-clause-none : goal.returns-clause-none
returns-clause-none g c = λ none.
    neither_due c.args.self.now c.args.due c.args.now _ _ (nanos_of c.shorter.result) c.connect_delay.ensures c.accept_delay.ensures c.shorter.ensures.one c.shorter.ensures.other
    (λ place time at. let below = left_below c.args.now c.args.self.now.listeners.items place time at in grind (arith, below)) (ap nanos_of none)

pub returns-clause-none_stalled : goal.returns-clause-none_stalled
returns-clause-none_stalled g c = λ none.
    none_stalled c.args.self.now c.args.due c.args.now _ _ (nanos_of c.shorter.result) c.connect_delay.ensures c.accept_delay.ensures c.shorter.ensures.one c.shorter.ensures.other
    (λ place time at. let below = left_below c.args.now c.args.self.now.listeners.items place time at in grind (arith, below)) (ap nanos_of none)
