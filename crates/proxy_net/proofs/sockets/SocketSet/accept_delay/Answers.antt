use Rattle.std.proofs.Common.{◌≡◌, inl, inr, ap, subst, arith, vec_len}
use Rattle.proxy_net.specs.Delays.{nanos_of}
use Rattle.proxy_net.specs.Sockets.{IsFirstLeft}
use Rattle.proxy_net.proofs.Lefts.{one_more_left}
use Rattle.proxy_net.proofs.sockets.SocketSet.accept_delay.Goals as goal

pub loop-place-preserved : goal.loop-place-preserved
loop-place-preserved g c = one_more_left c.args.self.now c.args.now c.loop-place.place (nanos_of c.loop-place.first) (nanos_of c.accept_left.result) (nanos_of c.shorter-first.result)
    c.loop-place.invariant c.accept_left.ensures c.shorter-first.ensures.one c.shorter-first.ensures.other
    (elim c.shorter-first.ensures.either [
      | inl same ↦ inl (ap nanos_of same)
      | inr same ↦ inr (ap nanos_of same)
    ])

pub returns : goal.returns
returns g c =
    let all : c.loop-place.place ≡ vec_len c.args.self.now.listeners = omega (arith, c.loop-place-test.false, c.loop-place.auto.place-end, c.len-place-end.ensures) in
    subst (λ n. IsFirstLeft c.args.self.now c.args.now n (nanos_of c.loop-place.first)) all c.loop-place.invariant
