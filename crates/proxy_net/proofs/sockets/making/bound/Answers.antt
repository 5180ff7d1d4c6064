use Rattle.std.proofs.Common.{inr}
use Rattle.proxy_net.proofs.Listening.{bound_then}
use Rattle.proxy_net.proofs.Telling.{steps_weaker}
use Rattle.proxy_net.proofs.sockets.making.bound.Goals as goal

pub returns-in-Ok-clause-told : goal.returns-in-Ok-clause-told
returns-in-Ok-clause-told g c = bound_then c.clear.ensures c.in-Ok.ensures.told

pub returns-in-Err-clause-told : goal.returns-in-Err-clause-told
returns-in-Err-clause-told g c = steps_weaker (λ calls is. inr (_, is)) (bound_then c.clear.ensures c.in-Err.ensures.told)
