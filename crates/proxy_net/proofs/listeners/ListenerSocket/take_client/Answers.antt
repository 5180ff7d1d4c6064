use Rattle.std.proofs.Common.{◌≡◌, ◌⊎◌, refl, subst}
use Rattle.std.specs.declared.io.ErrorKind.{ErrorKind}
use Rattle.std.specs.declared.io.ErrorKind.TheVariants.{WouldBlock, Interrupted}
use Rattle.proxy_net.proofs.Telling.{steps_one}
use Rattle.proxy_net.proofs.Listening.{refused_arrival}
use Rattle.proxy_net.proofs.listeners.ListenerSocket.take_client.Goals as goal

pub returns-in-Ok-clause-told : goal.returns-in-Ok-clause-told
returns-in-Ok-clause-told g c = steps_one _ c.in-Ok.ensures.told refl

pub returns-in-Err-clause-told : goal.returns-in-Err-clause-told
returns-in-Err-clause-told g c = steps_one _ c.in-Err.ensures.told (refused_arrival _ _ _ c.refuse.result c.refuse.ensures.none
    (λ nobody. subst (λ (k : ErrorKind). (k ≡ WouldBlock) ⊎ (k ≡ Interrupted)) c.kind.ensures (c.refuse.ensures.waits nobody)) _ refl)
