-- What a try to connect again makes of a link's connection, by what it answers.
use Rattle.std.proofs.Common.{◌≡◌, true, false, List, Option, Some, None, inl, inr, sym, subst}
use Rattle.std.specs.declared.time.Instant.{Instant}
use Rattle.proxy_net.specs.Connecting.{is_pending}
use Rattle.proxy_net.specs.Steps.{Steps, IsRetryAs, IsAttempt, IsAttemptOf}
use Rattle.proxy_net.specs.SystemCalls.{SystemCall}
use Rattle.proxy_net.specs.declared.link_sockets.Connected.TheVariants.{To as ToStream, NotDue, WouldBlock as NoRoom, Before, Failed as Refused}
use Rattle.proxy_net.specs.declared.link_sockets.Connection.{Connection}
use Rattle.proxy_net.specs.declared.link_sockets.Connection.TheVariants.{Open, Pending, Failed}
use Rattle.proxy_net.specs.declared.link_sockets.LinkSocket.{LinkSocket}
use Rattle.proxy_net.specs.declared.system.Numbered.{Numbered}

module _ {T : Type 0} where
  opened : (connection : Connection T) (now : Option Instant) (stream : Numbered T) (calls : List SystemCall) → IsRetryAs connection now (ToStream stream) calls → IsAttempt connection now (Open stream) calls
  opened (Open other) now stream calls is = is
  opened (Pending retry) None stream calls is = absurd (let no : ToStream stream ≡ Refused = is.1 in cc)
  opened (Pending retry) (Some time) stream calls is = is
  opened Failed now stream calls is = is

  pub attempt_opens : (connection after : Connection T) (now : Option Instant) (stream : Numbered T) → after ≡ Open stream → (calls : List SystemCall) → IsRetryAs connection now (ToStream stream) calls → IsAttempt connection now after calls
  attempt_opens connection after now stream same calls is = subst (λ (c : Connection T). IsAttempt connection now c calls) (sym same) (opened connection now stream calls is)

  given_up : (connection : Connection T) (now : Option Instant) (calls : List SystemCall) → IsRetryAs {T = T} connection now Refused calls → IsAttempt {T = T} connection now Failed calls
  given_up (Open stream) now calls is = is
  given_up (Pending retry) None calls is = is.0
  given_up (Pending retry) (Some time) calls is = is
  given_up Failed now calls is = is

  pub attempt_fails : (connection after : Connection T) (now : Option Instant) → after ≡ Failed → (calls : List SystemCall) → IsRetryAs {T = T} connection now Refused calls → IsAttempt connection now after calls
  attempt_fails connection after now same calls is = subst (λ (c : Connection T). IsAttempt connection now c calls) (sym same) (given_up connection now calls is)

  pub attempt_waits : (connection after : Connection T) (now : Option Instant) (calls : List SystemCall) → is_pending after ≡ is_pending connection → IsRetryAs {T = T} connection now NotDue calls → IsAttempt connection now after calls
  attempt_waits (Open stream) after now calls same is = is
  attempt_waits (Pending retry) after None calls same is = absurd (let no = is.1 in cc)
  attempt_waits (Pending retry) (Open stream) (Some time) calls same is = absurd (let no : false ≡ true = same in cc)
  attempt_waits (Pending retry) (Pending later) (Some time) calls same is = inl is
  attempt_waits (Pending retry) Failed (Some time) calls same is = absurd (let no : false ≡ true = same in cc)
  attempt_waits Failed after now calls same is = is

  pub attempt_put_off : (connection after : Connection T) (now : Option Instant) (calls : List SystemCall) → is_pending after ≡ is_pending connection → IsRetryAs {T = T} connection now NoRoom calls → IsAttempt connection now after calls
  attempt_put_off (Open stream) after now calls same is = is
  attempt_put_off (Pending retry) after None calls same is = absurd (let no = is.1 in cc)
  attempt_put_off (Pending retry) (Open stream) (Some time) calls same is = absurd (let no : false ≡ true = same in cc)
  attempt_put_off (Pending retry) (Pending later) (Some time) calls same is = inr is
  attempt_put_off (Pending retry) Failed (Some time) calls same is = absurd (let no : false ≡ true = same in cc)
  attempt_put_off Failed after now calls same is = is

  pub attempt_before : (connection after : Connection T) (now : Option Instant) (calls : List SystemCall) → is_pending connection ≡ false → IsRetryAs {T = T} connection now Before calls → IsAttempt connection now after calls
  attempt_before (Open stream) after now calls closed is = is
  attempt_before (Pending retry) after now calls closed is = absurd (let no : true ≡ false = closed in cc)
  attempt_before Failed after now calls closed is = is

  -- a try of the link of a number
  pub attempt_of : (before after : Option (LinkSocket T)) (old new : LinkSocket T) (tried : Connection T) (now : Option Instant) → before ≡ Some old → after ≡ Some new → new.connection ≡ tried → {a b : Option (List SystemCall)}
      → Steps (IsAttempt old.connection now tried) a b → Steps (IsAttemptOf before now after) a b
  attempt_of before after old new tried now was is same {a} {b} s =
      subst (λ (o : Option (LinkSocket T)). Steps (IsAttemptOf o now after) a b) (sym was)
      (subst (λ (o : Option (LinkSocket T)). Steps (IsAttemptOf (Some old) now o) a b) (sym is) (subst (λ (c : Connection T). Steps (IsAttempt old.connection now c) a b) (sym same) s))
