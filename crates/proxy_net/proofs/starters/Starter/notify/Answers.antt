use Rattle.std.proofs.Common.{◌≡◌, Some, None, rules}
use Rattle.proxy_net.specs.declared.starters.Starter.TheVariants.{Waiting}
use Rattle.proxy_net.proofs.Telling.{steps_one}
use Rattle.proxy_net.proofs.Waiting.{noticed}
use Rattle.proxy_net.proofs.starters.Starter.notify.Goals as goal

pub returns-in-Ok-clause-told : goal.returns-in-Ok-clause-told
returns-in-Ok-clause-told g c = let same : c.args.self ≡ Waiting = search rules in steps_one _ c.in-Ok.ensures (noticed c.args.self None same)

pub returns-in-Err-clause-told : goal.returns-in-Err-clause-told
returns-in-Err-clause-told g c = let same : c.args.self ≡ Waiting = search rules in steps_one _ c.in-Err.ensures (noticed c.args.self (Some _) same)
