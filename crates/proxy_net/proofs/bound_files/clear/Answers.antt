use Rattle.std.proofs.Common.{◌≡◌, true, rules}
use Rattle.proxy_net.proofs.Listening.{looked, cleared_so}
use Rattle.proxy_net.proofs.Telling.{steps_weaker}
use Rattle.proxy_net.proofs.bound_files.clear.Goals as goal

pub returns : goal.returns
returns g c =
    let asked : c.args.replaces ≡ true = search rules in
    steps_weaker (cleared_so c.args.replaces c.args.path.now c.identify-found.result asked) (looked c.is_replaceable-is_replaceable.ensures c.identify-found.ensures c.remove_if.ensures)
