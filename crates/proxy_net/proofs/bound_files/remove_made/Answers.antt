use Rattle.proxy_net.proofs.Listening.{looked}
use Rattle.proxy_net.proofs.Telling.{steps_weaker}
use Rattle.proxy_net.proofs.bound_files.remove_made.Goals as goal

pub returns : goal.returns
returns g c = steps_weaker (λ calls is. (c.identify-found.result, is)) (looked c.is_file-is_own.ensures c.identify-found.ensures c.remove_if.ensures)
