use Rattle.proxy_net.proofs.Listening.{removed_at}
use Rattle.proxy_net.proofs.bound_files.BoundFile.remove.Goals as goal

pub returns : goal.returns
returns g c = removed_at c.args.self.now.identity c.as_str.ensures.value c.remove_made.ensures
