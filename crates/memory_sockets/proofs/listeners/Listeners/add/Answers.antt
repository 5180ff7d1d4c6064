use Rattle.std.proofs.Common.{refl}
use Rattle.memory_sockets.proofs.listeners.Listeners.add.Goals as goal

pub returns-clause-ok : goal.returns-clause-ok
returns-clause-ok c = record { made = _; are = c.in_ok-push.ensures.items; path_is = c.in_ok-path.ensures.ok; fresh = refl }
