use Rattle.proxy_net.proofs.Listening.{awaited, not_awaited}
use Rattle.proxy_net.proofs.sockets.SocketSet.add_listener.Goals as goal

pub returns-in-Err-clause-told : goal.returns-in-Err-clause-told
returns-in-Err-clause-told g c = not_awaited _ c.requires.own c.in-Err.ensures.told

pub returns-in-Ok-clause-told : goal.returns-in-Ok-clause-told
returns-in-Ok-clause-told g c = awaited c.keep_listener.result c.keep_listener.ensures.fault c.requires.own c.in-Ok.ensures.told
