use Rattle.proxy_net.proofs.Going.{goes_grows, goes_through}
use Rattle.proxy_net.proofs.sockets.SocketSet.make_session.Goals as goal

pub returns-in-Err-clause-grows : goal.returns-in-Err-clause-grows
returns-in-Err-clause-grows g c = goes_grows (goes_through c.in-Err.ensures.err c.stall.ensures.goes)
