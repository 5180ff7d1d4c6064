use Rattle.proxy_net.proofs.Going.{goes_through}
use Rattle.proxy_net.proofs.sockets.SocketSet.judge_both.Goals as goal

pub returns-clause-goes : goal.returns-clause-goes
returns-clause-goes g c = goes_through c.judge.ensures.goes c.judge-2.ensures.goes
