use Rattle.link_traits.specs.declared.links.Count.TheVariants.{Waits}
use Rattle.proxy_net.proofs.Going.{kept_rose}
use Rattle.proxy_net.proofs.sockets.SocketSet.answer_closed.Goals as goal

pub returns-clause-not_ready : goal.returns-clause-not_ready
returns-clause-not_ready g c = λ _. kept_rose _ _ _ (c.judge_both.ensures.goes.counts Waits) c.raised-self.ensures.rose
