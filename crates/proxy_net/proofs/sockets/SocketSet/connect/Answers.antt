use Rattle.std.proofs.Common.{arith}
use Rattle.proxy_net.proofs.Going.{grows_on, kept_rose}
use Rattle.link_traits.specs.declared.links.Count.TheVariants.{Link}
use Rattle.link_traits.specs.Answers.{bus_link}
use Rattle.proxy_net.proofs.sockets.SocketSet.connect.Goals as goal

pub returns-in-Err-Failed-clause-grows : goal.returns-in-Err-Failed-clause-grows
returns-in-Err-Failed-clause-grows g c = grows_on (omega (arith, c.make_bus_link.ensures.number)) c.make_bus_link.ensures.grows c.raise.ensures.goes

pub returns-in-Err-Failed-clause-failed : goal.returns-in-Err-Failed-clause-failed
returns-in-Err-Failed-clause-failed g c = λ _. kept_rose _ _ _ (c.make_bus_link.ensures.grows.each (Link (bus_link c.args.session))) c.raise.ensures.rose
