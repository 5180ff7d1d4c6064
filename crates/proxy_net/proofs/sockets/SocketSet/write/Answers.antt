use Rattle.std.proofs.Common.{refl}
use Rattle.link_traits.specs.declared.links.Count.TheVariants.{Link}
use Rattle.proxy_net.proofs.Going.{goes_through, rose_kept}
use Rattle.proxy_net.proofs.Leading.{closed_took}
use Rattle.proxy_net.proofs.Telling.{steps_weaker}
use Rattle.proxy_net.proofs.sockets.SocketSet.write.Goals as goal

pub returns-in-PeerClosed-clause-failed : goal.returns-in-PeerClosed-clause-failed
returns-in-PeerClosed-clause-failed g c = λ _. rose_kept _ _ _ (c.in-PeerClosed.ensures.closed refl) (c.answer_closed.ensures.goes.counts (Link c.args.link))

pub returns-in-PeerClosed-clause-goes : goal.returns-in-PeerClosed-clause-goes
returns-in-PeerClosed-clause-goes g c = goes_through c.write_link.ensures.goes c.answer_closed.ensures.goes

pub returns-in-PeerClosed-clause-told : goal.returns-in-PeerClosed-clause-told
returns-in-PeerClosed-clause-told g c = λ own.
    steps_weaker (closed_took _ c.args.piece.now c.answer_closed.result c.answer_closed.ensures.bytes) (c.in-PeerClosed.ensures.told own)
