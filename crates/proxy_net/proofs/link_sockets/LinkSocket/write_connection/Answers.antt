use Rattle.std.proofs.Common.{refl, inl, subst, ◌≡◌, arith}
use Rattle.std.proofs.lemmas.Bool.Decides.{nat_tests}
use Rattle.proxy_net.specs.Steps.{Steps, IsConnectionWrite}
use Rattle.proxy_net.proofs.Telling.{steps_none, steps_weaker}
use Rattle.proxy_net.proofs.Meaning.{stream_writes, stream_asked}
use Rattle.proxy_net.proofs.link_sockets.LinkSocket.write_connection.Goals as goal

pub returns-in-Open-clause-told : goal.returns-in-Open-clause-told
returns-in-Open-clause-told g c = λ number own.
    let same : c.in-Open.stream.number ≡ number = grind (arith, nat_tests, own) in
    subst (λ n. Steps (IsConnectionWrite n c.args.piece.now c.write_stream.result) (g.S.Sockets.journal c.args.system.now) (g.S.Sockets.journal c.write_stream.new.system)) same
    (steps_weaker (stream_writes _ _ c.write_stream.result) c.write_stream.ensures.told)

pub returns-in-Pending-clause-told : goal.returns-in-Pending-clause-told
returns-in-Pending-clause-told g c = λ number own. steps_none _ (inl refl)

pub returns-in-Failed-clause-told : goal.returns-in-Failed-clause-told
returns-in-Failed-clause-told g c = λ number own. steps_none _ (inl refl)

pub returns-in-Open-clause-asked : goal.returns-in-Open-clause-asked
returns-in-Open-clause-asked g c = λ connected. steps_weaker (stream_asked _ _ c.write_stream.result) c.write_stream.ensures.told
