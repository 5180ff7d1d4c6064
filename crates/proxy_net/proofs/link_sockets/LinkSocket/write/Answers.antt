use Rattle.std.proofs.Common.{◌&&◌}
use Rattle.proxy_net.specs.Connecting.{is_open}
use Rattle.proxy_net.proofs.Telling.{steps_weaker, steps_through}
use Rattle.proxy_net.proofs.Meaning.{asked_more}
use Rattle.proxy_net.proofs.Leading.{room_awaited, again_waits, fault_fails}
use Rattle.proxy_net.proofs.link_sockets.LinkSocket.write.Goals as goal

pub returns-in-Full-clause-told : goal.returns-in-Full-clause-told
returns-in-Full-clause-told g c = λ number own.
    steps_through (λ first second f s. room_awaited (c.args.self.now.writable && is_open c.args.self.now.connection) number c.args.piece.now c.await_room.result first second f s)
    (c.in-Full.ensures.told number own) (c.await_room.ensures.told number own)

pub returns-in-Again-clause-told : goal.returns-in-Again-clause-told
returns-in-Again-clause-told g c = λ number own. steps_weaker (again_waits number c.args.piece.now) (c.in-Again.ensures.told number own)

pub returns-in-Fault-clause-told : goal.returns-in-Fault-clause-told
returns-in-Fault-clause-told g c = λ number own. steps_weaker (fault_fails number c.args.piece.now) (c.in-Fault.ensures.told number own)

pub returns-in-Full-clause-asked : goal.returns-in-Full-clause-asked
returns-in-Full-clause-asked g c = λ number own connected. steps_through (λ first second f s. asked_more first second f) (c.in-Full.ensures.asked connected) (c.await_room.ensures.told number own)
