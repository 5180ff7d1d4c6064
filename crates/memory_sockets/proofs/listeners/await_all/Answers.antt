use Rattle.std.proofs.Common.{arith}
use Rattle.memory_sockets.specs.Listeners.{awaited}
use Rattle.memory_sockets.proofs.Changing.{mapped_more, mapped_all}
use Rattle.memory_sockets.proofs.listeners.await_all.Goals as goal

pub loop-listener-preserved : goal.loop-listener-preserved
loop-listener-preserved c =
    mapped_more (awaited c.args.number) c.loop-listener.listeners c.args.listeners.now c.loop-listener.listener-index c.listener-item.result c.await_clients.new.self (omega arith) c.listener-item.is c.await_clients.ensures c.loop-listener.invariant

pub returns : goal.returns
returns c = mapped_all (awaited c.args.number) c.loop-listener.listeners c.args.listeners.now c.loop-listener.listener-index (omega arith) c.loop-listener.invariant
