use Rattle.std.proofs.Common.{arith}
use Rattle.memory_sockets.specs.Listeners.{reached}
use Rattle.memory_sockets.proofs.Changing.{mapped_more, mapped_all}
use Rattle.memory_sockets.proofs.listeners.arrive_at.Goals as goal

pub loop-listener-preserved : goal.loop-listener-preserved
loop-listener-preserved c =
    mapped_more (reached c.args.path.now) c.loop-listener.listeners c.args.listeners.now c.loop-listener.listener-index c.listener-item.result c.arrive.new.self (omega arith) c.listener-item.is c.arrive.ensures c.loop-listener.invariant

pub returns : goal.returns
returns c = mapped_all (reached c.args.path.now) c.loop-listener.listeners c.args.listeners.now c.loop-listener.listener-index (omega arith) c.loop-listener.invariant
