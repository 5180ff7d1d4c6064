use Rattle.std.proofs.Common.{arith}
use Rattle.memory_sockets.specs.Listeners.{removed}
use Rattle.memory_sockets.proofs.Changing.{mapped_more, mapped_all}
use Rattle.memory_sockets.proofs.listeners.remove_all.Goals as goal

pub loop-file-preserved : goal.loop-file-preserved
loop-file-preserved c =
    mapped_more (removed c.args.path.now) c.loop-file.files c.args.files.now c.loop-file.file-index c.file-item.result c.remove.new.self (omega arith) c.file-item.is c.remove.ensures c.loop-file.invariant

pub returns : goal.returns
returns c = mapped_all (removed c.args.path.now) c.loop-file.files c.args.files.now c.loop-file.file-index (omega arith) c.loop-file.invariant
