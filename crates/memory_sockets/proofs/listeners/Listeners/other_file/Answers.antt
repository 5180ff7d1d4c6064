use Rattle.std.proofs.Common.{◌∙◌, sym, arith}
use Rattle.memory_sockets.proofs.Changing.{found_more, found_none}
use Rattle.memory_sockets.proofs.listeners.Listeners.other_file.Goals as goal

pub loop-place-preserved : goal.loop-place-preserved
loop-place-preserved c =
    found_more c.args.path.now c.args.self.now.files.items c.loop-place.place _ _ (omega arith) c.index-file.ensures (sym c.is_at.ensures ∙ c.if-is_at.false) c.loop-place.invariant

pub returns : goal.returns
returns c = found_none c.args.path.now c.args.self.now.files.items c.loop-place.place _ (omega arith) c.loop-place.invariant
