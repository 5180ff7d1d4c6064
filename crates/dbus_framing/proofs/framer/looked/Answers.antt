use Rattle.std.proofs.Common.{inl}
use Rattle.dbus_framing.specs.Knows.{Head}
use Rattle.dbus_framing.proofs.Fronts.{at_rest, too_short}
use Rattle.dbus_framing.proofs.framer.looked.Goals as goal

pub returns-in-AwaitsHead : goal.returns-in-AwaitsHead
returns-in-AwaitsHead c = at_rest c.args.left.now (inl (c.requires.short c.in-AwaitsHead.is))

pub returns-then-left-len : goal.returns-then-left-len
returns-then-left-len c =
    let head : Head c.args.left.now c.in-AwaitsMessage.len = rw c.in-AwaitsMessage.is at c.requires.known in
    at_rest c.args.left.now (too_short c.args.left.now c.in-AwaitsMessage.len head c.if-left-len.true)
