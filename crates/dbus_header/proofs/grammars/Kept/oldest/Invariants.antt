use Rattle.std.proofs.Common.{◌<◌, length}
use Rattle.dbus_header.proofs.grammars.Kept.oldest.Given as goal

abbrev pub invariant-loop-place : goal.invariant-loop-place
invariant-loop-place l = l.oldest < length l.self.headers.items
