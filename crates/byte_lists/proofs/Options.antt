-- `Some` as a function, so that a proof's terms show its type.
use Rattle.std.proofs.Common.{Option, Some}

abbrev pub some : {A : Type 0} → A → Option A
some x = Some x
