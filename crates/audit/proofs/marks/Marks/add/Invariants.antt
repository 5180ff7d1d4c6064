use Rattle.std.proofs.Common.{◌≡◌, length}
use Rattle.audit.proofs.Named.{JoinedTo}
use Rattle.audit.proofs.marks.Marks.add.Given as goal

abbrev pub invariant-loop-place : goal.invariant-loop-place
invariant-loop-place l = record {
  last : l.self.last ≡ l.fn.self.last;
  len : length l.self.marks.items ≡ length l.fn.self.marks.items;
  so_far : JoinedTo l.fn.self.marks.items l.other.marks.items l.place l.self.marks.items;
}
