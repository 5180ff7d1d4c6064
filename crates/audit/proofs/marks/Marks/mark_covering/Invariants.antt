use Rattle.std.proofs.Common.{◌≡◌, length}
use Rattle.audit.proofs.Named.{MarkedTo}
use Rattle.audit.proofs.marks.Marks.mark_covering.Given as goal

abbrev pub invariant-loop-number : goal.invariant-loop-number
invariant-loop-number l =
    (goal.iterator-loop-number).can_next l.number-iterator
    × (goal.iterator-loop-number).is_finite l.number-iterator
    × (l.self.last ≡ l.fn.self.last)
    × (length l.self.marks.items ≡ length l.fn.self.marks.items)
    × (length l.fn.self.marks.items ≡ length l.policy.entries → MarkedTo l.policy.entries l.name l.fn.self.marks.items l.number-iterator l.self.marks.items)
