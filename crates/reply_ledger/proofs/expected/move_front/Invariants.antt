use Rattle.std.proofs.Common.{◌≡◌, ◌+◌, drop, take}
use Rattle.std.specs.FinMap as map
use Rattle.reply_ledger.specs.Expected.{with_queue}
use Rattle.reply_ledger.proofs.expected.move_front.Given as goal

abbrev pub invariant-loop-moved : goal.invariant-loop-moved
invariant-loop-moved g l =
    (l.queue.items ≡ drop l.moved l.fn.queue.items) × (map.from_entries l.others.entries ≡ with_queue (map.from_entries l.fn.others.entries) (take l.moved l.fn.queue.items)) × (l.steps ≡ l.fn.steps + l.moved)
