use Rattle.std.proofs.Common.{refl}
use Rattle.reply_ledger.proofs.Queue.{above_last}
use Rattle.reply_ledger.proofs.expected.is_behind.Goals as goal

pub returns-in-Some : goal.returns-in-Some
returns-in-Some c =
    above_last c.args.queue.now.items c.args.queue.now.len c.in-Some.last.now c.args.position c.args.queue.now.ok.0 (c.in-Some.ensures.variant.0 refl) c.in-Some.ensures.lookup
