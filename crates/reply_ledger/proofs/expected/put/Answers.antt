use Rattle.byte_lists.proofs.NumberMaps.{one_given}
use Rattle.reply_ledger.proofs.expected.put.Goals as goal

pub returns-clause-ok : goal.returns-clause-ok
returns-clause-ok g c =
    one_given c.args.others.now.entries c.insert.new.self.entries c.args.position c.args.kind (λ q. c.in_ok-insert.ensures.updates.0 q)
