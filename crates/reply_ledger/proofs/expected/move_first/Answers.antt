use Rattle.std.proofs.Common.{ap, sym, take, ◌∙◌}
use Rattle.std.specs.FinMap as map
use Rattle.byte_lists.proofs.NumberMaps.{one_given}
use Rattle.reply_ledger.specs.Expected.{with_queue}
use Rattle.reply_ledger.proofs.expected.move_first.Goals as goal

pub returns-in-Ok-clause-others : goal.returns-in-Ok-clause-others
returns-in-Ok-clause-others c moved =
    one_given c.args.others.now.entries c.insert.new.self.entries c.in-Some.first.position c.in-Some.first.kind (λ q. c.in-Ok.ensures.updates.0 q)
    ∙ ap (λ queue. with_queue (map.from_entries c.args.others.now.entries) (take 1 queue)) (sym c.in-Some.ensures.items)
