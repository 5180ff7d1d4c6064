use Rattle.std.proofs.Common.{ap, ap₂, ◌+◌, ◌∙◌}
use Rattle.std.specs.FinMap as map
use Rattle.byte_lists.proofs.NumberMaps.{one_given}
use Rattle.reply_ledger.proofs.counts.Counts.add.Goals as goal

pub returns-clause-ok : goal.returns-clause-ok
returns-clause-ok c =
    one_given c.self.inside.counts.entries c.insert.new.self.entries c.args.serial c.in_ok-count.count (λ q. c.in_ok-insert.ensures.updates.0 q)
    ∙ ap₂ (λ m n. map.insert m c.args.serial n) c.self.view_is (c.in_ok-count.ensures ∙ ap (λ n. n + 1) c.count.ensures)
