use Rattle.std.proofs.Common.{ap, sym, ◌∙◌, unwrap_or}
use Rattle.std.specs.FinMap as map
use Rattle.byte_lists.proofs.NumberMaps.{get_at}
use Rattle.reply_ledger.proofs.counts.Counts.count.Goals as goal

pub returns : goal.returns
returns c =
    c.unwrap_or.ensures
    ∙ ap (λ o. unwrap_or o 0) (c.copied.ensures ∙ c.get.ensures.value ∙ sym (get_at c.self.inside.counts.entries c.args.serial) ∙ ap (λ m. map.get m c.args.serial) c.self.view_is)
