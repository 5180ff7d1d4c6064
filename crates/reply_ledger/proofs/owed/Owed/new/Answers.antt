use Rattle.std.proofs.Common.{ap, sym, subst}
use Rattle.std.specs.FinMap as map
use Rattle.byte_lists.specs.TextMaps.{by_bytes}
use Rattle.reply_ledger.specs.Owed.{KeepsOwedAlone, Replies}
use Rattle.reply_ledger.proofs.Counting.{none-kept}
use Rattle.reply_ledger.proofs.owed.Owed.new.Goals as goal

pub invariant_of-result : goal.invariant_of-result
invariant_of-result c = subst (λ (owed : Replies). KeepsOwedAlone owed) (ap (λ es. map.from_entries (by_bytes es)) (sym c.new.ensures.empty)) none-kept
