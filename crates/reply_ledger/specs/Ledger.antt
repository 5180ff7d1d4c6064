-- The model of a ledger.
use Rattle.std.specs.Ordering.{nat_cmp}
use Rattle.std.specs.FinMap.{FinMap}
use Rattle.reply_ledger.specs.declared.kind.Kind.{Kind}
use Rattle.reply_ledger.specs.Owed.{Replies}

-- what answers are for, by the serials of the messages that were sent; and the replies that are owed
pub record Ledger : Type 0 where
  pub expected : FinMap nat_cmp Kind
  pub owed : Replies
