use Rattle.std.proofs.Common.{ap, sym, subst, ◌∙◌}
use Rattle.std.specs.FinMap as map
use Rattle.reply_ledger.specs.Apart.{AreApart}
use Rattle.reply_ledger.specs.Owed.{Serials}
use Rattle.reply_ledger.proofs.Apart.{one-apart, one-view}
use Rattle.reply_ledger.proofs.calls.Calls.one.Goals as goal

pub invariant_of-result : goal.invariant_of-result
invariant_of-result c = subst (λ (others : Serials). AreApart c.args.serial 1 others) (sym c.new.ensures) (one-apart c.args.serial)

pub returns : goal.returns
returns c = ap (λ others. map.insert others c.args.serial 1) c.new.ensures ∙ one-view c.args.serial
