use Rattle.std.proofs.Common.{ap, sym, ◌∙◌}
use Rattle.reply_ledger.specs.Owed.{count_in}
use Rattle.reply_ledger.proofs.Apart.{first-count, other-count}
use Rattle.reply_ledger.proofs.calls.Calls.count.Goals as goal

pub returns-then-serial-self : goal.returns-then-serial-self
returns-then-serial-self c =
    sym (first-count c.self.inside.others c.args.serial c.self.inside.serial c.self.inside.count c.if-serial-self.true)
    ∙ ap (λ m. count_in m c.args.serial) c.self.view_is

pub returns-else-serial-self : goal.returns-else-serial-self
returns-else-serial-self c =
    c.count.ensures
    ∙ sym (other-count c.self.inside.others c.args.serial c.self.inside.serial c.self.inside.count c.if-serial-self.false)
    ∙ ap (λ m. count_in m c.args.serial) c.self.view_is
