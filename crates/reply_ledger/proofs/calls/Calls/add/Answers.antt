use Rattle.std.proofs.Common.{ap, sym, subst, ◌∙◌}
use Rattle.std.specs.FinMap as map
use Rattle.reply_ledger.specs.Apart.{AreApart}
use Rattle.reply_ledger.specs.Owed.{Serials, one_more_in}
use Rattle.reply_ledger.proofs.Apart.{first-more, more-apart, other-more}
use Rattle.reply_ledger.proofs.calls.Calls.add.Goals as goal

pub returns-then-serial-self-clause-ok : goal.returns-then-serial-self-clause-ok
returns-then-serial-self-clause-ok c =
    ap (map.insert c.self.inside.others c.self.inside.serial) c.in_ok-self-inside.ensures
    ∙ first-more c.self.inside.others c.args.serial c.self.inside.serial c.self.inside.count c.if-serial-self.true
    ∙ ap (λ m. one_more_in m c.args.serial) c.self.view_is

pub invariant_of-self-2 : goal.invariant_of-self-2
invariant_of-self-2 c =
    subst (λ (others : Serials). AreApart c.self.inside.serial c.self.inside.count others) (sym c.in_ok-add.ensures.ok)
    (more-apart c.args.serial c.self.inside.serial c.self.inside.count c.self.inside.others c.if-serial-self.false c.self.invariant)

pub returns-clause-ok : goal.returns-clause-ok
returns-clause-ok c =
    ap (λ others. map.insert others c.self.inside.serial c.self.inside.count) c.in_ok-add.ensures.ok
    ∙ other-more c.self.inside.others c.args.serial c.self.inside.serial c.self.inside.count c.if-serial-self.false
    ∙ ap (λ m. one_more_in m c.args.serial) c.self.view_is
