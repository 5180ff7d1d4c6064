use Rattle.std.proofs.Common.{true, false, cond, ap, sym, ◌∙◌}
use Rattle.dbus_header.specs.Message.{three_texts}
use Rattle.dbus_header.specs.Seen.{texts_seen}
use Rattle.policy_view.specs.Shown.{on_owner_change}
use Rattle.policy_view.specs.declared.Reason.TheVariants.{NameHidden}
use Rattle.policy_view.specs.declared.Showing.TheVariants.{Whole, Hide}
use Rattle.verdicts.specs.Kept.{kept}
use Rattle.verdicts.proofs.showing.show_owner_change.Goals as goal

pub returns-then-sees_change-clause-showing : goal.returns-then-sees_change-clause-showing
returns-then-sees_change-clause-showing g c = λ owed.
    ap (λ b. cond b Whole (Hide NameHidden)) (sym c.if-sees_change.true ∙ c.sees_change.ensures.seen owed)
    ∙ ap (on_owner_change c.args.policy.now.sloppy (kept c.args.policy.now c.args.tracker.now owed))
    (sym (ap texts_seen c.in-Some.is) ∙ c.three_texts.ensures)

pub returns-else-sees_change-clause-showing : goal.returns-else-sees_change-clause-showing
returns-else-sees_change-clause-showing g c = λ owed.
    ap (λ b. cond b Whole (Hide NameHidden)) (sym c.if-sees_change.false ∙ c.sees_change.ensures.seen owed)
    ∙ ap (on_owner_change c.args.policy.now.sloppy (kept c.args.policy.now c.args.tracker.now owed))
    (sym (ap texts_seen c.in-Some.is) ∙ c.three_texts.ensures)
