use Rattle.std.proofs.Common.{ℕ, ◌∷◌, [], List, refl, ap, ap₂, sym, ◌∙◌}
use Rattle.std.specs.Prelude.{flat_map}
use Rattle.std.specs.Option.{option_copied}
use Rattle.dbus_header.specs.Contents.{Contents}
use Rattle.policy_view.specs.Elements.{given_of}
use Rattle.policy_view.specs.Shown.{BusRole}
use Rattle.policy_view.specs.Visible.{visible_hidden}
use Rattle.policy_view.specs.declared.Showing.TheVariants.{Whole, Reply, Cut, Hide}
use Rattle.policy_view.specs.declared.visible.Visible.TheVariants as element
use Rattle.proxy_core.proofs.Frames.{if_ok}
use Rattle.proxy_core.proofs.KeptElements.{elements_as}
use Rattle.proxy_core.proofs.ReceivingSteps.{shown_by}
use Rattle.proxy_core.proofs.Taking.{read, seen, tree}
use Rattle.proxy_core.proofs.elements.bus_element.Goals as goal

pub cut_list-requires-clause-list : goal.cut_list-requires-clause-list
cut_list-requires-clause-list c = (shown_by c.args.policy.now _ c.args.ledger.now.expected c.args.message.now (option_copied c.answered-answer.result) (Cut c.in-Cut.field-0) c.answered-answer.ensures.role (c.in-Cut.ensures.kept c.args.ledger.now.owed _ (read c.args.message.now))).1

pub cut_list-requires-clause-reply : goal.cut_list-requires-clause-reply
cut_list-requires-clause-reply c = (shown_by c.args.policy.now _ c.args.ledger.now.expected c.args.message.now (option_copied c.answered-answer.result) (Cut c.in-Cut.field-0) c.answered-answer.ensures.role (c.in-Cut.ensures.kept c.args.ledger.now.owed _ (read c.args.message.now))).0

pub returns-in-Whole : goal.returns-in-Whole
returns-in-Whole c =
    if_ok c.shown_element.result _ _ (λ r is. is ∙ elements_as c.args.policy.now c.args.tracker.now c.args.ledger.now (tree c.args.message.now) (option_copied c.answered-answer.result) Whole _ c.answered-answer.ensures.role (c.in-Whole.ensures.kept c.args.ledger.now.owed _ (read c.args.message.now)) refl) c.shown_element.ensures

pub returns-in-Reply : goal.returns-in-Reply
returns-in-Reply c =
    if_ok c.shown_element-in-Reply.result _ _ (λ r is. is ∙ elements_as c.args.policy.now c.args.tracker.now c.args.ledger.now (tree c.args.message.now) (option_copied c.answered-answer.result) (Reply c.in-Reply.field-0) _ c.answered-answer.ensures.role (c.in-Reply.ensures.kept c.args.ledger.now.owed _ (read c.args.message.now)) refl) c.shown_element-in-Reply.ensures

pub returns-in_ok-cut_list-in-Cut : goal.returns-in_ok-cut_list-in-Cut
returns-in_ok-cut_list-in-Cut c =
    elements_as c.args.policy.now c.args.tracker.now c.args.ledger.now (tree c.args.message.now) (option_copied c.answered-answer.result) (Cut c.in-Cut.field-0) _ c.answered-answer.ensures.role (c.in-Cut.ensures.kept c.args.ledger.now.owed _ (read c.args.message.now))
    (ap (λ (frame : List ℕ). element.Cut frame ∷ []) c.in_ok-cut_list-in-Cut.ensures)

pub returns-in-Instead : goal.returns-in-Instead
returns-in-Instead c =
    elements_as c.args.policy.now c.args.tracker.now c.args.ledger.now (tree c.args.message.now) (option_copied c.answered-answer.result) _ _ c.answered-answer.ensures.role (c.in-Instead.ensures.kept c.args.ledger.now.owed _ (read c.args.message.now))
    (ap₂ (λ (position serial : ℕ). element.Ping position serial ∷ []) c.position.ensures (sym (ap (λ (q : Contents). q.serial) (seen c.args.message.now))))

pub returns-in-Hide : goal.returns-in-Hide
returns-in-Hide c =
    if_ok c.hidden_element.result _ _
    (λ r is. elements_as c.args.policy.now c.args.tracker.now c.args.ledger.now (tree c.args.message.now) (option_copied c.answered-answer.result) (Hide c.in-Hide.field-0) _ c.answered-answer.ensures.role (c.in-Hide.ensures.kept c.args.ledger.now.owed _ (read c.args.message.now))
    (is ∙ ap (λ (r : BusRole). flat_map given_of (visible_hidden c.args.policy.now (tree c.args.message.now) r)) c.answered-answer.ensures.role))
    c.hidden_element.ensures
