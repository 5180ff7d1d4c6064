use Rattle.std.proofs.Common.{ap, sym, ◌∙◌}
use Rattle.std.specs.Option.{option_copied}
use Rattle.policy_view.specs.Visible.{names_asked}
use Rattle.proxy_core.proofs.KeptElements.{copied, names_hidden, nothing_hidden, owner_hidden}
use Rattle.proxy_core.proofs.Taking.{tree}
use Rattle.proxy_core.proofs.elements.hidden_element.Goals as goal

pub returns-then-is_for_owner : goal.returns-then-is_for_owner
returns-then-is_for_owner c =
    owner_hidden c.args.policy.now c.args.message.now (option_copied c.args.answer) c.position.result c.in_ok-kept_name.field-0 (sym c.is_for_owner.ensures ∙ c.if-is_for_owner.true)
    (copied c.args.answer _ c.requires.reply) c.position.ensures (c.in_ok-kept_name.ensures ∙ c.returned_id.ensures)

pub returns-then-is_for_names : goal.returns-then-is_for_names
returns-then-is_for_names c =
    names_hidden c.args.policy.now c.args.message.now (option_copied c.args.answer) c.position-then-is_for_names.result c.in_ok-names_to_ask.field-0 (sym c.is_for_names.ensures ∙ c.if-is_for_names.true)
    (copied c.args.answer _ c.requires.reply) c.position-then-is_for_names.ensures (c.in_ok-names_to_ask.ensures ∙ ap (names_asked c.args.policy.now) c.returned_names.ensures)

pub returns : goal.returns
returns c =
    nothing_hidden c.args.policy.now (tree c.args.message.now) (option_copied c.args.answer) (sym c.is_for_owner.ensures ∙ c.if-is_for_owner.false) (sym c.is_for_names.ensures ∙ c.if-is_for_names.false)
