use Rattle.std.proofs.Common.{ap, sym, ◌∙◌}
use Rattle.policy_view.specs.Past.{if_unique}
use Rattle.proxy_core.proofs.Taking.{text_returned, nothing_returned}
use Rattle.proxy_core.proofs.facts.returned_id.Goals as goal

pub returns-then-is_method_return : goal.returns-then-is_method_return
returns-then-is_method_return c =
    c.unique.ensures ∙ ap if_unique (c.only_text.ensures ∙ sym (text_returned c.args.message.now (sym c.is_method_return.ensures ∙ c.if-is_method_return.true)))

pub returns-else-is_method_return : goal.returns-else-is_method_return
returns-else-is_method_return c = ap if_unique (sym (nothing_returned c.args.message.now (sym c.is_method_return.ensures ∙ c.if-is_method_return.false)))
