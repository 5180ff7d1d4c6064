use Rattle.std.proofs.Common.{sym, ◌∙◌}
use Rattle.proxy_core.proofs.Taking.{names_returned, no_names_returned}
use Rattle.proxy_core.proofs.facts.returned_names.Goals as goal

pub returns-then-is_method_return : goal.returns-then-is_method_return
returns-then-is_method_return c =
    c.text_list.ensures ∙ sym (names_returned c.args.message.now (sym c.is_method_return.ensures ∙ c.if-is_method_return.true))

pub returns-else-is_method_return : goal.returns-else-is_method_return
returns-else-is_method_return c = sym (no_names_returned c.args.message.now (sym c.is_method_return.ensures ∙ c.if-is_method_return.false))
