use Rattle.std.proofs.Common.{ap, sym, codes, ◌∙◌}
use Rattle.policy_view.specs.Sent.{is_hello}
use Rattle.proxy_core.specs.Messages.{is_bus_member_by}
use Rattle.proxy_core.proofs.Taking.{seen}
use Rattle.proxy_core.proofs.requests.is_hello.Goals as goal

pub returns : goal.returns
unfolding is_hello
returns c = c.is_bus_member.ensures ∙ ap (is_bus_member_by (codes "Hello")) (sym (seen c.args.message.now))
