use Rattle.std.proofs.Common.{◌++◌, ◌+◌, ap, map, ◌∙◌}
use Rattle.policy_view.specs.Sent.{OwnOwner, spelled_from}
use Rattle.proxy_core.specs.Messages.{with_sent}
use Rattle.proxy_core.proofs.SendingSteps.{owners_view}
use Rattle.proxy_core.proofs.Taking.{on_ok}
use Rattle.proxy_core.proofs.session.Session.send_owner_calls.Goals as goal

pub returns-clause-ok : goal.returns-clause-ok
returns-clause-ok c =
    let names = map (λ n. n.now) c.args.names.now in
    on_ok c.push.result _ _ (λ is.
    owners_view _ names c.push.new.self c.after_names.new.serials c.after_names.new.ledger
    (is ∙ ap (λ w. c.self.inside.to_bus ++ w) (c.in_ok-freeze.ensures.ok ∙ c.in_ok-after_names.ensures.bytes ∙ ap (λ w. w ++ spelled_from (c.self.inside.serials + 1) (map OwnOwner names)) c.new-calls.ensures.items))
    c.in_ok-after_names.ensures.serials c.in_ok-after_names.ensures.ledger
    ∙ ap (with_sent (map OwnOwner names)) c.self.view_is) c.push.ensures.ok
