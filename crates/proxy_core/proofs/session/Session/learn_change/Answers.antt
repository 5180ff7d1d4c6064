use Rattle.std.proofs.Common.{ap, ◌∙◌}
use Rattle.policy_view.specs.Past.{owners_of}
use Rattle.proxy_core.specs.Messages.{with_facts}
use Rattle.proxy_core.proofs.Taking.{on_ok}
use Rattle.proxy_core.proofs.session.Session.learn_change.Goals as goal

pub returns-clause-ok : goal.returns-clause-ok
returns-clause-ok c =
    on_ok c.learn_owners.result _ _ (λ is. is ∙ ap (λ texts. with_facts c.args.policy.now (owners_of c.args.policy.now texts) c.args.self.now) c.three_texts.ensures) c.learn_owners.ensures.ok
