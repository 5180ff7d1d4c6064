use Rattle.std.proofs.Common.{ap, ◌∙◌, sym}
use Rattle.proxy_core.specs.Sessions.{SessionView}
use Rattle.proxy_core.proofs.Noting.{unnoted}
use Rattle.proxy_core.proofs.Taking.{tree}
use Rattle.proxy_core.proofs.session.Session.process_unwatched.Goals as goal

pub returns : goal.returns
returns c =
    unnoted c.args.policy.now c.args.side (tree c.args.incoming.now.message.now) c.args.self.now c.process_of_side-decision.new.self (ap (λ (v : SessionView). v.mode.notes) (sym c.self.view_is) ∙ c.if-self.false)
    c.process_of_side-decision.ensures.took
