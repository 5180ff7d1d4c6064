use Rattle.std.proofs.Common.{ap}
use Rattle.proxy_core.specs.Sessions.{SessionView}
use Rattle.proxy_core.specs.Messages.{elements_in}
use Rattle.proxy_core.proofs.Draining.{runs_by}
use Rattle.proxy_core.proofs.Taking.{tree}
use Rattle.proxy_core.proofs.Watching.{stays_unless}
use Rattle.proxy_core.proofs.session.Session.process_watched.Goals as goal

pub returns-clause-kept : goal.returns-clause-kept
returns-clause-kept c =
    stays_unless c.args.watch.now (elements_in c.args.policy.now c.args.side (tree c.args.incoming.now.message.now) c.args.self.now) _ c.truncate_unless.new.self c.process_unwatched.new.self.ended c.is_none.result c.len-earlier.result
    (runs_by c.self.inside.ended _ c.is_none.result c.is_none.ensures (ap (λ (v : SessionView). v.ended) c.self.view_is))
    c.in-Ok.ensures.ok c.len-earlier.ensures c.truncate_unless.ensures
