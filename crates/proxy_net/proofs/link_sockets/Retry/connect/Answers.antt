use Rattle.std.proofs.Common.{◌≤◌, subst}
use Rattle.std.specs.Time.{instant_nanos}
use Rattle.std.specs.declared.io.ErrorKind.{ErrorKind}
use Rattle.proxy_net.specs.Steps.{IsNoRoom}
use Rattle.proxy_net.proofs.Leading.{tried_once, connected_again, no_room_again, refused_again}
use Rattle.proxy_net.proofs.link_sockets.Retry.connect.Goals as goal

pub returns-in-Ok-clause-told : goal.returns-in-Ok-clause-told
returns-in-Ok-clause-told g c = tried_once _ _ _ _ c.as_str.ensures.value c.in-Ok.ensures.told

pub returns-then-is_tried_on-clause-told : goal.returns-then-is_tried_on-clause-told
returns-then-is_tried_on-clause-told g c = tried_once _ _ _ _ c.as_str.ensures.value c.in-Err.ensures.told

pub returns-else-is_tried_on-clause-told : goal.returns-else-is_tried_on-clause-told
returns-else-is_tried_on-clause-told g c = tried_once _ _ _ _ c.as_str.ensures.value c.in-Err.ensures.told

pub returns-in-Ok-clause-retried : goal.returns-in-Ok-clause-retried
returns-in-Ok-clause-retried g c = connected_again _ _ _ c.as_str.ensures.value c.in-Ok.ensures.told

pub returns-then-is_tried_on-clause-retried : goal.returns-then-is_tried_on-clause-retried
returns-then-is_tried_on-clause-retried g c =
    no_room_again _ _ _ _ (subst IsNoRoom c.kind.ensures (c.is_tried_on.ensures.yes c.if-is_tried_on.true).0) c.as_str.ensures.value c.in-Err.ensures.told

pub returns-else-is_tried_on-clause-retried : goal.returns-else-is_tried_on-clause-retried
returns-else-is_tried_on-clause-retried g c =
    refused_again _ _ _ _ (instant_nanos c.args.self.now.until ≤ instant_nanos c.args.now) (subst (λ (k : ErrorKind). IsNoRoom k → instant_nanos c.args.self.now.until ≤ instant_nanos c.args.now) c.kind.ensures (c.is_tried_on.ensures.no c.if-is_tried_on.false)) c.as_str.ensures.value c.in-Err.ensures.told
