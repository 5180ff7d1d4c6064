use Rattle.std.proofs.Common.{ℕ, ◌∙◌, Vec, Global, inr, false, unwrap_or, slice_get, ap}
use Rattle.std.specs.BTreeMap as tree
use Rattle.std.specs.BTreeMap.{BTreeMap}
use Rattle.std.specs.Option.{option_map}
use Rattle.std.specs.Ordering.{nat_cmp}
use Rattle.proxy_net.specs.Delays.{is_accept_due}
use Rattle.proxy_net.specs.Sockets.{due_in}
use Rattle.proxy_net.specs.declared.link_sockets.LinkSocket.{LinkSocket}
use Rattle.proxy_net.specs.declared.listeners.ListenerSocket.{ListenerSocket}
use Rattle.proxy_net.proofs.Going.{goes_through}
use Rattle.proxy_net.proofs.Retrying.{accepts_tried, early_kept, early_same, early_through}
use Rattle.proxy_net.proofs.Waiting.{waits_before, registered_after}
use Rattle.proxy_net.proofs.sockets.SocketSet.retry_all.Goals as goal

pub returns-clause-goes : goal.returns-clause-goes
returns-clause-goes g c = goes_through c.retry_accepts.ensures.goes c.retry_connects.ensures.goes

pub returns-clause-told : goal.returns-clause-told
returns-clause-told g c = λ own.
    waits_before c.args.self.now c.retry_accepts.new.self c.retry_accepts.ensures.goes (c.retry_connects.ensures.told (registered_after c.args.self.now c.retry_accepts.new.self c.retry_accepts.ensures.goes own))

pub returns-clause-tried : goal.returns-clause-tried
returns-clause-tried g c = λ own. inr (
  c.now-now.result,
  c.now-now.ensures,
  record {
    connects = λ number. c.retry_connects.ensures.tried number (c.retry_accepts.ensures.goes.retries number (own number));
    accepts = λ place. ap (λ (v : Vec (ListenerSocket _) Global). unwrap_or (option_map (is_accept_due c.now-now.result) (slice_get v.items place)) false) c.retry_connects.ensures.listeners ∙ c.retry_accepts.ensures.retried place;
  },
)

pub returns-clause-early : goal.returns-clause-early
returns-clause-early g c =
    early_through (early_same c.args.self.now c.retry_accepts.new.self (λ number. ap (λ (m : BTreeMap ℕ (LinkSocket _)). due_in (tree.get nat_cmp m number)) c.retry_accepts.ensures.links)) (early_kept g.S.Sockets.shows c.retry_accepts.new.self c.retry_connects.new.self c.now-now.result c.now-now.ensures c.retry_connects.ensures.early)

pub returns-clause-accepts : goal.returns-clause-accepts
returns-clause-accepts g c = accepts_tried g.S.Sockets.shows c.args.self.now c.retry_connects.new.self c.now-now.result c.now-now.ensures
    (λ place early. ap (λ (v : Vec (ListenerSocket _) Global). slice_get v.items place) c.retry_connects.ensures.listeners ∙ c.retry_accepts.ensures.others place early)
