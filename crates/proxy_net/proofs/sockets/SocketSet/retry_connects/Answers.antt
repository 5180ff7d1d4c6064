use Rattle.std.proofs.Common.{ℕ, List, slice_get, ap, ◌∙◌, arith}
use Rattle.proxy_net.specs.Sockets.{HasLink, IsTriedTo, is_overdue_at}
use Rattle.proxy_net.proofs.Waiting.{waits_through, waits_before, registered_after}
use Rattle.proxy_net.proofs.Going.{goes_through}
use Rattle.proxy_net.proofs.Notes.{notes_through}
use Rattle.proxy_net.proofs.Reading.{read_through}
use Rattle.proxy_net.proofs.Retrying.{first_left, one_turned, one_more_tried_now, none_among, none_left_overdue}
use Rattle.proxy_net.proofs.sockets.SocketSet.retry_connects.Goals as goal

pub loop-tries-preserved : goal.loop-tries-preserved
loop-tries-preserved g c =
    let before = c.loop-tries.invariant in
    let items = c.args.self.now.pending.items in
    let turned = one_turned items before.behind c.loop-tries.self.pending.items c.retry_first.new.self.pending.items c.loop-tries._tries (omega (arith, c.len-tries-end.ensures, c.args.self.now.pending.ok.0)) before.queue c.retry_first.ensures.queue in
    record {
      told = λ own. waits_through (HasLink c.args.self.now) (IsTriedTo c.args.self.now) (before.told own) (waits_before c.args.self.now c.loop-tries.self before.goes (c.retry_first.ensures.told (registered_after c.args.self.now c.loop-tries.self before.goes own)));
      goes = goes_through before.goes c.retry_first.ensures.goes;
      kept = notes_through before.kept c.retry_first.ensures.kept;
      reported = read_through before.reported c.retry_first.ensures.reported;
      listeners = c.retry_first.ensures.listeners ∙ before.listeners;
      behind = turned.0;
      queue = turned.1;
      tried = one_more_tried_now (is_overdue_at c.loop-tries.self c.args.now) (is_overdue_at c.retry_first.new.self c.args.now) items c.loop-tries._tries before.tried c.retry_first.ensures.others
          (λ number at. c.retry_first.ensures.first number (ap (λ (xs : List ℕ). slice_get xs 0) before.queue ∙ first_left items before.behind c.loop-tries._tries number at));
      early = λ number time due is at less. c.retry_first.ensures.early number time due is (before.early number time due is at less) less;
    }

pub returns-clause-tried : goal.returns-clause-tried
returns-clause-tried g c =
    none_left_overdue c.args.self.now c.loop-tries.self c.args.now c.loop-tries.invariant.reported.pending
    (none_among (is_overdue_at c.loop-tries.self c.args.now) c.args.self.now.pending.items (λ place number below at. c.loop-tries.invariant.tried place number (omega (arith, below, c.len-tries-end.ensures, c.args.self.now.pending.ok.0)) at))
