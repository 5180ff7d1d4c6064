use Rattle.std.proofs.Common.{drop, take, ap, ap₂, ◌∙◌, refl, arith}
use Rattle.std.specs.FinMap as map
use Rattle.std.proofs.lemmas.List.{drop-drop}
use Rattle.reply_ledger.specs.Expected.{with_queue}
use Rattle.reply_ledger.proofs.Queue.{moved_more}
use Rattle.reply_ledger.proofs.expected.move_front.Goals as goal

pub loop-moved-preserved : goal.loop-moved-preserved
loop-moved-preserved g c = (
  c.if-not-move_first.ensures.queue refl ∙ ap (drop 1) c.loop-moved.invariant.0 ∙ drop-drop 1 c.loop-moved.moved c.args.queue.now.items,
  c.if-not-move_first.ensures.others refl
      ∙ ap₂ (λ m queue. with_queue m (take 1 queue)) c.loop-moved.invariant.1 c.loop-moved.invariant.0
      ∙ moved_more (map.from_entries c.args.others.now.entries) c.args.queue.now.items c.loop-moved.moved,
  omega (arith, c.tick.ensures, c.loop-moved.invariant.2),
)
