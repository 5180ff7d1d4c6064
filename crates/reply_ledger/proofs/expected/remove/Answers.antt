use Rattle.std.proofs.Common.{◌≡◌, ◌-◌, length, refl, ap, ◌∙◌, arith}
use Rattle.std.proofs.lemmas.List.{length-drop}
use Rattle.reply_ledger.specs.Expected.{kinds_of, with_queue}
use Rattle.reply_ledger.proofs.Queue.{entry_at, taken_at, taken_at-in_order, taken_kind}
use Rattle.reply_ledger.proofs.Taking.{none_passed}
use Rattle.reply_ledger.proofs.expected.remove.Goals as goal

pub returns-then-is_first-clause-order : goal.returns-then-is_first-clause-order
returns-then-is_first-clause-order g c =
    rw c.pop_front.ensures.rest (taken_at-in_order (kinds_of c.args.others.now.entries) c.args.queue.now.items c.requires 0 c.args.position (c.if-is_first.ensures.0 refl))

pub returns-then-is_first-clause-was : goal.returns-then-is_first-clause-was
returns-then-is_first-clause-was g c =
    let queue = c.args.queue.now in
    let within = entry_at queue.items 0 c.args.position (c.if-is_first.ensures.0 refl) in
    c.kind_of.ensures
    ∙ taken_kind (kinds_of c.args.others.now.entries) queue.items c.requires 0 c.args.position (c.if-is_first.ensures.0 refl) c.pop_front.result
    (λ d. c.pop_front.ensures.value d (omega (arith, within, queue.ok.0)))

pub returns-then-is_first-clause-left : goal.returns-then-is_first-clause-left
returns-then-is_first-clause-left g c =
    let m = kinds_of c.args.others.now.entries in
    ap (with_queue m) c.pop_front.ensures.rest ∙ taken_at m c.args.queue.now.items c.requires 0 c.args.position (c.if-is_first.ensures.0 refl)

pub returns-then-is_first-clause-cost : goal.returns-then-is_first-clause-cost
returns-then-is_first-clause-cost g c = none_passed (with_queue (kinds_of c.args.others.now.entries) c.args.queue.now.items) c.args.position _ _ (omega arith)

pub returns-then-is_first-clause-once : goal.returns-then-is_first-clause-once
returns-then-is_first-clause-once g c =
    let rest : length c.pop_front.new.self.items ≡ length c.args.queue.now.items - 1 = ap length c.pop_front.ensures.rest ∙ length-drop 1 c.args.queue.now.items in
    omega (arith, rest)
