use Rattle.std.proofs.Common.{◌≡◌, ◌<◌, Some, None, length, refl, ap, ap₂, sym, ◌∙◌, arith}
use Rattle.std.specs.FinMap as map
use Rattle.byte_lists.proofs.NumberMaps.{get_at}
use Rattle.reply_ledger.specs.Expected.{Kinds}
use Rattle.reply_ledger.proofs.Queue.{entry_at, entry_is, kind_at, others-absent, with_queue-get}
use Rattle.reply_ledger.proofs.expected.Expected.peek.Goals as goal

pub returns-clause-is : goal.returns-clause-is
returns-clause-is g c =
    let queue = c.self.inside.queue in
    let some = c.in-Some.ensures.variant.0 refl in
    let within : 0 < length queue.items = omega (arith, some, queue.ok.0) in
    sym (kind_at (map.from_entries c.self.inside.others.entries) queue.items c.self.invariant 0 c.in-Some.first.now within c.in-Some.ensures.lookup)
    ∙ ap₂ (λ (m : Kinds) p. map.get m p) c.self.view_is c.if-first-position.true

pub returns-in-Some-get-clause-is : goal.returns-in-Some-get-clause-is
returns-in-Some-get-clause-is g c =
    let m : Kinds = map.from_entries c.self.inside.others.entries in
    let is : map.get m c.args.position ≡ Some c.in-Some-get.kind.now = get_at c.self.inside.others.entries c.args.position ∙ sym c.in-Some-get.ensures.value in
    let absent = others-absent m c.self.inside.queue.items c.args.position c.in-Some-get.kind.now c.self.invariant is in
    sym is ∙ sym (with_queue-get m c.self.inside.queue.items c.args.position absent) ∙ ap (λ (n : Kinds). map.get n c.args.position) c.self.view_is

pub index-requires : goal.index-requires
index-requires g c =
    let queue = c.self.inside.queue in
    let within = entry_at queue.items c.in-Some-index_of.index c.args.position c.in-Some-index_of.ensures.found in
    omega (arith, within, queue.ok.0)

pub returns-in-Some-index_of-clause-is : goal.returns-in-Some-index_of-clause-is
returns-in-Some-index_of-clause-is g c =
    let queue = c.self.inside.queue.items in
    let index = c.in-Some-index_of.index in
    let within = entry_at queue index c.args.position c.in-Some-index_of.ensures.found in
    sym (kind_at (map.from_entries c.self.inside.others.entries) queue c.self.invariant index c.index.result.now within c.index.ensures)
    ∙ ap₂ (λ (m : Kinds) p. map.get m p) c.self.view_is (entry_is queue index c.args.position c.index.result.now c.in-Some-index_of.ensures.found c.index.ensures)

pub returns-in-None-clause-is : goal.returns-in-None-clause-is
returns-in-None-clause-is g c =
    let m : Kinds = map.from_entries c.self.inside.others.entries in
    let is : map.get m c.args.position ≡ None = get_at c.self.inside.others.entries c.args.position ∙ sym c.in_default-2.ensures.value in
    let absent = c.in-None.ensures.absent c.self.invariant.ascending in
    sym is ∙ sym (with_queue-get m c.self.inside.queue.items c.args.position absent) ∙ ap (λ (n : Kinds). map.get n c.args.position) c.self.view_is
