use Rattle.std.proofs.Common.{◌≡◌, ◌<◌, ◌-◌, ◌+◌, Option, Some, None, OnSome, IsSome, deque_len, length, take, ap, sym, ◌∙◌, arith}
use Rattle.std.specs.List.{remove}
use Rattle.std.specs.FinMap as map
use Rattle.byte_lists.proofs.NumberMaps.{get_at, one_taken}
use Rattle.std.proofs.lemmas.List.{length-drop}
use Rattle.std.proofs.lemmas.List.Edits.{length-remove}
use Rattle.reply_ledger.specs.Expected.{IsAbsent, Kinds, kinds_of, with_queue}
use Rattle.reply_ledger.proofs.Maps.{out_none}
use Rattle.reply_ledger.proofs.Queue.{entry_at, others-absent, taken-in_order, taken_at, taken_at-in_order, taken_kind, with_queue-get, with_queue-remove}
use Rattle.reply_ledger.proofs.Taking.{IsMoved, is_moved-order, is_moved-there, is_moved-view, none_passed, some_passed}
use Rattle.reply_ledger.proofs.expected.remove_later.Goals as goal

-- ---- one of the others

other-is : (g : _) (c : goal.In-Some g) → map.get (kinds_of c.args.others.now.entries) c.args.position ≡ Some c.in-Some.kind
other-is g c = get_at c.args.others.now.entries c.args.position ∙ sym c.in-Some.ensures.value

other-absent : (g : _) (c : goal.In-Some g) → IsAbsent c.args.queue.now.items c.args.position
other-absent g c = others-absent (kinds_of c.args.others.now.entries) c.args.queue.now.items c.args.position c.in-Some.kind c.requires (other-is g c)

other-taken : (g : _) (c : goal.In-Some g) → kinds_of c.remove.new.self.entries ≡ map.remove (kinds_of c.args.others.now.entries) c.args.position
other-taken g c = one_taken c.args.others.now.entries c.remove.new.self.entries c.args.position (λ q. c.in-Some.ensures.updates.0 q)

pub returns-in-Some-clause-order : goal.returns-in-Some-clause-order
returns-in-Some-clause-order g c =
    rw (other-taken g c) (taken-in_order (kinds_of c.args.others.now.entries) c.args.queue.now.items c.args.position c.requires (other-absent g c))

pub returns-in-Some-clause-was : goal.returns-in-Some-clause-was
returns-in-Some-clause-was g c = sym (other-is g c) ∙ sym (with_queue-get (kinds_of c.args.others.now.entries) c.args.queue.now.items c.args.position (other-absent g c))

pub returns-in-Some-clause-left : goal.returns-in-Some-clause-left
returns-in-Some-clause-left g c =
    ap (λ m. with_queue m c.args.queue.now.items) (other-taken g c)
    ∙ with_queue-remove (kinds_of c.args.others.now.entries) c.args.queue.now.items c.args.position (other-absent g c)

pub returns-in-Some-clause-cost : goal.returns-in-Some-clause-cost
returns-in-Some-clause-cost g c = none_passed (with_queue (kinds_of c.args.others.now.entries) c.args.queue.now.items) c.args.position _ _ (omega (arith, c.tick.ensures))

-- ---- an entry after the first

-- those before the entry were moved, or some of them
moved : (g : _) (c : goal.After-kind_of g) →
    IsMoved (kinds_of c.args.others.now.entries) c.args.queue.now.items c.in-Some-index_of.index c.args.position c.move_front-moved.result
    (kinds_of c.move_front-moved.new.others.entries) c.move_front-moved.new.queue.items
moved g c =
    let move = c.move_front-moved in
    record {
      kept = c.requires;
      there = c.in-Some-index_of.ensures.found;
      most = move.ensures.most;
      others_are = move.ensures.others ∙ ap (λ es. with_queue (kinds_of es) (take move.result c.args.queue.now.items)) c.in_default.ensures.unchanged;
      rest_is = move.ensures.queue;
    }

moved-within : (g : _) (c : goal.After-kind_of g) → c.in-Some-index_of.index - c.move_front-moved.result < deque_len c.move_front-moved.new.queue
moved-within g c =
    let queue = c.move_front-moved.new.queue in
    let within = entry_at queue.items (c.in-Some-index_of.index - c.move_front-moved.result) c.args.position (is_moved-there (moved g c)) in
    omega (arith, within, queue.ok.0)

on_some : {X P : Type 0} (r : Option X) → IsSome r → OnSome r P → P
on_some None some p = absurd cc
on_some (Some x) some p = p

removed-is : (g : _) (c : goal.After-kind_of g) →
    c.remove-in-Some-index_of.new.self.items ≡ remove c.move_front-moved.new.queue.items (c.in-Some-index_of.index - c.move_front-moved.result)
removed-is g c = on_some c.remove-in-Some-index_of.result (c.remove-in-Some-index_of.ensures.variant.1 (moved-within g c)) c.remove-in-Some-index_of.ensures.items

pub returns-in-Some-index_of-clause-order : goal.returns-in-Some-index_of-clause-order
returns-in-Some-index_of-clause-order g c =
    let move = c.move_front-moved in
    rw (removed-is g c)
    (taken_at-in_order (kinds_of move.new.others.entries) move.new.queue.items (is_moved-order (moved g c)) (c.in-Some-index_of.index - move.result) c.args.position (is_moved-there (moved g c)))

pub returns-in-Some-index_of-clause-was : goal.returns-in-Some-index_of-clause-was
returns-in-Some-index_of-clause-was g c =
    let move = c.move_front-moved in
    c.kind_of.ensures
    ∙ taken_kind (kinds_of move.new.others.entries) move.new.queue.items (is_moved-order (moved g c)) (c.in-Some-index_of.index - move.result) c.args.position (is_moved-there (moved g c))
    c.remove-in-Some-index_of.result (λ d. c.remove-in-Some-index_of.ensures.succeeds d (moved-within g c))
    ∙ ap (λ (m : Kinds). map.get m c.args.position) (is_moved-view (moved g c))

pub returns-in-Some-index_of-clause-left : goal.returns-in-Some-index_of-clause-left
returns-in-Some-index_of-clause-left g c =
    let move = c.move_front-moved in
    ap (with_queue (kinds_of move.new.others.entries)) (removed-is g c)
    ∙ taken_at (kinds_of move.new.others.entries) move.new.queue.items (is_moved-order (moved g c)) (c.in-Some-index_of.index - move.result) c.args.position (is_moved-there (moved g c))
    ∙ ap (λ (m : Kinds). map.remove m c.args.position) (is_moved-view (moved g c))

pub returns-in-Some-index_of-clause-cost : goal.returns-in-Some-index_of-clause-cost
returns-in-Some-index_of-clause-cost g c =
    some_passed (moved g c) _ _ (omega (arith, c.tick.ensures, c.in-Some-index_of.ensures.cost, c.move_front-moved.ensures.cost))

pub returns-in-Some-index_of-clause-once : goal.returns-in-Some-index_of-clause-once
returns-in-Some-index_of-clause-once g c =
    let move = c.move_front-moved in
    let queue = move.new.queue in
    let rest : length queue.items ≡ length c.args.queue.now.items - move.result = ap length move.ensures.queue ∙ length-drop move.result c.args.queue.now.items in
    let left : length c.remove-in-Some-index_of.new.self.items + 1 ≡ length queue.items = ap (λ items. length items + 1) (removed-is g c) ∙ length-remove queue.items (c.in-Some-index_of.index - move.result) (entry_at queue.items _ c.args.position (is_moved-there (moved g c))) in
    omega (arith, rest, left, c.tick.ensures, c.in-Some-index_of.ensures.cost, move.ensures.cost, move.ensures.most, entry_at c.args.queue.now.items c.in-Some-index_of.index c.args.position c.in-Some-index_of.ensures.found)

-- ---- no entry

none-is : (g : _) (c : goal.In-None g) → map.get (with_queue (kinds_of c.args.others.now.entries) c.args.queue.now.items) c.args.position ≡ None
none-is g c =
    with_queue-get (kinds_of c.args.others.now.entries) c.args.queue.now.items c.args.position (c.in-None.ensures.absent c.requires.ascending)
    ∙ get_at c.args.others.now.entries c.args.position
    ∙ sym c.in_default.ensures.value

pub returns-in-None-clause-was : goal.returns-in-None-clause-was
returns-in-None-clause-was g c = sym (none-is g c)

pub returns-in-None-clause-left : goal.returns-in-None-clause-left
returns-in-None-clause-left g c =
    ap (λ es. with_queue (kinds_of es) c.args.queue.now.items) c.in_default.ensures.unchanged
    ∙ sym (out_none (with_queue (kinds_of c.args.others.now.entries) c.args.queue.now.items) c.args.position (none-is g c))

pub returns-in-None-clause-order : goal.returns-in-None-clause-order
returns-in-None-clause-order g c = rw c.in_default.ensures.unchanged c.requires

pub returns-in-None-clause-cost : goal.returns-in-None-clause-cost
returns-in-None-clause-cost g c =
    none_passed (with_queue (kinds_of c.args.others.now.entries) c.args.queue.now.items) c.args.position _ _ (omega (arith, c.tick.ensures, c.in-None.ensures.cost))
