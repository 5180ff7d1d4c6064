use Rattle.std.proofs.Common.{◌≡◌, ℕ, List, Result, Ok, Err, OnOk, OnErr, ap, ◌∙◌}
use Rattle.std.specs.FinMap as map
use Rattle.reply_ledger.specs.declared.kind.Kind.{Kind}
use Rattle.reply_ledger.specs.declared.expected.Awaited.{Awaited}
use Rattle.reply_ledger.specs.Expected.{IsAbsent, IsInOrder, Kinds, kinds_of, with_queue}
use Rattle.reply_ledger.proofs.Queue.{inserted-in_order, pushed, replaced, replaced-in_order, with_queue-insert}
use Rattle.reply_ledger.proofs.expected.Expected.expect.Goals as goal

pub returns-then-not-has-clause-ok : goal.returns-then-not-has-clause-ok
returns-then-not-has-clause-ok g c =
    let m = kinds_of c.self.inside.others.entries in
    ap (with_queue m) c.in_ok-push_back.ensures.items
    ∙ pushed m c.self.inside.queue.items (record { position = c.args.position; kind = c.args.kind })
    ∙ ap (λ (n : Kinds). map.insert n c.args.position c.args.kind) c.self.view_is

-- ---- at a position of the queue

pub invariant_of-self-in-Some : goal.invariant_of-self-in-Some
invariant_of-self-in-Some g c =
    rw c.replace.ensures
    (replaced-in_order (kinds_of c.self.inside.others.entries) c.self.inside.queue.items c.self.invariant c.in-Some.index c.args.position c.in-Some.ensures.found c.args.kind)

pub returns-in-Some-clause-ok : goal.returns-in-Some-clause-ok
returns-in-Some-clause-ok g c =
    let m = kinds_of c.self.inside.others.entries in
    ap (with_queue m) c.replace.ensures
    ∙ replaced m c.self.inside.queue.items c.self.invariant c.in-Some.index c.args.position c.in-Some.ensures.found c.args.kind
    ∙ ap (λ (n : Kinds). map.insert n c.args.position c.args.kind) c.self.view_is

-- ---- among the others

put-in_order : {T E : Type 0} (r : Result T E) (old new : List (ℕ × Kind)) (queue : List Awaited) (p : ℕ) (v : Kind) → OnOk r (kinds_of new ≡ map.insert (kinds_of old) p v) →
    OnErr r (new ≡ old) → IsInOrder (kinds_of old) queue → IsAbsent queue p → IsInOrder (kinds_of new) queue
put-in_order (Ok x) old new queue p v ok err kept absent = rw ok (inserted-in_order (kinds_of old) queue p v kept absent)
put-in_order (Err e) old new queue p v ok err kept absent = rw err kept

put-is : {T E : Type 0} (r : Result T E) (old new : List (ℕ × Kind)) (queue : List Awaited) (p : ℕ) (v : Kind) (m : Kinds) → OnOk r (kinds_of new ≡ map.insert (kinds_of old) p v) →
    IsAbsent queue p → with_queue (kinds_of old) queue ≡ m → OnOk r (with_queue (kinds_of new) queue ≡ map.insert m p v)
put-is (Ok x) old new queue p v m ok absent is = ap (λ n. with_queue n queue) ok ∙ with_queue-insert (kinds_of old) queue p v absent ∙ ap (λ (n : Kinds). map.insert n p v) is
put-is (Err e) old new queue p v m ok absent is = tt

pub invariant_of-self-in-None : goal.invariant_of-self-in-None
invariant_of-self-in-None g c =
    put-in_order c.put.result c.self.inside.others.entries c.put.new.others.entries c.self.inside.queue.items c.args.position c.args.kind c.put.ensures.ok c.put.ensures.err c.self.invariant
    (c.in-None.ensures.absent c.self.invariant.ascending)

pub returns-in-None-clause-ok : goal.returns-in-None-clause-ok
returns-in-None-clause-ok g c =
    put-is c.put.result c.self.inside.others.entries c.put.new.others.entries c.self.inside.queue.items c.args.position c.args.kind c.args.self.now c.put.ensures.ok
    (c.in-None.ensures.absent c.self.invariant.ascending) c.self.view_is
