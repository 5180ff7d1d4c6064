-- The cost of taking an answer, and what is left after those before it were moved.
use Rattle.std.proofs.Common.{◌≡◌, ◌<◌, ◌≤◌, ◌+◌, ◌-◌, ℕ, zero, suc, Some, List, [], ◌∷◌, length, get_or, map, take, drop, refl, ap, ◌∙◌, arith}
use Rattle.std.proofs.lemmas.List.{get_or-take, length-map, length-take-le}
use Rattle.reply_ledger.specs.declared.expected.Awaited.{Awaited}
use Rattle.reply_ledger.specs.Expected.{IsInOrder, Kinds, TakeCost, position_at, with_queue}
use Rattle.reply_ledger.proofs.Queue.{after_move, after_move-in_order, after_move-there, entry_at, expected_at}

positions-at : (queue : List Awaited) (k : ℕ) (d : Awaited) (e : ℕ) → k < length queue → get_or (map (λ (a : Awaited). a.position) queue) k e ≡ (get_or queue k d).position
positions-at [] k d e lt = absurd (omega arith)
positions-at (a ∷ queue) zero d e lt = refl
positions-at (a ∷ queue) (suc k) d e lt = positions-at queue k d e (omega arith)

found : (queue : List Awaited) (i p : ℕ) → position_at queue i ≡ Some p → (a : Awaited) × ((get_or queue i a).position ≡ p)
found [] i p there = absurd cc
found (a ∷ queue) zero p there = (a, cc)
found (a ∷ queue) (suc i) p there = let at = found queue i p there in (at.0, at.1)

-- The first n entries of a queue, whose entry at i is to be taken, were moved to the others.
pub record IsMoved (before : Kinds) (queue : List Awaited) (i p n : ℕ) (others : Kinds) (rest : List Awaited) : Type 0 where
  pub kept : IsInOrder before queue
  pub there : position_at queue i ≡ Some p
  pub most : n ≤ i
  pub others_are : others ≡ with_queue before (take n queue)
  pub rest_is : rest ≡ drop n queue

module _ {before : Kinds} {queue : List Awaited} {i p n : ℕ} {others : Kinds} {rest : List Awaited} (moved : IsMoved before queue i p n others rest) where
  pub is_moved-order : IsInOrder others rest
  is_moved-order = after_move-in_order before queue moved.kept i p moved.there n moved.most others rest moved.others_are moved.rest_is

  pub is_moved-there : position_at rest (i - n) ≡ Some p
  is_moved-there = after_move-there before queue moved.kept i p moved.there n moved.most others rest moved.others_are moved.rest_is

  pub is_moved-view : with_queue others rest ≡ with_queue before queue
  is_moved-view = after_move before queue moved.kept i p moved.there n moved.most others rest moved.others_are moved.rest_is

  within : i < length queue
  within = entry_at queue i p moved.there

  abbrev positions : List ℕ
  positions = map (λ (a : Awaited). a.position) (take n queue)

  len : length positions ≡ n
  len = length-map (take n queue) (λ (a : Awaited). a.position) ∙ length-take-le n queue (omega (arith, within, moved.most))

  -- the entry to be taken, for the places at which none is
  last : (a : Awaited) × ((get_or queue i a).position ≡ p)
  last = found queue i p moved.there

  last-position : (get_or queue i last.0).position ≡ p
  last-position = last.1

  -- the position at a place among those that were moved
  at : (k e : ℕ) → k < n → get_or positions k e ≡ (get_or queue k last.0).position
  at k e lt =
      positions-at (take n queue) k last.0 e (omega (arith, lt, length-take-le n queue (omega (arith, within, moved.most))))
      ∙ ap (λ (a : Awaited). a.position) (get_or-take n queue k last.0 lt)

  -- each that was moved is a step
  pub some_passed : (old new : ℕ) → new ≤ old + 2 + n → TakeCost (with_queue before queue) p old new
  some_passed old new le = record {
    passed = positions;
    ascending = λ j k e lt in'.
        let rise = moved.kept.ascending j k last.0 lt (omega (arith, in', len, within, moved.most)) in
        omega (arith, rise, at j e (omega (arith, lt, in', len)), at k e (omega (arith, in', len)));
    earlier = λ k e lt.
        let rise = moved.kept.ascending k i last.0 (omega (arith, lt, len, moved.most)) within in
        omega (arith, rise, at k e (omega (arith, lt, len)), last-position);
    are_expected = λ k e lt.
        rw (at k e (omega (arith, lt, len))) (expected_at before queue moved.kept k last.0 (omega (arith, lt, len, within, moved.most)));
    steps = omega (arith, le, len);
  }

-- nothing is passed over
pub none_passed : (expected : Kinds) (p old new : ℕ) → new ≤ old + 2 → TakeCost expected p old new
none_passed expected p old new le = record {
  passed = [];
  ascending = λ j k e lt in'. absurd (omega (arith, in'));
  earlier = λ k e lt. absurd (omega (arith, lt));
  are_expected = λ k e lt. absurd (omega (arith, lt));
  steps = omega (arith, le);
}
