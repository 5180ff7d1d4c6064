-- A queue of answers that are expected, and the others.
use Rattle.std.proofs.Common.{◌≡◌, ◌≢◌, ◌≤◌, ◌<◌, ◌+◌, ◌-◌, ◌↔◌, ℕ, zero, suc, IsTrue, nat_lt, Option, Some, None, IsSome, is_some, IfSome, IfNone, Result, Ok, Err, List, [], ◌∷◌, ◌++◌, All, length, get_or, set, take, drop, refl, ap, ap₂, sym, subst, ◌∙◌, arith, inl, inr}
use Rattle.std.specs.List.{remove}
use Rattle.std.specs.List.Sorted.{IsSearchInRange, IsBinarySearchResult, IsNonDecreasingBy}
use Rattle.std.specs.Option.{option_map}
use Rattle.std.specs.Result.{result_ok}
use Rattle.std.specs.Ordering.{nat_cmp, ordering_index}
use Rattle.std.specs.FinMap as map
use Rattle.std.specs.FinMap.{get, insert}
use Rattle.std.proofs.Math.Seq.{drop-cons}
use Rattle.std.proofs.lemmas.Bool.{cases_eq, cases_lt}
use Rattle.std.proofs.lemmas.Bool.Decides.{nat_tests}
use Rattle.std.proofs.lemmas.Cmp.{ranked}
use Rattle.std.proofs.lemmas.List.{get_or-take, get_or-drop, get_or-set_other, get_or-set_same, length-take-le, length-drop, length-set, set_split, take-append-drop, get_or_read}
use Rattle.std.proofs.lemmas.List.Elements.{All-head, All-tail, All-append, All-take, All-drop}
use Rattle.std.proofs.lemmas.List.Quantifiers.{all_pairs_remove}
use Rattle.reply_ledger.specs.declared.kind.Kind.{Kind}
use Rattle.reply_ledger.specs.declared.expected.Awaited.{Awaited}
use Rattle.reply_ledger.specs.Expected.{IsAbsent, IsAscending, IsInOrder, Kinds, position_at, with_queue}
use Rattle.reply_ledger.proofs.Maps.{again, at_other, at_out_other, at_self, out_swapped, put_out, swapped}

-- ---- the entries one after another

absent-first : (a : Awaited) (queue : List Awaited) (p : ℕ) → IsAbsent (a ∷ queue) p → a.position ≢ p
absent-first a queue p absent = All-head (λ b. b.position ≢ p) a queue absent

absent-rest : (a : Awaited) (queue : List Awaited) (p : ℕ) → IsAbsent (a ∷ queue) p → IsAbsent queue p
absent-rest a queue p absent = All-tail (λ b. b.position ≢ p) a queue absent

with_queue-append : (m : Kinds) (front behind : List Awaited) → with_queue m (front ++ behind) ≡ with_queue (with_queue m front) behind
with_queue-append m [] behind = refl
with_queue-append m (a ∷ front) behind = with_queue-append (insert m a.position a.kind) front behind

pub with_queue-get : (m : Kinds) (queue : List Awaited) (p : ℕ) → IsAbsent queue p → get (with_queue m queue) p ≡ get m p
with_queue-get m [] p absent = refl
with_queue-get m (a ∷ queue) p absent =
    with_queue-get (insert m a.position a.kind) queue p (absent-rest a queue p absent) ∙ at_other m p a.position a.kind (λ same. absent-first a queue p absent (sym same))

pub with_queue-insert : (m : Kinds) (queue : List Awaited) (p : ℕ) (v : Kind) → IsAbsent queue p → with_queue (insert m p v) queue ≡ insert (with_queue m queue) p v
with_queue-insert m [] p v absent = refl
with_queue-insert m (a ∷ queue) p v absent =
    ap (λ n. with_queue n queue) (sym (swapped m a.position a.kind p v (absent-first a queue p absent)))
    ∙ with_queue-insert (insert m a.position a.kind) queue p v (absent-rest a queue p absent)

pub with_queue-remove : (m : Kinds) (queue : List Awaited) (p : ℕ) → IsAbsent queue p → with_queue (map.remove m p) queue ≡ map.remove (with_queue m queue) p
with_queue-remove m [] p absent = refl
with_queue-remove m (a ∷ queue) p absent =
    ap (λ n. with_queue n queue) (out_swapped m p a.position a.kind (λ same. absent-first a queue p absent (sym same)))
    ∙ with_queue-remove (insert m a.position a.kind) queue p (absent-rest a queue p absent)

-- ---- the index of a position

module _ (queue : List Awaited) (p : ℕ) where
  positions_rise : IsAscending queue → IsNonDecreasingBy (λ a. ordering_index (nat_cmp a.position p)) queue
  positions_rise ascending i j d le lt =
      let rise : (get_or queue i d).position ≤ (get_or queue j d).position =
      grind (arith, ascending i j d, λ (same : i ≡ j). ap (λ k. (get_or queue k d).position) same) in
      grind (arith, nat_tests)

  -- a binary search by the positions ends at the position, or none of the queue has it
  pub searched : (r : Result ℕ ℕ) → IsSearchInRange r (length queue) → IsBinarySearchResult (λ a. nat_cmp a.position p) queue r →
      IfSome (result_ok r) (λ i. position_at queue i ≡ Some p) × IfNone (result_ok r) (IsAscending queue → IsAbsent queue p)
  searched (Ok i) within equal = (there queue i within (λ d. ranked _ p _ (sym (equal d))), tt)
    where
      there : (q : List Awaited) (k : ℕ) → k < length q → ((d : Awaited) → (get_or q k d).position ≡ p) → position_at q k ≡ Some p
      there [] k lt is = absurd (omega arith)
      there (a ∷ q) zero lt is = ap Some (is a)
      there (a ∷ q) (suc k) lt is = there q k (omega arith) (λ d. is d)
  searched (Err i) within parted = (
    tt,
    λ ascending k d lt same.
        let halves = parted (positions_rise ascending) in
        elim (cases_lt k i) [
          | inl below ↦ let less : (get_or queue k d).position < p = ranked _ p _ (sym (halves.0 k d (omega arith) below)) in omega arith
          | inr above ↦ let greater : p < (get_or queue k d).position = ranked _ p _ (sym (halves.1 k d above lt)) in omega arith
        ],
  )

-- a position above the last is above all
pub above_last : (queue : List Awaited) (n : ℕ) (last : Awaited) (p : ℕ) → n ≡ length queue → 0 < n → last ≡ get_or queue (n - 1) last → IsAscending queue →
    IsTrue (nat_lt last.position p) ↔ All (λ a. a.position < p) queue
above_last queue n last p len some is ascending =
    let read : (d : Awaited) → last.position ≡ (get_or queue (n - 1) d).position = λ d. ap (λ (a : Awaited). a.position) (get_or_read queue (n - 1) last (omega arith) is d) in (
      λ above k d lt.
          let rise = ascending k (n - 1) d in
          let same : k ≡ n - 1 → (get_or queue k d).position ≡ (get_or queue (n - 1) d).position = λ e. ap (λ j. (get_or queue j d).position) e in
          grind (arith, nat_tests, rise, same, read d),
      λ all. let lt = all (n - 1) last (omega arith) in grind (arith, nat_tests, lt, read last),
    )

-- the entry at an index has the position
record IsEntry (queue : List Awaited) (i p : ℕ) (a : Awaited) : Type 0 where
  within : i < length queue
  is : a ≡ get_or queue i a
  position : a.position ≡ p

entry_of : (queue : List Awaited) (i p : ℕ) → position_at queue i ≡ Some p → (a : Awaited) × IsEntry queue i p a
entry_of [] i p there = absurd cc
entry_of (a ∷ queue) zero p there = (a, record { within = omega arith; is = refl; position = cc })
entry_of (a ∷ queue) (suc i) p there = let at = entry_of queue i p there in (at.0, record { within = let lt = at.1.within in omega arith; is = at.1.is; position = at.1.position })

pub entry_at : (queue : List Awaited) (i p : ℕ) → position_at queue i ≡ Some p → i < length queue
entry_at queue i p there = let at = entry_of queue i p there in at.1.within

pub entry_is : (queue : List Awaited) (i p : ℕ) (a : Awaited) → position_at queue i ≡ Some p → a ≡ get_or queue i a → a.position ≡ p
entry_is queue i p a there is =
    let at = entry_of queue i p there in
    ap (λ (b : Awaited). b.position) (is ∙ sym (get_or_read queue i at.0 at.1.within at.1.is a)) ∙ at.1.position

-- ---- the entry at an index

module _ (m : Kinds) (queue : List Awaited) (kept : IsInOrder m queue) (i : ℕ) (a : Awaited) (within : i < length queue) (is : a ≡ get_or queue i a) where
  read : (d : Awaited) → a.position ≡ (get_or queue i d).position
  read d = ap (λ (b : Awaited). b.position) (get_or_read queue i a within is d)

  absent-before : IsAbsent (take i queue) a.position
  absent-before k d lt same =
      let len : length (take i queue) ≡ i = length-take-le i queue (omega arith) in
      let below = kept.ascending k i d (omega arith) within in
      let there : (get_or (take i queue) k d).position ≡ (get_or queue k d).position = ap (λ (b : Awaited). b.position) (get_or-take i queue k d (omega arith)) in
      omega (arith, read d)

  absent-behind : IsAbsent (drop (suc i) queue) a.position
  absent-behind k d lt same =
      let len : length (drop (suc i) queue) ≡ length queue - suc i = length-drop (suc i) queue in
      let above = kept.ascending i (suc i + k) d (omega arith) (omega arith) in
      let there : (get_or (drop (suc i) queue) k d).position ≡ (get_or queue (suc i + k) d).position = ap (λ (b : Awaited). b.position) (get_or-drop (suc i) queue k d) in
      omega (arith, read d)

  none-before : get (with_queue m (take i queue)) a.position ≡ None
  none-before = with_queue-get m (take i queue) a.position absent-before ∙ ap (λ (p : ℕ). get m p) (read a) ∙ kept.apart i a within

  parts : with_queue m queue ≡ with_queue (insert (with_queue m (take i queue)) a.position a.kind) (drop (suc i) queue)
  parts =
      ap (with_queue m) (sym (take-append-drop i queue) ∙ ap (λ rest. take i queue ++ rest) (drop-cons queue i a within ∙ ap (λ b. b ∷ drop (suc i) queue) (sym is)))
      ∙ with_queue-append m (take i queue) (a ∷ drop (suc i) queue)

  pub kind_at : get (with_queue m queue) a.position ≡ Some a.kind
  kind_at = ap (λ (n : Kinds). get n a.position) parts ∙ with_queue-get _ (drop (suc i) queue) a.position absent-behind ∙ at_self _ a.position a.kind

  -- without the entry
  pub removed_at : with_queue m (remove queue i) ≡ map.remove (with_queue m queue) a.position
  removed_at =
      with_queue-append m (take i queue) (drop (suc i) queue)
      ∙ ap (λ n. with_queue n (drop (suc i) queue)) (sym (put_out (with_queue m (take i queue)) a.position a.kind none-before))
      ∙ with_queue-remove (insert (with_queue m (take i queue)) a.position a.kind) (drop (suc i) queue) a.position absent-behind
      ∙ ap (λ (n : Kinds). map.remove n a.position) (sym parts)

  pub removed_at-in_order : IsInOrder m (remove queue i)
  removed_at-in_order = record {
    ascending = all_pairs_remove (λ b c. b.position < c.position) queue i within kept.ascending;
    apart =
        let P : Awaited → Type 0 = λ b. get m b.position ≡ None in
        All-append P (take i queue) (drop (suc i) queue) (All-take P i queue kept.apart) (All-drop P (suc i) queue kept.apart);
  }

  -- with another kind in the entry
  module _ (b : Awaited) (same : b.position ≡ a.position) where
    pub replaced_at : with_queue m (set queue i b) ≡ insert (with_queue m queue) a.position b.kind
    replaced_at =
        ap (with_queue m) (set_split queue i b within) ∙ with_queue-append m (take i queue) (b ∷ drop (suc i) queue)
        ∙ ap (λ n. with_queue n (drop (suc i) queue))
        (ap (λ p. insert (with_queue m (take i queue)) p b.kind) same ∙ sym (again (with_queue m (take i queue)) a.position a.kind b.kind))
        ∙ with_queue-insert (insert (with_queue m (take i queue)) a.position a.kind) (drop (suc i) queue) a.position b.kind absent-behind
        ∙ ap (λ (n : Kinds). insert n a.position b.kind) (sym parts)

    same_positions : (k : ℕ) (d : Awaited) → (get_or (set queue i b) k d).position ≡ (get_or queue k d).position
    same_positions k d = elim (cases_eq k i) [
      | inl here ↦
          ap (λ j. (get_or (set queue i b) j d).position) here ∙ ap (λ (c : Awaited). c.position) (get_or-set_same queue i b d within) ∙ same ∙ read d
          ∙ ap (λ j. (get_or queue j d).position) (sym here)
      | inr other ↦ ap (λ (c : Awaited). c.position) (get_or-set_other queue i k b d other)
    ]

    pub replaced_at-in_order : IsInOrder m (set queue i b)
    replaced_at-in_order = record {
      ascending = λ j k d lt in'.
          let len : length (set queue i b) ≡ length queue = length-set queue i b in
          let rise = kept.ascending j k d lt (omega arith) in
          omega (arith, same_positions j d, same_positions k d);
      apart = λ k d lt.
          let len : length (set queue i b) ≡ length queue = length-set queue i b in
          ap (λ (p : ℕ). get m p) (same_positions k d) ∙ kept.apart k d (omega arith);
    }

-- each entry's answer is expected
there_is : (queue : List Awaited) (k : ℕ) → k < length queue → (a : Awaited) × (a ≡ get_or queue k a)
there_is [] k lt = absurd (omega arith)
there_is (a ∷ queue) zero lt = (a, refl)
there_is (a ∷ queue) (suc k) lt = let at = there_is queue k (omega arith) in (at.0, at.1)

pub expected_at : (m : Kinds) (queue : List Awaited) → IsInOrder m queue → (k : ℕ) (d : Awaited) → k < length queue → IsSome (get (with_queue m queue) (get_or queue k d).position)
expected_at m queue kept k d lt =
    let at = there_is queue k lt in
    subst (λ (a : Awaited). IsSome (get (with_queue m queue) a.position)) (get_or_read queue k at.0 lt at.1 d) (ap is_some (kind_at m queue kept k at.0 lt at.1))

-- the entry at an index is taken out
module _ (m : Kinds) (queue : List Awaited) (kept : IsInOrder m queue) (i p : ℕ) (there : position_at queue i ≡ Some p) where
  pub taken_at-in_order : IsInOrder m (remove queue i)
  taken_at-in_order = let at = entry_of queue i p there in removed_at-in_order m queue kept i at.0 at.1.within at.1.is

  pub taken_at : with_queue m (remove queue i) ≡ map.remove (with_queue m queue) p
  taken_at = let at = entry_of queue i p there in removed_at m queue kept i at.0 at.1.within at.1.is ∙ ap (map.remove (with_queue m queue)) at.1.position

  pub taken_kind : (entry : Option Awaited) → ((d : Awaited) → entry ≡ Some (get_or queue i d)) → option_map (λ a. a.kind) entry ≡ get (with_queue m queue) p
  taken_kind entry read =
      let at = entry_of queue i p there in
      ap (option_map (λ a. a.kind)) (read at.0) ∙ ap (λ (a : Awaited). Some a.kind) (sym at.1.is) ∙ sym (kind_at m queue kept i at.0 at.1.within at.1.is)
      ∙ ap (get (with_queue m queue)) at.1.position

-- the entry at an index is replaced
module _ (m : Kinds) (queue : List Awaited) (kept : IsInOrder m queue) (i p : ℕ) (there : position_at queue i ≡ Some p) (v : Kind) where
  pub replaced : with_queue m (set queue i (record { position = p; kind = v })) ≡ insert (with_queue m queue) p v
  replaced =
      let at = entry_of queue i p there in
      replaced_at m queue kept i at.0 at.1.within at.1.is (record { position = p; kind = v }) (sym at.1.position) ∙ ap (λ (q : ℕ). insert (with_queue m queue) q v) at.1.position

  pub replaced-in_order : IsInOrder m (set queue i (record { position = p; kind = v }))
  replaced-in_order =
      let at = entry_of queue i p there in replaced_at-in_order m queue kept i at.0 at.1.within at.1.is (record { position = p; kind = v }) (sym at.1.position)

-- ---- one entry more

pub pushed : (m : Kinds) (queue : List Awaited) (a : Awaited) → with_queue m (queue ++ a ∷ []) ≡ insert (with_queue m queue) a.position a.kind
pushed m queue a = with_queue-append m queue (a ∷ [])

-- ---- the others

pub others-absent : (m : Kinds) (queue : List Awaited) (p : ℕ) (v : Kind) → IsInOrder m queue → get m p ≡ Some v → IsAbsent queue p
others-absent m queue p v kept is k d lt same =
    let none : get m (get_or queue k d).position ≡ None = kept.apart k d lt in
    let both : Some v ≡ None = sym is ∙ ap (λ (q : ℕ). get m q) (sym same) ∙ none in
    cc

pub inserted-in_order : (m : Kinds) (queue : List Awaited) (p : ℕ) (v : Kind) → IsInOrder m queue → IsAbsent queue p → IsInOrder (insert m p v) queue
inserted-in_order m queue p v kept absent = record {
  ascending = kept.ascending;
  apart = λ k d lt. at_other m (get_or queue k d).position p v (absent k d lt) ∙ kept.apart k d lt;
}

pub taken-in_order : (m : Kinds) (queue : List Awaited) (p : ℕ) → IsInOrder m queue → IsAbsent queue p → IsInOrder (map.remove m p) queue
taken-in_order m queue p kept absent = record {
  ascending = kept.ascending;
  apart = λ k d lt. at_out_other m (get_or queue k d).position p (absent k d lt) ∙ kept.apart k d lt;
}

-- ---- the first entries moved to the others

pub moved : (m : Kinds) (queue : List Awaited) (n : ℕ) → with_queue (with_queue m (take n queue)) (drop n queue) ≡ with_queue m queue
moved m queue n = sym (with_queue-append m (take n queue) (drop n queue)) ∙ ap (with_queue m) (take-append-drop n queue)

first_moved-in_order : (m : Kinds) (a : Awaited) (queue : List Awaited) → IsInOrder m (a ∷ queue) → IsInOrder (insert m a.position a.kind) queue
first_moved-in_order m a queue kept = record {
  ascending = λ i j d lt in'. kept.ascending (suc i) (suc j) d (omega arith) (omega arith);
  apart = λ k d lt.
      let above : a.position < (get_or queue k d).position = kept.ascending zero (suc k) d (omega arith) (omega arith) in
      at_other m (get_or queue k d).position a.position a.kind (λ same. omega arith) ∙ kept.apart (suc k) d (omega arith);
}

pub moved-in_order : (m : Kinds) (queue : List Awaited) (n : ℕ) → IsInOrder m queue → IsInOrder (with_queue m (take n queue)) (drop n queue)
moved-in_order m queue zero kept = kept
moved-in_order m [] (suc n) kept = kept
moved-in_order m (a ∷ queue) (suc n) kept = moved-in_order (insert m a.position a.kind) queue n (first_moved-in_order m a queue kept)

next_moved : (m : Kinds) (queue : List Awaited) (n : ℕ) → with_queue (with_queue m (take n queue)) (take 1 (drop n queue)) ≡ with_queue m (take (suc n) queue)
next_moved m [] zero = refl
next_moved m (a ∷ queue) zero = refl
next_moved m [] (suc n) = refl
next_moved m (a ∷ queue) (suc n) = next_moved (insert m a.position a.kind) queue n

pub moved_more : (m : Kinds) (queue : List Awaited) (n : ℕ) → with_queue (with_queue m (take n queue)) (take 1 (drop n queue)) ≡ with_queue m (take (n + 1) queue)
moved_more m queue n = let more : suc n ≡ n + 1 = omega arith in next_moved m queue n ∙ ap (λ k. with_queue m (take k queue)) more

-- an entry after those that were moved keeps its position
pub moved-position : (queue : List Awaited) (n i : ℕ) → n ≤ i → position_at (drop n queue) (i - n) ≡ position_at queue i
moved-position queue zero i le = ap (position_at queue) (omega arith)
moved-position [] (suc n) i le = nothing (i - suc n) ∙ sym (nothing i)
  where
    nothing : (k : ℕ) → position_at [] k ≡ None
    nothing k = refl
moved-position (a ∷ queue) (suc n) zero le = absurd (omega arith)
moved-position (a ∷ queue) (suc n) (suc i) le = ap (position_at (drop n queue)) (omega arith) ∙ moved-position queue n i (omega arith)

module _ (m : Kinds) (queue : List Awaited) (kept : IsInOrder m queue) (i p : ℕ) (there : position_at queue i ≡ Some p) (n : ℕ) (le : n ≤ i)
    (others : Kinds) (rest : List Awaited) (others_are : others ≡ with_queue m (take n queue)) (rest_is : rest ≡ drop n queue) where
  pub after_move-in_order : IsInOrder others rest
  after_move-in_order = rw (others_are, rest_is) (moved-in_order m queue n kept)

  pub after_move-there : position_at rest (i - n) ≡ Some p
  after_move-there = ap (λ q. position_at q (i - n)) rest_is ∙ moved-position queue n i le ∙ there

  pub after_move : with_queue others rest ≡ with_queue m queue
  after_move = ap₂ with_queue others_are rest_is ∙ moved m queue n
