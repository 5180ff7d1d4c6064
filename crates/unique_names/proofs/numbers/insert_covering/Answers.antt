use Rattle.std.proofs.Common.{◌≡◌, ◌≤◌, ◌+◌, true, [], ap, sym, subst, List, ℕ, ◌∙◌, arith, vec_len, vec_capacity}
use Rattle.name_patterns.specs.Ranks.{elements}
use Rattle.unique_names.specs.Inserted.{ascends_from, missing_in, with_number, with_numbers}
use Rattle.unique_names.specs.Merged.{look_ups}
use Rattle.unique_names.proofs.Ascending.{is-least, one-more, rest-ascends, room-left, weaker, with-ascends}
use Rattle.unique_names.proofs.Merging.{merged-ascends}
use Rattle.unique_names.proofs.Walks.{one-found}
use Rattle.unique_names.proofs.numbers.insert_covering.Goals as goal

pub loop-number-init : goal.loop-number-init
loop-number-init g c =
    let same = c.covering-entries.ensures.numbers in
    record {
      named = c.covering-entries.ensures.name;
      ascending = c.requires.ascending;
      later = subst (λ (ns : List ℕ). ascends_from 1 ns ≡ true) (sym same) (merged-ascends c.args.name.now 1 c.args.policy.now.entries []);
      room = subst (λ (ns : List ℕ). vec_len c.args.numbers.now + missing_in c.args.numbers.now.items ns ≤ vec_capacity c.args.numbers.now) (sym same) c.requires.room;
      inserted = ap (λ ns. with_numbers ns c.args.numbers.now.items) same;
      cost = omega (arith, ap (look_ups c.args.name.now) same);
    }

pub loop-number-preserved : goal.loop-number-preserved
loop-number-preserved g c =
    let known = c.loop-number.numbers.items in
    let ns = c.loop-number.entries.numbers in
    let rest = c.next_counted.new.self.numbers in
    let n = c.in-Some.number in
    let kept = c.loop-number.invariant in
    let gives = c.in-Some.ensures.gives in
    let now = c.insert.ensures.items in
    record {
      named = c.in-Some.ensures.name ∙ kept.named;
      ascending = subst (λ (xs : List ℕ). ascends_from 1 xs ≡ true) (sym now) (with-ascends 1 n known (is-least 1 known ns rest n gives kept.later) kept.ascending);
      later = weaker 1 (1 + 1) rest (omega arith) (rest-ascends 1 known ns rest n gives kept.later);
      room =
          let left = room-left 1 known ns rest n gives kept.later (vec_len c.loop-number.numbers) (vec_capacity c.loop-number.numbers) kept.room in
          let missing : missing_in c.insert.new.numbers.items rest ≡ missing_in (with_number n known) rest = ap (λ xs. missing_in xs rest) now in
          let len = c.insert.ensures.len in
          let cap = c.insert.ensures.capacity in
          omega (arith, left, missing, len, cap);
      inserted = ap (with_numbers rest) now ∙ one-more 1 known ns rest n gives kept.later _ kept.inserted;
      cost = omega (arith, kept.cost, c.in-Some.ensures.cost, ap elements kept.named, one-found c.args.name.now ns n rest gives);
    }
