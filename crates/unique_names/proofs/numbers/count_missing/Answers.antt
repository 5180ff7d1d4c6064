use Rattle.std.proofs.Common.{◌≡◌, ◌+◌, true, [], ap, sym, subst, List, ℕ, ◌∙◌, arith}
use Rattle.std.specs.Prelude.{is_err}
use Rattle.name_patterns.specs.Ranks.{elements}
use Rattle.unique_names.specs.Inserted.{ascends_from, missing_in}
use Rattle.unique_names.specs.Merged.{look_ups, merged_from}
use Rattle.unique_names.proofs.Ascending.{absent-if, count-absent, count-present, present-if, rest-ascends, weaker}
use Rattle.unique_names.proofs.Merging.{merged-ascends}
use Rattle.unique_names.proofs.Walks.{one-found}
use Rattle.unique_names.proofs.numbers.count_missing.Goals as goal

pub loop-number-init : goal.loop-number-init
loop-number-init g c =
    let same = c.covering-entries.ensures.numbers in
    record {
      named = c.covering-entries.ensures.name;
      ascending = subst (λ (ns : List ℕ). ascends_from 1 ns ≡ true) (sym same) (merged-ascends c.args.name.now 1 c.args.policy.now.entries []);
      counted = (let e : missing_in c.args.numbers.now c.covering-entries.result.numbers ≡ missing_in c.args.numbers.now (merged_from c.args.name.now 1 c.args.policy.now.entries []) = ap (missing_in c.args.numbers.now) same in omega arith);
      cost = omega (arith, ap (look_ups c.args.name.now) same);
    }

pub loop-number-preserved-then-is_err : goal.loop-number-preserved-then-is_err
loop-number-preserved-then-is_err g c =
    let known = c.args.numbers.now in
    let ns = c.loop-number.entries.numbers in
    let rest = c.next_counted.new.self.numbers in
    let n = c.in-Some.number in
    let kept = c.loop-number.invariant in
    let none = absent-if n known (ap is_err (sym c.place.ensures) ∙ sym c.is_err.ensures.value ∙ c.if-is_err.true) in
    record {
      named = c.in-Some.ensures.name ∙ kept.named;
      ascending = rest-ascends (c.loop-number.count + 1) known ns rest n c.in-Some.ensures.gives kept.ascending;
      counted = count-absent (c.loop-number.count + 1) known ns rest n c.in-Some.ensures.gives kept.ascending c.loop-number.count _ none kept.counted;
      cost = omega (arith, kept.cost, c.in-Some.ensures.cost, ap elements kept.named, one-found c.args.name.now ns n rest c.in-Some.ensures.gives);
    }

pub loop-number-preserved : goal.loop-number-preserved
loop-number-preserved g c =
    let known = c.args.numbers.now in
    let ns = c.loop-number.entries.numbers in
    let rest = c.next_counted.new.self.numbers in
    let n = c.in-Some.number in
    let kept = c.loop-number.invariant in
    let found = present-if n known (ap is_err (sym c.place.ensures) ∙ sym c.is_err.ensures.value ∙ c.if-is_err.false) in
    record {
      named = c.in-Some.ensures.name ∙ kept.named;
      ascending = weaker (c.loop-number.count + 1) (c.loop-number.count + 1 + 1) rest (omega arith) (rest-ascends (c.loop-number.count + 1) known ns rest n c.in-Some.ensures.gives kept.ascending);
      counted = count-present (c.loop-number.count + 1) known ns rest n c.in-Some.ensures.gives kept.ascending c.loop-number.count _ found kept.counted;
      cost = omega (arith, kept.cost, c.in-Some.ensures.cost, ap elements kept.named, one-found c.args.name.now ns n rest c.in-Some.ensures.gives);
    }
