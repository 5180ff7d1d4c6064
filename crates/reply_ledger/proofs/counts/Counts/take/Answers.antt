use Rattle.std.proofs.Common.{◌≡◌, ◌-◌, ◌≤◌, Some, None, cond, ap, sym, ◌∙◌, arith, rules, nat_cmp, is_some}
use Rattle.std.specs.BTreeMap.{is_at}
use Rattle.std.specs.FinMap as map
use Rattle.std.proofs.lemmas.Map.Steps.{set_value_same}
use Rattle.reply_ledger.specs.Owed.{left_in}
use Rattle.reply_ledger.proofs.Counting.{with_count-some, with_count-none}
use Rattle.byte_lists.proofs.NumberMaps.{at, get_at, one_given, one_taken}
use Rattle.reply_ledger.proofs.counts.Counts.take.Goals as goal

absent : (c : goal.After-self-in-None-1) → map.get c.args.self.now c.args.serial ≡ None
absent c = ap (λ m. map.get m c.args.serial) (sym c.self.view_is) ∙ get_at c.self.inside.counts.entries c.args.serial ∙ sym c.in-None.ensures.value

pub returns-in-None-clause-was : goal.returns-in-None-clause-was
returns-in-None-clause-was c = ap is_some (sym (absent c))

pub returns-in-None-clause-left : goal.returns-in-None-clause-left
returns-in-None-clause-left c =
    ap (λ m. map.from_entries m.entries) c.get_mut.follows.holds-at-none ∙ c.self.view_is ∙ ap (left_in c.args.self.now c.args.serial) (sym (absent c))

there : (c : goal.After-self-in-Some-1) → map.get c.args.self.now c.args.serial ≡ Some c.in-Some.count.now
there c = ap (λ m. map.get m c.args.serial) (sym c.self.view_is) ∙ get_at c.self.inside.counts.entries c.args.serial ∙ sym c.in-Some.ensures.value

pub returns-in-Some-clause-was : goal.returns-in-Some-clause-was
returns-in-Some-clause-was c = ap is_some (sym (there c))

pub returns-in-Some-clause-left : goal.returns-in-Some-clause-left
returns-in-Some-clause-left c =
    let some : 1 ≤ c.in-Some.count.now - 1 = omega arith in
    one_given c.self.inside.counts.entries (c.get_mut.follows.lender (c.in-Some.count.now - 1)).entries c.args.serial (c.in-Some.count.now - 1)
    (λ q. ((c.get_mut.follows.holds (c.in-Some.count.now - 1)).3 (search rules)).0 q)
    ∙ ap (λ m. map.insert m c.args.serial (c.in-Some.count.now - 1)) c.self.view_is
    ∙ sym (with_count-some c.args.self.now c.args.serial (c.in-Some.count.now - 1) some)
    ∙ ap (left_in c.args.self.now c.args.serial) (sym (there c))

there-2 : (c : goal.After-remove) → map.get c.args.self.now c.args.serial ≡ Some c.in-Some.count.now
there-2 c = ap (λ m. map.get m c.args.serial) (sym c.self.view_is) ∙ get_at c.self.inside.counts.entries c.args.serial ∙ sym c.in-Some.ensures.value

pub returns-in-Some-2-clause-was : goal.returns-in-Some-2-clause-was
returns-in-Some-2-clause-was c = ap is_some (sym (there-2 c))

pub returns-in-Some-2-clause-left : goal.returns-in-Some-2-clause-left
returns-in-Some-2-clause-left c =
    let read = c.in-Some.count.now in
    let none : read - 1 ≤ 0 = omega arith in
    let same : (c.get_mut.follows.lender read).entries ≡ c.self.inside.counts.entries =
    (c.get_mut.follows.holds read).0 ∙ set_value_same (is_at (nat_cmp c.args.serial)) c.self.inside.counts.entries read (sym c.in-Some.ensures.value) in
    one_taken c.self.inside.counts.entries c.remove.new.self.entries c.args.serial
    (λ q. c.remove.ensures.updates.0 q ∙ ap (λ es. cond (is_at (nat_cmp c.args.serial) q) None (at es q)) same)
    ∙ ap (λ m. map.remove m c.args.serial) c.self.view_is
    ∙ sym (with_count-none c.args.self.now c.args.serial (read - 1) none)
    ∙ ap (left_in c.args.self.now c.args.serial) (sym (there-2 c))
