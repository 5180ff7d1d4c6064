use Rattle.std.proofs.Common.{◌≡◌, Some, Result, Ok, Err, OnErr, ap, ap₂, sym, subst, ◌∙◌, rules, string_bytes, nat_cmp, unwrap_or}
use Rattle.std.specs.BTreeMap.{is_at}
use Rattle.std.specs.Cmp.Lexicographic.{slice_cmp}
use Rattle.std.specs.FinMap as map
use Rattle.std.proofs.lemmas.Map.Steps.{set_value_same}
use Rattle.std.proofs.lemmas.Map.Text.{btree_map_updates_text}
use Rattle.byte_lists.specs.TextMaps.{by_bytes}
use Rattle.reply_ledger.specs.Owed.{KeepsOwedAlone, Replies, calls_of, count_of, one_more_in}
use Rattle.reply_ledger.proofs.Counting.{first-all-kept, more-all-kept, more-counted}
use Rattle.byte_lists.proofs.TextMaps.{get_text, text_given}
use Rattle.reply_ledger.proofs.owed.Owed.add.Goals as goal

-- ---- a sender that has calls

refused-view : (c : goal.After-from_residual) → map.from_entries (by_bytes (c.get_mut.follows.lender c.add.new.self).entries) ≡ c.args.self.now
refused-view c =
    ap (λ w. map.from_entries (by_bytes (c.get_mut.follows.lender w).entries)) c.in_err-add.ensures.err
    ∙ ap (λ es. map.from_entries (by_bytes es))
    ((c.get_mut.follows.holds c.in-Some.calls.now).0
    ∙ set_value_same (is_at (λ k. slice_cmp nat_cmp c.args.sender.now (string_bytes k))) c.self.inside.senders.entries c.in-Some.calls.now (sym c.in-Some.ensures.value))
    ∙ c.self.view_is

pub invariant_of-self : goal.invariant_of-self
invariant_of-self c = subst (λ (owed : Replies). KeepsOwedAlone owed) (c.self.view_is ∙ sym (refused-view c)) c.self.invariant

pub returns-in_err-add-clause-kept : goal.returns-in_err-add-clause-kept
returns-in_err-add-clause-kept c = invariant_of-self c

on_err_always : {T E P : Type 0} (r : Result T E) → P → OnErr r P
on_err_always (Ok x) p = tt
on_err_always (Err e) p = p

pub returns-in_err-add-clause-err : goal.returns-in_err-add-clause-err
returns-in_err-add-clause-err c = on_err_always c.from_residual.result (refused-view c)

added-had : (c : goal.In_ok-add) → map.get c.args.self.now c.args.sender.now ≡ Some c.in-Some.calls.now
added-had c = ap (λ (o : Replies). map.get o c.args.sender.now) (sym c.self.view_is) ∙ get_text c.self.inside.senders.entries c.args.sender.now ∙ sym c.in-Some.ensures.value

added-view : (c : goal.In_ok-add) →
    map.from_entries (by_bytes (c.get_mut.follows.lender c.add.new.self).entries) ≡ map.insert c.args.self.now c.args.sender.now (one_more_in c.in-Some.calls.now c.args.serial)
added-view c =
    text_given c.self.inside.senders (c.get_mut.follows.lender c.add.new.self) c.args.sender.now c.add.new.self
    (λ q. btree_map_updates_text c.args.sender.now c.self.inside.senders (c.get_mut.follows.lender c.add.new.self) _ ((c.get_mut.follows.holds c.add.new.self).3 (search rules)) q)
    ∙ ap (λ w. map.insert (map.from_entries (by_bytes c.self.inside.senders.entries)) c.args.sender.now w) c.in_ok-add.ensures.ok
    ∙ ap (λ (o : Replies). map.insert o c.args.sender.now (one_more_in c.in-Some.calls.now c.args.serial)) c.self.view_is

pub invariant_of-self-in-Some : goal.invariant_of-self-in-Some
invariant_of-self-in-Some c =
    subst (λ (owed : Replies). KeepsOwedAlone owed) (sym (added-view c))
    (more-all-kept c.args.self.now c.args.sender.now c.args.serial c.in-Some.calls.now (added-had c) (subst (λ (owed : Replies). KeepsOwedAlone owed) c.self.view_is c.self.invariant))

pub returns-in-Some-clause-counted : goal.returns-in-Some-clause-counted
returns-in-Some-clause-counted c = λ s n.
    ap (λ (o : Replies). count_of o s n) (added-view c)
    ∙ more-counted c.args.self.now c.args.sender.now c.args.serial c.in-Some.calls.now (ap (λ o. unwrap_or o map.empty) (added-had c)) s n

pub returns-in-Some-clause-ok : goal.returns-in-Some-clause-ok
returns-in-Some-clause-ok c =
    added-view c
    ∙ ap (λ w. map.insert c.args.self.now c.args.sender.now (one_more_in w c.args.serial)) (sym (ap (λ o. unwrap_or o map.empty) (added-had c)))

pub returns-in-Some-clause-kept : goal.returns-in-Some-clause-kept
returns-in-Some-clause-kept c = invariant_of-self-in-Some c

-- ---- a sender that has none

first-view : (c : goal.Joined-branch-4) →
    map.from_entries (by_bytes c.insert.new.self.entries) ≡ map.insert c.args.self.now c.args.sender.now (one_more_in map.empty c.args.serial)
first-view c =
    text_given c.get_mut.follows.lender-at-none c.insert.new.self (string_bytes c.in_ok-sender.sender) c.one.result
    (λ q. btree_map_updates_text (string_bytes c.in_ok-sender.sender) c.get_mut.follows.lender-at-none c.insert.new.self _ c.in_ok-insert.ensures.updates q)
    ∙ ap₂ (λ m k. map.insert m k c.one.result) (ap (λ m. map.from_entries (by_bytes m.entries)) c.get_mut.follows.holds-at-none ∙ c.self.view_is) c.in_ok-sender.ensures.ok
    ∙ ap (λ w. map.insert c.args.self.now c.args.sender.now w) c.one.ensures

none-had : (c : goal.Joined-branch-4) → calls_of c.args.self.now c.args.sender.now ≡ map.empty
none-had c =
    ap (λ o. unwrap_or o map.empty)
    (ap (λ (o : Replies). map.get o c.args.sender.now) (sym c.self.view_is) ∙ get_text c.self.inside.senders.entries c.args.sender.now ∙ sym c.in_default.ensures.value)

pub invariant_of-self-2 : goal.invariant_of-self-2
invariant_of-self-2 c =
    subst (λ (owed : Replies). KeepsOwedAlone owed) (sym (first-view c))
    (first-all-kept c.args.self.now c.args.sender.now c.args.serial (subst (λ (owed : Replies). KeepsOwedAlone owed) c.self.view_is c.self.invariant))

pub returns-clause-counted : goal.returns-clause-counted
returns-clause-counted c = λ s n.
    ap (λ (o : Replies). count_of o s n) (first-view c)
    ∙ more-counted c.args.self.now c.args.sender.now c.args.serial map.empty (none-had c) s n

pub returns-clause-ok : goal.returns-clause-ok
returns-clause-ok c = first-view c ∙ ap (λ w. map.insert c.args.self.now c.args.sender.now (one_more_in w c.args.serial)) (sym (none-had c))

pub returns-clause-kept : goal.returns-clause-kept
returns-clause-kept c = invariant_of-self-2 c
