use Rattle.std.proofs.Common.{◌≡◌, nat_lt, Some, ap, sym, subst, ◌∙◌, rules, string_bytes, nat_cmp, unwrap_or}
use Rattle.std.specs.BTreeMap.{is_at}
use Rattle.std.specs.Cmp.Lexicographic.{slice_cmp}
use Rattle.std.specs.FinMap as map
use Rattle.std.proofs.lemmas.Bool.Decides.{Decides-ltb}
use Rattle.std.proofs.lemmas.Map.Steps.{set_value_same}
use Rattle.std.proofs.lemmas.Map.Text.{btree_map_updates_text}
use Rattle.byte_lists.specs.TextMaps.{by_bytes}
use Rattle.reply_ledger.specs.Owed.{KeepsOwedAlone, Replies, count_in, count_of, one_more_in}
use Rattle.reply_ledger.proofs.Counting.{absent-count, had-count, less-counted, none-count, none-less, only-count, out-kept, pair_out, put-kept}
use Rattle.reply_ledger.proofs.OneLess.{last-less, same-less, taken-less}
use Rattle.byte_lists.proofs.TextMaps.{get_text, text_given, text_taken}
use Rattle.reply_ledger.proofs.owed.Owed.answer.Goals as goal

-- ---- a sender that has no calls

absent : (c : goal.After-self-in_default-2-1) → count_of c.args.self.now c.args.sender.now c.args.serial ≡ 0
absent c =
    none-count c.args.self.now c.args.sender.now c.args.serial
    (ap (λ (o : Replies). map.get o c.args.sender.now) (sym c.self.view_is) ∙ get_text c.self.inside.senders.entries c.args.sender.now ∙ sym c.in_default.ensures.value)

pub returns-in_default-clause-was : goal.returns-in_default-clause-was
returns-in_default-clause-was c = ap (nat_lt 0) (sym (absent c))

pub returns-in_default-clause-counted : goal.returns-in_default-clause-counted
returns-in_default-clause-counted c = λ s n.
    ap (λ (o : Replies). count_of o s n) (ap (λ m. map.from_entries (by_bytes m.entries)) c.get_mut.follows.holds-at-none ∙ c.self.view_is)
    ∙ none-less c.args.self.now c.args.sender.now c.args.serial (absent c) s n

pub returns-in_default-clause-left : goal.returns-in_default-clause-left
returns-in_default-clause-left c =
    ap (λ m. map.from_entries (by_bytes m.entries)) c.get_mut.follows.holds-at-none ∙ c.self.view_is
    ∙ same-less c.args.self.now c.args.sender.now c.args.serial (absent c)

-- ---- none was owed

unowed-view : (c : goal.In-NotOwed) → map.from_entries (by_bytes (c.get_mut.follows.lender c.answer.new.self).entries) ≡ c.args.self.now
unowed-view c =
    ap (λ w. map.from_entries (by_bytes (c.get_mut.follows.lender w).entries)) c.in-NotOwed.ensures.answered.1
    ∙ ap (λ es. map.from_entries (by_bytes es))
    ((c.get_mut.follows.holds c.in-Some.calls.now).0
    ∙ set_value_same (is_at (λ k. slice_cmp nat_cmp c.args.sender.now (string_bytes k))) c.self.inside.senders.entries c.in-Some.calls.now (sym c.in-Some.ensures.value))
    ∙ c.self.view_is

unowed : (c : goal.In-NotOwed) → count_of c.args.self.now c.args.sender.now c.args.serial ≡ 0
unowed c =
    absent-count c.args.self.now c.args.sender.now c.args.serial c.in-Some.calls.now
    (ap (λ (o : Replies). map.get o c.args.sender.now) (sym c.self.view_is) ∙ get_text c.self.inside.senders.entries c.args.sender.now ∙ sym c.in-Some.ensures.value)
    c.in-NotOwed.ensures.answered.0

pub invariant_of-self-in-NotOwed : goal.invariant_of-self-in-NotOwed
invariant_of-self-in-NotOwed c = subst (λ (owed : Replies). KeepsOwedAlone owed) (c.self.view_is ∙ sym (unowed-view c)) c.self.invariant

pub returns-in-NotOwed-clause-was : goal.returns-in-NotOwed-clause-was
returns-in-NotOwed-clause-was c = ap (nat_lt 0) (sym (unowed c))

pub returns-in-NotOwed-clause-counted : goal.returns-in-NotOwed-clause-counted
returns-in-NotOwed-clause-counted c = λ s n.
    ap (λ (o : Replies). count_of o s n) (unowed-view c) ∙ none-less c.args.self.now c.args.sender.now c.args.serial (unowed c) s n

pub returns-in-NotOwed-clause-left : goal.returns-in-NotOwed-clause-left
returns-in-NotOwed-clause-left c = unowed-view c ∙ same-less c.args.self.now c.args.sender.now c.args.serial (unowed c)

pub returns-in-NotOwed-clause-kept : goal.returns-in-NotOwed-clause-kept
returns-in-NotOwed-clause-kept c = invariant_of-self-in-NotOwed c

pub returns-in-NotOwed-clause-unchanged : goal.returns-in-NotOwed-clause-unchanged
returns-in-NotOwed-clause-unchanged c = λ _. unowed-view c

-- ---- others are owed to the sender, too

taken-had : (c : goal.In-Taken) → map.get c.args.self.now c.args.sender.now ≡ Some c.in-Some.calls.now
taken-had c = ap (λ (o : Replies). map.get o c.args.sender.now) (sym c.self.view_is) ∙ get_text c.self.inside.senders.entries c.args.sender.now ∙ sym c.in-Some.ensures.value

taken-put : (c : goal.In-Taken) → map.from_entries (by_bytes (c.get_mut.follows.lender c.answer.new.self).entries) ≡ map.insert c.args.self.now c.args.sender.now c.answer.new.self
taken-put c =
    text_given c.self.inside.senders (c.get_mut.follows.lender c.answer.new.self) c.args.sender.now c.answer.new.self
    (λ q. btree_map_updates_text c.args.sender.now c.self.inside.senders (c.get_mut.follows.lender c.answer.new.self) _ ((c.get_mut.follows.holds c.answer.new.self).3 (search rules)) q)
    ∙ ap (λ (o : Replies). map.insert o c.args.sender.now c.answer.new.self) c.self.view_is

pub invariant_of-self-in-Taken : goal.invariant_of-self-in-Taken
invariant_of-self-in-Taken c =
    subst (λ (owed : Replies). KeepsOwedAlone owed) (sym (taken-put c))
    (put-kept c.args.self.now c.args.sender.now c.answer.new.self c.in-Taken.ensures.kept (subst (λ (owed : Replies). KeepsOwedAlone owed) c.self.view_is c.self.invariant))

pub returns-in-Taken-clause-was : goal.returns-in-Taken-clause-was
returns-in-Taken-clause-was c =
    sym (ap (nat_lt 0) (had-count c.args.self.now c.args.sender.now c.args.serial c.in-Some.calls.now (taken-had c))
    ∙ (Decides-ltb 0 (count_in c.in-Some.calls.now c.args.serial)).1 c.in-Taken.ensures.answered.0)

pub returns-in-Taken-clause-counted : goal.returns-in-Taken-clause-counted
returns-in-Taken-clause-counted c = λ s n.
    ap (λ (o : Replies). count_of o s n) (taken-put c ∙ ap (λ w. map.insert c.args.self.now c.args.sender.now w) c.in-Taken.ensures.answered.1)
    ∙ less-counted c.args.self.now c.args.sender.now c.args.serial c.in-Some.calls.now (ap (λ o. unwrap_or o map.empty) (taken-had c)) s n

pub returns-in-Taken-clause-left : goal.returns-in-Taken-clause-left
returns-in-Taken-clause-left c =
    taken-put c
    ∙ taken-less c.args.self.now c.args.sender.now c.args.serial c.in-Some.calls.now c.answer.new.self (taken-had c) c.in-Taken.ensures.answered.0 c.in-Taken.ensures.answered.1 c.in-Taken.ensures.kept

pub returns-in-Taken-clause-kept : goal.returns-in-Taken-clause-kept
returns-in-Taken-clause-kept c = invariant_of-self-in-Taken c

-- ---- it was the only one that was owed to the sender

last-view : (c : goal.Joined-remove) → map.from_entries (by_bytes c.remove.new.self.entries) ≡ map.remove c.args.self.now c.args.sender.now
last-view c =
    text_taken (c.get_mut.follows.lender c.answer.new.self) c.remove.new.self c.args.sender.now
    (λ q. btree_map_updates_text c.args.sender.now (c.get_mut.follows.lender c.answer.new.self) c.remove.new.self _ c.remove.ensures.updates q)
    ∙ ap (λ (o : Replies). map.remove o c.args.sender.now)
    (ap (λ w. map.from_entries (by_bytes (c.get_mut.follows.lender w).entries)) c.in-Last.ensures.answered.1
    ∙ ap (λ es. map.from_entries (by_bytes es))
    ((c.get_mut.follows.holds c.in-Some.calls.now).0
    ∙ set_value_same (is_at (λ k. slice_cmp nat_cmp c.args.sender.now (string_bytes k))) c.self.inside.senders.entries c.in-Some.calls.now (sym c.in-Some.ensures.value))
    ∙ c.self.view_is)

last-had : (c : goal.Joined-remove) → map.get c.args.self.now c.args.sender.now ≡ Some (one_more_in map.empty c.args.serial)
last-had c =
    ap (λ (o : Replies). map.get o c.args.sender.now) (sym c.self.view_is) ∙ get_text c.self.inside.senders.entries c.args.sender.now ∙ sym c.in-Some.ensures.value
    ∙ ap Some c.in-Last.ensures.answered.0

pub invariant_of-self-in-Last : goal.invariant_of-self-in-Last
invariant_of-self-in-Last c =
    subst (λ (owed : Replies). KeepsOwedAlone owed) (sym (last-view c))
    (out-kept c.args.self.now c.args.sender.now (subst (λ (owed : Replies). KeepsOwedAlone owed) c.self.view_is c.self.invariant))

pub returns-in-Last-clause-was : goal.returns-in-Last-clause-was
returns-in-Last-clause-was c = ap (nat_lt 0) (sym (only-count c.args.self.now c.args.sender.now c.args.serial (last-had c)))

pub returns-in-Last-clause-counted : goal.returns-in-Last-clause-counted
returns-in-Last-clause-counted c = λ s n.
    ap (λ (o : Replies). count_of o s n) (last-view c) ∙ pair_out c.args.self.now c.args.sender.now c.args.serial (last-had c) s n

pub returns-in-Last-clause-left : goal.returns-in-Last-clause-left
returns-in-Last-clause-left c = last-view c ∙ last-less c.args.self.now c.args.sender.now c.args.serial (last-had c)

pub returns-in-Last-clause-kept : goal.returns-in-Last-clause-kept
returns-in-Last-clause-kept c = invariant_of-self-in-Last c
