-- What is counted of notes with one note more, and of the notes of several recordings together.
use Rattle.std.proofs.Common.{◌≡◌, ◌<◌, ◌+◌, ◌==◌, ℕ, Bool, cond, List, [], ◌∷◌, ◌++◌, Some, None, refl, ap, sym, ◌∙◌, subst, append-nil, append_assoc, arith, length, get_or, take}
use Rattle.std.specs.Prelude.{count_by, flat_map}
use Rattle.std.specs.List.{AllZip}
use Rattle.std.proofs.lemmas.Grind.{flat_map-append}
use Rattle.std.proofs.lemmas.List.{length-append, take_more}
use Rattle.std.proofs.lemmas.List.Sums.{sum_by-append, sum_by_push}
use Rattle.dbus_names.specs.Texts.{Text}
use Rattle.policy_args.specs.Policy.{Policy}
use Rattle.policy_view.specs.Notes.{Note}
use Rattle.policy_view.specs.declared.Reason.{Reason}
use Rattle.explain_log.specs.Lines.{reason_entry}
use Rattle.audit.specs.Audit.{denial, denials, is_at, is_denial, named, named_by, passes, reason_place, rests_on}
use Rattle.audit.specs.Tallies.{Counts, Marked, SumsOf, TallyOf}
use Rattle.audit.specs.declared.sums.Sums.{Sums}
use Rattle.audit.specs.declared.tally.Tally.{Tally}
use Rattle.audit.proofs.Counted.{counts-same}

-- ---- one note more

denials-push : (test : Reason → Bool) (notes : List Note) (note : Note) → denials test (notes ++ note ∷ []) ≡ denials test notes + cond (passes test (denial note)) 1 0
denials-push test notes note = sum_by_push (λ (n : Note). cond (passes test (denial n)) 1 0) notes note

denied-push : (notes : List Note) (note : Note) → count_by is_denial (notes ++ note ∷ []) ≡ count_by is_denial notes + cond (is_denial note) 1 0
denied-push notes note = sum_by_push (λ (n : Note). cond (is_denial n) 1 0) notes note

named-push : (notes : List Note) (note : Note) → named (notes ++ note ∷ []) ≡ named notes ++ named_by note
named-push notes note = flat_map-append named_by notes (note ∷ []) ∙ ap (λ t. named notes ++ t) (append-nil (named_by note))

with-denial : (len : ℕ) (test : ℕ → Reason → Bool) (notes : List Note) (note : Note) (reason : Reason) (xs : List ℕ) → denial note ≡ Some reason →
    Counts len (λ i. denials (test i) notes + cond (test i reason) 1 0) xs → Counts len (λ i. denials (test i) (notes ++ note ∷ [])) xs
with-denial len test notes note reason xs is =
    counts-same len _ _ xs (λ i. ap (λ d. denials (test i) notes + cond (passes (test i) d) 1 0) (sym is) ∙ sym (denials-push (test i) notes note))

without-denial : (len : ℕ) (test : ℕ → Reason → Bool) (notes : List Note) (note : Note) (xs : List ℕ) → denial note ≡ None →
    Counts len (λ i. denials (test i) notes) xs → Counts len (λ i. denials (test i) (notes ++ note ∷ [])) xs
without-denial len test notes note xs is =
    counts-same len _ _ xs (λ i. omega arith ∙ ap (λ d. denials (test i) notes + cond (passes (test i) d) 1 0) (sym is) ∙ sym (denials-push (test i) notes note))

-- a denial, which names nothing
pub sums-deny : (policy : Policy) (notes : List Note) (note : Note) (reason : Reason) (new : Sums) → denial note ≡ Some reason → named_by note ≡ [] →
    Counts 17 (λ i. denials (is_at i) notes + cond (reason_place reason == i) 1 0) new.reasons →
    Counts (length policy.entries + 1) (λ i. denials (rests_on i) notes + cond (reason_entry reason == i) 1 0) new.entries → Marked policy.entries (named notes) new.named →
    SumsOf policy (notes ++ note ∷ []) new
sums-deny policy notes note reason new is none reasons entries marked = record {
  reasons = with-denial 17 is_at notes note reason new.reasons is reasons;
  entries = with-denial (length policy.entries + 1) rests_on notes note reason new.entries is entries;
  named_is = subst (λ names. Marked policy.entries names new.named) (sym (named-push notes note ∙ ap (λ t. named notes ++ t) none ∙ append-nil (named notes))) marked;
}

-- any other note, which may name something
pub sums-name : (policy : Policy) (notes : List Note) (note : Note) (names : List Text) (old new : Sums) → denial note ≡ None → named_by note ≡ names → new.reasons ≡ old.reasons → new.entries ≡ old.entries →
    SumsOf policy notes old → Marked policy.entries (named notes ++ names) new.named → SumsOf policy (notes ++ note ∷ []) new
sums-name policy notes note names old new is names_are reasons entries sums marked = record {
  reasons = without-denial 17 is_at notes note new.reasons is (subst (λ xs. Counts 17 (λ i. denials (is_at i) notes) xs) (sym reasons) sums.reasons);
  entries = without-denial (length policy.entries + 1) rests_on notes note new.entries is (subst (λ xs. Counts (length policy.entries + 1) (λ i. denials (rests_on i) notes) xs) (sym entries) sums.entries);
  named_is = subst (λ t. Marked policy.entries t new.named) (ap (λ t. named notes ++ t) (sym names_are) ∙ sym (named-push notes note)) marked;
}

pub tally-more : (policy : Policy) (notes : List Note) (note : Note) (old new : Tally) → new.items ≡ old.items + 1 → new.denied ≡ old.denied + cond (is_denial note) 1 0 → SumsOf policy (notes ++ note ∷ []) new.sums →
    TallyOf policy notes old → TallyOf policy (notes ++ note ∷ []) new
tally-more policy notes note old new items denied sums tally = record {
  items = items ∙ ap (λ n. n + 1) tally.items ∙ sym (length-append notes (note ∷ []));
  denied = denied ∙ ap (λ n. n + cond (is_denial note) 1 0) tally.denied ∙ sym (denied-push notes note);
  sums = sums;
}

-- ---- other notes more

denials-append : (test : Reason → Bool) (one other : List Note) → denials test (one ++ other) ≡ denials test one + denials test other
denials-append test one other = sum_by-append (λ (note : Note). cond (passes test (denial note)) 1 0) one other

pub sums-add : (policy : Policy) (notes more : List Note) (new : Sums) →
    Counts 17 (λ i. denials (is_at i) notes + denials (is_at i) more) new.reasons →
    Counts (length policy.entries + 1) (λ i. denials (rests_on i) notes + denials (rests_on i) more) new.entries → Marked policy.entries (named notes ++ named more) new.named →
    SumsOf policy (notes ++ more) new
sums-add policy notes more new reasons entries marked = record {
  reasons = counts-same 17 _ _ new.reasons (λ i. sym (denials-append (is_at i) notes more)) reasons;
  entries = counts-same (length policy.entries + 1) _ _ new.entries (λ i. sym (denials-append (rests_on i) notes more)) entries;
  named_is = subst (λ t. Marked policy.entries t new.named) (sym (flat_map-append named_by notes more)) marked;
}

-- ---- several recordings

abbrev pub all_of : List (List Note) → List Note
all_of recordings = flat_map (λ notes. notes) recordings

-- some recordings were added, and these tallies are left
pub record SummedTo (policy : Policy) (recordings : List (List Note)) (left : List Tally) (sums : Sums) : Type 0 where
  pub before : List (List Note)
  pub after : List (List Note)
  pub split : before ++ after ≡ recordings
  pub zipped : AllZip (TallyOf policy) after left
  pub so_far : SumsOf policy (all_of before) sums

pub summed-start : (policy : Policy) (recordings : List (List Note)) (tallies : List Tally) (sums : Sums) → SumsOf policy [] sums → AllZip (TallyOf policy) recordings tallies → SummedTo policy recordings tallies sums
summed-start policy recordings tallies sums start zipped = record { before = []; after = recordings; split = refl; zipped = zipped; so_far = start }

summed_more : (policy : Policy) (recordings before after : List (List Note)) (tally : Tally) (left : List Tally) (new : Sums) → before ++ after ≡ recordings → AllZip (TallyOf policy) after (tally ∷ left) →
    ((notes : List Note) → TallyOf policy notes tally → SumsOf policy (all_of before ++ notes) new) → SummedTo policy recordings left new
summed_more policy recordings before (notes ∷ after) tally left new split zipped add = record {
  before = before ++ notes ∷ [];
  after = after;
  split = append_assoc before (notes ∷ []) after ∙ split;
  zipped = zipped.1;
  so_far = subst (λ ns. SumsOf policy ns new) (ap (λ t. all_of before ++ t) (sym (append-nil notes)) ∙ sym (flat_map-append (λ (ns : List Note). ns) before (notes ∷ []))) (add notes zipped.0);
}
summed_more policy recordings before [] tally left new split zipped add = elim zipped [ ]

pub summed-step : (policy : Policy) (recordings : List (List Note)) (tally : Tally) (left : List Tally) (all : List Tally) (old new : Sums) → all ≡ tally ∷ left → SummedTo policy recordings all old →
    ((before notes : List Note) → SumsOf policy before old → TallyOf policy notes tally → SumsOf policy (before ++ notes) new) → SummedTo policy recordings left new
summed-step policy recordings tally left all old new next summed add =
    summed_more policy recordings summed.before summed.after tally left new summed.split (subst (λ ts. AllZip (TallyOf policy) summed.after ts) next summed.zipped) (λ notes of. add (all_of summed.before) notes summed.so_far of)

none_left : (policy : Policy) (after : List (List Note)) → AllZip (TallyOf policy) after [] → after ≡ []
none_left policy [] zipped = refl
none_left policy (_ ∷ _) zipped = elim zipped [ ]

pub summed-all : (policy : Policy) (recordings : List (List Note)) (left : List Tally) (sums : Sums) → left ≡ [] → SummedTo policy recordings left sums → SumsOf policy (all_of recordings) sums
summed-all policy recordings left sums none summed =
    let nothing : summed.after ≡ [] = none_left policy summed.after (subst (λ ts. AllZip (TallyOf policy) summed.after ts) none summed.zipped) in
    subst (λ rs. SumsOf policy (all_of rs) sums) (sym (append-nil summed.before) ∙ ap (λ t. summed.before ++ t) (sym nothing) ∙ summed.split) summed.so_far

-- ---- pairs
