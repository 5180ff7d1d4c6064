-- The entries that permit what each entry permits, by steps.
use Rattle.std.proofs.Common.{◌≡◌, ℕ, zero, suc, ◌+◌, ◌≤◌, true, false, List, [], ◌∷◌, ◌++◌, length, take, Option, Some, None, Ok, Err, refl, ap, ap₂, sym, ◌∙◌, slice_get, arith}
use Rattle.std.specs.Prelude.{filter, find, flat_map, not}
use Rattle.std.specs.List.{list_all, range_with_len}
use Rattle.std.specs.Option.{option_or}
use Rattle.std.proofs.lemmas.List.{take_all}
use Rattle.std.proofs.lemmas.List.Folds.{find-append}
use Rattle.dbus_names.specs.Texts.{Text}
use Rattle.name_patterns.specs.Patterns.{is_pattern}
use Rattle.policy_args.specs.Policy.{Policy}
use Rattle.policy_args.specs.Requests.{is_request}
use Rattle.policy_args.specs.declared.entry.Entry.{Entry}
use Rattle.policy_args.specs.declared.requests.Asked.{Asked}
use Rattle.policy_within.specs.Apart.{IsPlain}
use Rattle.policy_within.specs.Elements.{fresh}
use Rattle.policy_within.specs.Points.{points}
use Rattle.policy_within.specs.Steps.{cover_by, cover_of, with_number}
use Rattle.policy_within.specs.Within.{answer_by, answer_of, covered_by, covered_from, first_refused, is_refused, lowest, lowest_of}
use Rattle.policy_within.specs.declared.answer.CoveredEntry.{CoveredEntry}
use Rattle.policy_within.specs.declared.answer.WithinAnswer.TheVariants.{Yes, No}
use Rattle.policy_within.proofs.Answers.{ByEntries, flat-refused-at, lowest-found-permitted, none-found-refused, none-refused, refused-at}
use Rattle.policy_within.proofs.Ascending.{lowest-more}
use Rattle.policy_within.proofs.Entries.{points-requests}
use Rattle.policy_within.proofs.EntryNumbers.{all-at}
use Rattle.policy_within.proofs.Prefixes.{flat-more, take-more}

-- ---- the points of one entry

none-pass : (xs : List ℕ) → filter (λ n. false) xs ≡ []
none-pass [] = refl
none-pass (x ∷ xs) = none-pass xs

pub no-requests : (entries : List Entry) → [] ≡ lowest_of entries []
no-requests entries = sym (none-pass (range_with_len 1 (length entries)))

pub one-request : (f : Text) (e : Entry) (requests : List Asked) (i : ℕ) (asked : Asked) → IsPlain f → is_pattern e.pattern ≡ true → requests ≡ points f e → slice_get requests i ≡ Some asked → is_request asked ≡ true
one-request f e requests i asked plain pattern are here = all-at is_request requests i asked (ap (list_all is_request) are ∙ points-requests f e plain pattern) here

-- after the requests before a place
pub record AreTaken (policy : Policy) (requests : List Asked) (i : ℕ) (numbers : List ℕ) : Type 0 where
  pub numbers_are : numbers ≡ lowest_of policy.entries (take i requests)
  pub permitted : find (is_refused policy) (take i requests) ≡ None

pub one-more : ByEntries → (policy : Policy) (requests : List Asked) (i : ℕ) (numbers next : List ℕ) (asked : Asked) (n : ℕ) → slice_get requests i ≡ Some asked → is_request asked ≡ true →
    lowest policy.entries asked ≡ Some n → next ≡ with_number n numbers → AreTaken policy requests i numbers → AreTaken policy requests (i + 1) next
one-more law policy requests i numbers next asked n here request found more taken =
    let is = lowest-found-permitted law policy asked n request found in
    let longer = take-more requests i asked here in
    record {
      numbers_are =
          more ∙ ap (with_number n) taken.numbers_are ∙ sym (lowest-more policy.entries (take i requests) asked n found is.positive is.within)
          ∙ ap (lowest_of policy.entries) (sym longer);
      permitted = ap (find (is_refused policy)) longer ∙ none-refused policy (take i requests) asked taken.permitted is.permitted;
    }

pub all-taken : (policy : Policy) (f : Text) (e : Entry) (requests : List Asked) (i : ℕ) (numbers : List ℕ) → requests ≡ points f e → length requests ≤ i → AreTaken policy requests i numbers → Ok numbers ≡ cover_of policy f e
all-taken policy f e requests i numbers are le taken =
    let whole : take i requests ≡ points f e = take_all i requests le ∙ are in
    ap Ok (taken.numbers_are ∙ ap (lowest_of policy.entries) whole)
    ∙ ap (cover_by (lowest_of policy.entries (points f e))) (sym (ap (find (is_refused policy)) (sym whole) ∙ taken.permitted))

pub one-refused : ByEntries → (policy : Policy) (f : Text) (e : Entry) (requests : List Asked) (i : ℕ) (numbers : List ℕ) (asked : Asked) → requests ≡ points f e → slice_get requests i ≡ Some asked →
    is_request asked ≡ true → lowest policy.entries asked ≡ None → AreTaken policy requests i numbers → Err asked ≡ cover_of policy f e
one-refused law policy f e requests i numbers asked are here request none taken =
    let refused = none-found-refused law policy asked request none in
    let found : find (is_refused policy) (points f e) ≡ Some asked =
    ap (find (is_refused policy)) (sym are) ∙ refused-at (is_refused policy) requests i asked taken.permitted here (ap not refused) in
    ap (cover_by (lowest_of policy.entries (points f e))) (sym found)

-- ---- all entries

pub record AreCompared (inner outer : Policy) (i : ℕ) (covered : List CoveredEntry) : Type 0 where
  pub covered_are : covered ≡ covered_from outer 1 (take i inner.entries)
  pub permitted : find (is_refused outer) (flat_map (points (fresh outer.entries)) (take i inner.entries)) ≡ None

covered-append : (b : Policy) (n : ℕ) (es : List Entry) (e : Entry) → covered_from b n (es ++ e ∷ []) ≡ covered_from b n es ++ record { entry = n + length es; by = covered_by b e } ∷ []
covered-append b n [] e = ap (λ k. record { entry = k; by = covered_by b e } ∷ []) (omega arith)
covered-append b n (d ∷ es) e =
    ap (λ t. record { entry = n; by = covered_by b d } ∷ t) (covered-append b (n + 1) es e
    ∙ ap (λ k. covered_from b (n + 1) es ++ record { entry = k; by = covered_by b e } ∷ []) (omega arith))

taken-length : {X : Type 0} (xs : List X) (i : ℕ) (x : X) → slice_get xs i ≡ Some x → length (take i xs) ≡ i
taken-length [] i x e = absurd cc
taken-length (y ∷ ys) zero x e = refl
taken-length (y ∷ ys) (suc i) x e = ap suc (taken-length ys i x e)

-- what the cover of an entry says
cover-ok : (policy : Policy) (f : Text) (e : Entry) (numbers : List ℕ) → Ok numbers ≡ cover_of policy f e → (numbers ≡ lowest_of policy.entries (points f e)) × (find (is_refused policy) (points f e) ≡ None)
cover-ok policy f e numbers is = go (find (is_refused policy) (points f e)) refl is
  where
    go : (o : Option Asked) → find (is_refused policy) (points f e) ≡ o → Ok numbers ≡ cover_by (lowest_of policy.entries (points f e)) o → (numbers ≡ lowest_of policy.entries (points f e)) × (find (is_refused policy) (points f e) ≡ None)
    go None h is = let same : numbers ≡ lowest_of policy.entries (points f e) = cc in (same, h)
    go (Some asked) h is = absurd cc

cover-err : (policy : Policy) (f : Text) (e : Entry) (asked : Asked) → Err asked ≡ cover_of policy f e → find (is_refused policy) (points f e) ≡ Some asked
cover-err policy f e asked is = go (find (is_refused policy) (points f e)) refl is
  where
    go : (o : Option Asked) → find (is_refused policy) (points f e) ≡ o → Err asked ≡ cover_by (lowest_of policy.entries (points f e)) o → find (is_refused policy) (points f e) ≡ Some asked
    go None h is = absurd cc
    go (Some other) h is = let same : asked ≡ other = cc in h ∙ ap Some (sym same)

-- none of two lists
none-both : (policy : Policy) (xs ys : List Asked) → find (is_refused policy) xs ≡ None → find (is_refused policy) ys ≡ None → find (is_refused policy) (xs ++ ys) ≡ None
none-both policy xs ys h k = find-append (is_refused policy) xs ys ∙ ap₂ option_or h k

pub one-covered : (inner outer : Policy) (i : ℕ) (covered next : List CoveredEntry) (e : Entry) (number : ℕ) (numbers : List ℕ) → slice_get inner.entries i ≡ Some e → number ≡ i + 1 →
    Ok numbers ≡ cover_of outer (fresh outer.entries) e → next ≡ covered ++ record { entry = number; by = numbers } ∷ [] → AreCompared inner outer i covered → AreCompared inner outer (i + 1) next
unfolding covered_by
one-covered inner outer i covered next e number numbers here is cover more compared =
    let both = cover-ok outer (fresh outer.entries) e numbers cover in
    let count = taken-length inner.entries i e here in
    record {
      covered_are =
          more
          ∙ ap₂ (λ k ns. covered ++ record { entry = k; by = ns } ∷ []) (omega (arith, is, count)) both.0
          ∙ ap (λ cs. cs ++ record { entry = 1 + length (take i inner.entries); by = covered_by outer e } ∷ []) compared.covered_are
          ∙ sym (covered-append outer 1 (take i inner.entries) e)
          ∙ ap (covered_from outer 1) (sym (take-more inner.entries i e here));
      permitted =
          ap (find (is_refused outer)) (flat-more (points (fresh outer.entries)) inner.entries i e here)
          ∙ none-both outer (flat_map (points (fresh outer.entries)) (take i inner.entries)) (points (fresh outer.entries) e) compared.permitted both.1;
    }

pub all-covered : (inner outer : Policy) (i : ℕ) (covered : List CoveredEntry) → length inner.entries ≤ i → AreCompared inner outer i covered → Yes covered ≡ answer_of inner outer
unfolding first_refused
all-covered inner outer i covered le compared =
    let whole : take i inner.entries ≡ inner.entries = take_all i inner.entries le in
    ap Yes (compared.covered_are ∙ ap (covered_from outer 1) whole)
    ∙ ap (answer_by inner outer) (sym (ap (λ es. find (is_refused outer) (flat_map (points (fresh outer.entries)) es)) (sym whole) ∙ compared.permitted))

pub first-refused : (inner outer : Policy) (i : ℕ) (covered : List CoveredEntry) (e : Entry) (asked : Asked) → slice_get inner.entries i ≡ Some e → Err asked ≡ cover_of outer (fresh outer.entries) e →
    AreCompared inner outer i covered → No asked ≡ answer_of inner outer
unfolding first_refused
first-refused inner outer i covered e asked here cover compared =
    ap (answer_by inner outer) (sym (flat-refused-at (is_refused outer) (points (fresh outer.entries)) inner.entries i e asked compared.permitted here (cover-err outer (fresh outer.entries) e asked cover)))
