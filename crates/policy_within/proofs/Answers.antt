-- What the answer says: that one policy is within the other, or a request that separates them.
use Rattle.std.proofs.Common.{◌≡◌, ℕ, zero, suc, ◌+◌, ◌<◌, ◌≤◌, Bool, true, false, cond, List, [], ◌∷◌, ◌++◌, length, Option, Some, None, refl, ap, sym, ◌∙◌, slice_get, arith}
use Rattle.std.specs.Prelude.{◌&&◌, not, flat_map, find, take, ◌↔◌}
use Rattle.std.specs.Option.{option_or}
use Rattle.std.specs.List.{list_all, list_any, range_with_len}
use Rattle.std.proofs.lemmas.Bool.{and_from, and_parts, both_ways, eq-eqb, false≢true, not-true, not_from_false, or_left, or_parts, or_right}
use Rattle.std.proofs.lemmas.List.Folds.{find-append, list_all-append, list_any-append}
use Rattle.byte_lists.proofs.Options.{some}
use Rattle.dbus_names.specs.Names.{are_two_joined, is_bus, is_bus_element}
use Rattle.dbus_names.specs.Texts.{Text}
use Rattle.name_patterns.specs.Patterns.{covers, is_pattern}
use Rattle.policy_args.specs.Policy.{Policy, entry_at, policy_of}
use Rattle.policy_args.specs.Requests.{Within, asked_name, is_request, permits}
use Rattle.policy_args.specs.declared.entry.Entry.{Entry}
use Rattle.policy_args.specs.declared.entry.Grant.{Grant}
use Rattle.policy_args.specs.declared.requests.Asked.{Asked}
use Rattle.policy_within.specs.Apart.{IsApart, are_patterns, has_rooted}
use Rattle.policy_args.specs.Requests.{grant_permits}
use Rattle.policy_within.specs.Elements.{elements, entry_elements, fresh, is_among}
use Rattle.policy_within.specs.Points.{grant_points, point_name, points}
use Rattle.policy_within.specs.Within.{AreCovered, ArePermitted, Separates, Tells, answer_by, answer_of, by_itself, covered_by, covered_from, entries_at, first_refused, is_number, is_refused, is_yes, lowest, lowest_of}
use Rattle.policy_within.proofs.Entries.{entries-within, no_request, points-by_itself, points-requests, points_by, stands}
use Rattle.policy_within.proofs.Grants.{point_for, point_for-among}
use Rattle.policy_within.proofs.EntryNumbers.{all-at, any-of-numbers, first-passes, has, in-filter, in-range, none-pass}
use Rattle.policy_within.proofs.Rules.{among-append}

-- a policy permits a request of another name than the bus's by its entries
abbrev pub ByEntries : Type 0
ByEntries = (policy : Policy) (asked : Asked) → is_bus (asked_name asked) ≡ false → permits policy asked ≡ list_any (λ (e : Entry). covers e.pattern (asked_name asked) && grant_permits e.grant asked) policy.entries

-- what the types of two policies say of their names and paths, and that an element is none of the second's
pub record AreFit (f : Text) (inner outer : List Entry) : Type 0 where
  pub patterns : are_patterns inner ≡ true
  pub apart : IsApart f outer

not_of_bus : (asked : Asked) → is_request asked ≡ true → is_bus (asked_name asked) ≡ false
not_of_bus asked e = not-true (is_bus (asked_name asked)) (and_parts (are_two_joined is_bus_element (asked_name asked)) (not (is_bus (asked_name asked))) e).1

pub by-entries : ByEntries → (policy : Policy) (asked : Asked) → is_request asked ≡ true → permits policy asked ≡ list_any (by_itself asked) policy.entries
by-entries law policy asked e = law policy asked (not_of_bus asked e)

-- ---- all of a list

pub all-flat : {X Y : Type 0} (test : Y → Bool) (f : X → List Y) (pass : X → Bool) → ((x : X) → pass x ≡ true → list_all test (f x) ≡ true) → (xs : List X) → list_all pass xs ≡ true → list_all test (flat_map f xs) ≡ true
all-flat test f pass each [] h = refl
all-flat test f pass each (x ∷ xs) h =
    let both = and_parts (pass x) (list_all pass xs) h in
    list_all-append test (f x) (flat_map f xs) ∙ and_from _ _ (each x both.0) (all-flat test f pass each xs both.1)

-- requests that are none refused are permitted by entries
permitted-by : ByEntries → (b : Policy) (requests : List Asked) → list_all is_request requests ≡ true → find (is_refused b) requests ≡ None →
    list_all (λ point. list_any (by_itself point) b.entries) requests ≡ true
permitted-by law b [] h none = refl
permitted-by law b (asked ∷ requests) h none =
    let both = and_parts (is_request asked) (list_all is_request requests) h in
    by both.0 (permitted-by law b requests both.1) (permits b asked) refl none
  where
    by : is_request asked ≡ true → (find (is_refused b) requests ≡ None → list_all (λ point. list_any (by_itself point) b.entries) requests ≡ true) → (t : Bool) → permits b asked ≡ t → cond (not t) (some asked) (find (is_refused b) requests) ≡ None → list_all (λ point. list_any (by_itself point) b.entries) (asked ∷ requests) ≡ true
    by request next true t none = and_from _ _ (sym (by-entries law b asked request) ∙ t) (next none)
    by request next false t none = absurd cc

-- what was found passes, and what all pass
found-passes : {X : Type 0} (test : X → Bool) (xs : List X) (x : X) → find test xs ≡ Some x → test x ≡ true
found-passes test [] x e = absurd cc
found-passes test (y ∷ ys) x e = by (found-passes test ys x) (test y) refl e
  where
    by : (find test ys ≡ Some x → test x ≡ true) → (b : Bool) → test y ≡ b → cond b (some y) (find test ys) ≡ Some x → test x ≡ true
    by next true t e = let same : y ≡ x = cc in ap test (sym same) ∙ t
    by next false t e = next e

found-of-all : {X : Type 0} (test pass : X → Bool) (xs : List X) (x : X) → list_all pass xs ≡ true → find test xs ≡ Some x → pass x ≡ true
found-of-all test pass [] x h e = absurd cc
found-of-all test pass (y ∷ ys) x h e =
    let both = and_parts (pass y) (list_all pass ys) h in
    by both.0 (found-of-all test pass ys x both.1) (test y) e
  where
    by : pass y ≡ true → (find test ys ≡ Some x → pass x ≡ true) → (b : Bool) → cond b (some y) (find test ys) ≡ Some x → pass x ≡ true
    by here next true e = let same : y ≡ x = cc in ap pass (sym same) ∙ here
    by here next false e = next e

-- ---- the points of all entries

abbrev all_points_of : Text → List Entry → List Asked
all_points_of f entries = flat_map (points f) entries

all-requests : (f : Text) (inner outer : List Entry) → AreFit f inner outer → list_all is_request (all_points_of f inner) ≡ true
all-requests f inner outer fit = all-flat is_request (points f) (λ (e : Entry). is_pattern e.pattern) (λ e. points-requests f e fit.apart.plain) inner fit.patterns

all-of-entries : (f : Text) (entries : List Entry) → list_all (λ point. list_any (by_itself point) entries) (all_points_of f entries) ≡ true
all-of-entries f entries = go [] entries
  where
    more : (before : List Entry) (e : Entry) (after : List Entry) (requests : List Asked) → list_all (λ point. by_itself point e) requests ≡ true → list_all (λ point. list_any (by_itself point) (before ++ e ∷ after)) requests ≡ true
    more before e after [] h = refl
    more before e after (asked ∷ requests) h =
        let both = and_parts (by_itself asked e) (list_all (λ point. by_itself point e) requests) h in
        and_from _ _ (list_any-append (by_itself asked) before (e ∷ after) ∙ or_right (list_any (by_itself asked) before) _ (or_left (by_itself asked e) _ both.0)) (more before e after requests both.1)

    moved : (before : List Entry) (e : Entry) (after : List Entry) → (before ++ e ∷ []) ++ after ≡ before ++ e ∷ after
    moved [] e after = refl
    moved (x ∷ before) e after = ap (λ t. x ∷ t) (moved before e after)

    go : (before after : List Entry) → list_all (λ point. list_any (by_itself point) (before ++ after)) (all_points_of f after) ≡ true
    go before [] = refl
    go before (e ∷ after) =
        list_all-append (λ point. list_any (by_itself point) (before ++ e ∷ after)) (points f e) (all_points_of f after)
        ∙ and_from _ _ (more before e after (points f e) (points-by_itself f e))
        (ap (λ es. list_all (λ point. list_any (by_itself point) es) (all_points_of f after)) (sym (moved before e after)) ∙ go (before ++ e ∷ []) after)

-- ---- Yes

pub within-if-none : ByEntries → (a b : Policy) → AreFit (fresh b.entries) a.entries b.entries → first_refused a b ≡ None → Within a b
unfolding first_refused
within-if-none law a b fit none asked request permitted =
    let f = fresh b.entries in
    by-entries law b asked request
    ∙ entries-within f a.entries b.entries asked fit.apart.plain fit.apart.free fit.apart.rooted (permitted-by law b (all_points_of f a.entries) (all-requests f a.entries b.entries fit) none)
    request (sym (by-entries law a asked request) ∙ permitted)

-- ---- No

pub refused-separates : ByEntries → (a b : Policy) (asked : Asked) → AreFit (fresh b.entries) a.entries b.entries → first_refused a b ≡ Some asked → Separates a b asked
unfolding first_refused
refused-separates law a b asked fit e =
    let f = fresh b.entries in
    let request : is_request asked ≡ true = found-of-all (is_refused b) is_request (all_points_of f a.entries) asked (all-requests f a.entries b.entries fit) e in
    record {
      request = request;
      permitted = by-entries law a asked request ∙ found-of-all (is_refused b) (λ point. list_any (by_itself point) a.entries) (all_points_of f a.entries) asked (all-of-entries f a.entries) e;
      refused = not-true (permits b asked) (found-passes (is_refused b) (all_points_of f a.entries) asked e);
    }

pub yes-exact : ByEntries → (a b : Policy) → AreFit (fresh b.entries) a.entries b.entries → (is_yes (answer_of a b) ≡ true) ↔ Within a b
yes-exact law a b fit = go (first_refused a b) refl
  where
    go : (o : Option Asked) → first_refused a b ≡ o → (is_yes (answer_by a b o) ≡ true) ↔ Within a b
    go None e = (λ _. within-if-none law a b fit e, λ _. refl)
    go (Some asked) e =
        let apart = refused-separates law a b asked fit e in
        (λ no. absurd (false≢true no), λ all. absurd (both_ways (permits b asked) apart.refused (all asked apart.request apart.permitted)))

-- ---- the entries that permit what an entry permits

any-of-list : {X : Type 0} (test : X → Bool) (xs : List X) (x : X) (k : ℕ) → slice_get xs k ≡ Some x → test x ≡ true → list_any test xs ≡ true
any-of-list test [] x k e t = absurd cc
any-of-list test (y ∷ ys) x zero e t = let same : y ≡ x = cc in or_left (test y) _ (ap test same ∙ t)
any-of-list test (y ∷ ys) x (suc k) e t = or_right (test y) _ (any-of-list test ys x k e t)

free-at : (f : Text) (entries : List Entry) (k : ℕ) (e : Entry) → is_among (elements entries) f ≡ false → slice_get entries k ≡ Some e → is_among (entry_elements e) f ≡ false
free-at f [] k e h here = absurd cc
free-at f (d ∷ entries) zero e h here = let same : d ≡ e = cc in ap (λ x. is_among (entry_elements x) f) (sym same) ∙ (among-append (entry_elements d) (elements entries) f h).0
free-at f (d ∷ entries) (suc k) e h here = free-at f entries k e (among-append (entry_elements d) (elements entries) f h).1 here

-- the lowest entry that permits one of an entry's points permits all requests of which that is the point
covered-request : (f : Text) (own : Entry) (asked : Asked) (inner bs : List Entry) → AreFit f inner bs →
    list_any (by_itself (point_for f (point_name f own.pattern) own.grant asked)) bs ≡ true → by_itself asked own ≡ true →
    (numbers : List ℕ) → ((n : ℕ) → lowest bs (point_for f (point_name f own.pattern) own.grant asked) ≡ Some n → 1 ≤ n → n < 1 + length bs → has numbers n ≡ true) →
    list_any (by_itself asked) (entries_at bs numbers) ≡ true
covered-request f own asked inner bs fit any k numbers among =
    let first = first-passes (by_itself (point_for f (point_name f own.pattern) own.grant asked)) 1 bs any in
    let number : 1 + first.place ≡ suc first.place = omega arith in
    any-of-numbers (by_itself asked) bs numbers (1 + first.place) first.entry
    (among (1 + first.place) first.first (omega arith) (omega (arith, first.within)))
    (ap (entry_at bs) number ∙ first.here)
    (stands f own first.entry asked fit.apart.plain (free-at f bs first.place first.entry fit.apart.free first.here)
    (all-at (λ (e : Entry). has_rooted e.grant) bs first.place first.entry fit.apart.rooted first.here) first.passes k)

in-lowest : (bs : List Entry) (requests : List Asked) (n : ℕ) → list_any (λ asked. is_number n (lowest bs asked)) requests ≡ true → 1 ≤ n → n < 1 + length bs → has (lowest_of bs requests) n ≡ true
in-lowest bs requests n h l m = in-filter (λ n. list_any (λ asked. is_number n (lowest bs asked)) requests) (range_with_len 1 (length bs)) n (in-range n 1 (length bs) l m) h

all-not : {X : Type 0} (test : X → Bool) (xs : List X) → list_any test xs ≡ false → list_all (λ x. not (test x)) xs ≡ true
all-not test [] h = refl
all-not test (x ∷ xs) h = let both = or_parts (test x) (list_any test xs) h in and_from _ _ (not_from_false (test x) both.0) (all-not test xs both.1)

-- a test that the point passes finds one of the points
any-point : (test : Asked → Bool) (f name : Text) (g : Grant) (asked : Asked) → grant_permits g asked ≡ true → test (point_for f name g asked) ≡ true → list_any test (grant_points f name g) ≡ true
any-point test f name g asked k t = go (list_any test (grant_points f name g)) refl
  where
    go : (b : Bool) → list_any test (grant_points f name g) ≡ b → b ≡ true
    go true e = refl
    go false e =
        absurd (both_ways (test (point_for f name g asked))
        (not-true _ (point_for-among (λ q. not (test q)) f name g asked (all-not test (grant_points f name g) e) k)) t)

entry-permitted : (f : Text) (own : Entry) (asked : Asked) (inner bs : List Entry) → AreFit f inner bs →
    list_all (λ point. list_any (by_itself point) bs) (points f own) ≡ true → is_request asked ≡ true → by_itself asked own ≡ true →
    list_any (by_itself asked) (entries_at bs (lowest_of bs (points f own))) ≡ true
entry-permitted f own asked inner bs fit h request k = go (own.pattern.exact && is_bus own.pattern.name) refl h
  where
    permitted : grant_permits own.grant asked ≡ true
    permitted = (and_parts (covers own.pattern (asked_name asked)) (grant_permits own.grant asked) k).1

    go : (b : Bool) → (own.pattern.exact && is_bus own.pattern.name) ≡ b → list_all (λ point. list_any (by_itself point) bs) (points_by b f own) ≡ true →
        list_any (by_itself asked) (entries_at bs (lowest_of bs (points_by b f own))) ≡ true
    go true is h = absurd (no_request own asked is request k)
    go false is h = covered-request f own asked inner bs fit
        (point_for-among (λ point. list_any (by_itself point) bs) f (point_name f own.pattern) own.grant asked h permitted) k
        (lowest_of bs (grant_points f (point_name f own.pattern) own.grant))
        (λ n lowest_is l m. in-lowest bs (grant_points f (point_name f own.pattern) own.grant) n
        (any-point (λ q. is_number n (lowest bs q)) f (point_name f own.pattern) own.grant asked permitted (ap (is_number n) lowest_is ∙ eq-eqb n n refl)) l m)

covered-permitted : ByEntries → (b : Policy) (e : Entry) (inner : List Entry) → AreFit (fresh b.entries) inner b.entries →
    list_all (λ point. list_any (by_itself point) b.entries) (points (fresh b.entries) e) ≡ true → ArePermitted b e (covered_by b e)
unfolding covered_by
covered-permitted law b e inner fit h asked request k =
    by-entries law (policy_of (entries_at b.entries (lowest_of b.entries (points (fresh b.entries) e)))) asked request
    ∙ entry-permitted (fresh b.entries) e asked inner b.entries fit h request k

all-covered : ByEntries → (b : Policy) (n : ℕ) (es inner : List Entry) → AreFit (fresh b.entries) inner b.entries →
    list_all (λ point. list_any (by_itself point) b.entries) (all_points_of (fresh b.entries) es) ≡ true → AreCovered b n es (covered_from b n es)
all-covered law b n [] inner fit h = tt
all-covered law b n (e ∷ es) inner fit h =
    let both = and_parts _ _ (sym (list_all-append (λ point. list_any (by_itself point) b.entries) (points (fresh b.entries) e) (all_points_of (fresh b.entries) es)) ∙ h) in
    (refl, covered-permitted law b e inner fit both.0, all-covered law b (n + 1) es inner fit both.1)

-- ---- the answer

points-permitted : ByEntries → (a b : Policy) → AreFit (fresh b.entries) a.entries b.entries → first_refused a b ≡ None → list_all (λ point. list_any (by_itself point) b.entries) (all_points_of (fresh b.entries) a.entries) ≡ true
unfolding first_refused
points-permitted law a b fit e = permitted-by law b (all_points_of (fresh b.entries) a.entries) (all-requests (fresh b.entries) a.entries b.entries fit) e

pub answer-tells : ByEntries → (a b : Policy) → AreFit (fresh b.entries) a.entries b.entries → Tells a b (answer_of a b)
answer-tells law a b fit = go (first_refused a b) refl
  where
    go : (o : Option Asked) → first_refused a b ≡ o → Tells a b (answer_by a b o)
    go None e = all-covered law b 1 a.entries a.entries fit (points-permitted law a b fit e)
    go (Some asked) e = refused-separates law a b asked fit e

-- ---- by steps

-- a number that was found for a request, and that the request is permitted
pub record IsFound (policy : Policy) (asked : Asked) (n : ℕ) : Type 0 where
  pub permitted : permits policy asked ≡ true
  pub positive : 1 ≤ n
  pub within : n < 1 + length policy.entries

pub lowest-found-permitted : ByEntries → (policy : Policy) (asked : Asked) (n : ℕ) → is_request asked ≡ true → lowest policy.entries asked ≡ Some n → IsFound policy asked n
lowest-found-permitted law policy asked n request e = go (list_any (by_itself asked) policy.entries) refl
  where
    go : (b : Bool) → list_any (by_itself asked) policy.entries ≡ b → IsFound policy asked n
    go true any =
        let first = first-passes (by_itself asked) 1 policy.entries any in
        let again : Some (1 + first.place) ≡ Some n = sym first.first ∙ e in
        let same : 1 + first.place ≡ n = cc in
        record { permitted = by-entries law policy asked request ∙ any; positive = omega (arith, same); within = omega (arith, same, first.within) }
    go false none =
        let empty : None ≡ Some n = ap (λ ns. slice_get ns 0) (sym (none-pass (by_itself asked) 1 policy.entries none)) ∙ e in
        absurd cc

pub none-found-refused : ByEntries → (policy : Policy) (asked : Asked) → is_request asked ≡ true → lowest policy.entries asked ≡ None → permits policy asked ≡ false
none-found-refused law policy asked request e = by-entries law policy asked request ∙ go (list_any (by_itself asked) policy.entries) refl
  where
    go : (b : Bool) → list_any (by_itself asked) policy.entries ≡ b → b ≡ false
    go true any =
        let first = first-passes (by_itself asked) 1 policy.entries any in
        let again : Some (1 + first.place) ≡ None = sym first.first ∙ e in
        absurd cc
    go false none = refl

-- ---- a search by steps

pub none-refused : (policy : Policy) (requests : List Asked) (asked : Asked) → find (is_refused policy) requests ≡ None → permits policy asked ≡ true → find (is_refused policy) (requests ++ asked ∷ []) ≡ None
none-refused policy requests asked h t =
    find-append (is_refused policy) requests (asked ∷ [])
    ∙ ap (λ o. option_or o (find (is_refused policy) (asked ∷ []))) h
    ∙ ap (λ b. cond (not b) (some asked) None) t

pub refused-at : {X : Type 0} (test : X → Bool) (xs : List X) (i : ℕ) (x : X) → find test (take i xs) ≡ None → slice_get xs i ≡ Some x → test x ≡ true → find test xs ≡ Some x
refused-at test [] i x none e t = absurd cc
refused-at test (y ∷ ys) zero x none e t = let same : y ≡ x = cc in ap (λ b. cond b (some y) (find test ys)) (ap test same ∙ t) ∙ ap some same
refused-at test (y ∷ ys) (suc i) x none e t = by (test y) none (λ h. refused-at test ys i x h e t)
  where
    by : (b : Bool) → cond b (some y) (find test (take i ys)) ≡ None → (find test (take i ys) ≡ None → find test ys ≡ Some x) → cond b (some y) (find test ys) ≡ Some x
    by true none next = absurd cc
    by false none next = next none

pub flat-refused-at : {X Y : Type 0} (test : Y → Bool) (f : X → List Y) (xs : List X) (i : ℕ) (x : X) (y : Y) → find test (flat_map f (take i xs)) ≡ None → slice_get xs i ≡ Some x → find test (f x) ≡ Some y → find test (flat_map f xs) ≡ Some y
flat-refused-at test f [] i x y none e h = absurd cc
flat-refused-at test f (z ∷ zs) zero x y none e h =
    let same : z ≡ x = cc in
    find-append test (f z) (flat_map f zs) ∙ ap (λ o. option_or o (find test (flat_map f zs))) (ap (λ w. find test (f w)) same ∙ h)
flat-refused-at {Y = Y} test f (z ∷ zs) (suc i) x y none e h =
    find-append test (f z) (flat_map f zs) ∙ by (find test (f z)) (sym (find-append test (f z) (flat_map f (take i zs))) ∙ none) (λ k. flat-refused-at test f zs i x y k e h)
  where
    by : (o : Option Y) → option_or o (find test (flat_map f (take i zs))) ≡ None → (find test (flat_map f (take i zs)) ≡ None → find test (flat_map f zs) ≡ Some y) → option_or o (find test (flat_map f zs)) ≡ Some y
    by None none next = next none
    by (Some w) none next = absurd cc
