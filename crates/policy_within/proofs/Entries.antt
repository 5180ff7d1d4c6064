-- Entries that permit the points of another permit what the other permits; and an entry permits its points, which are
-- requests.
use Rattle.std.proofs.Common.{◌≡◌, ℕ, ◌+◌, ◌<◌, Bool, true, false, cond, nat_le, List, [], ◌∷◌, ◌++◌, length, drop, refl, ap, sym, ◌∙◌, length-append, nat_eq, arith, inl, inr}
use Rattle.std.specs.Prelude.{◌&&◌, ◌||◌, not, bytes_eq, flat_map, if◌then◌else◌, Option, Some, None}
use Rattle.std.specs.List.{list_all, list_any, onto_first}
use Rattle.std.proofs.lemmas.Bool.{and_from, and_parts, both_ways, eq-eqb, false_from_ne_true, le-leb, not-true, not_from_false, or_cases, or_left, or_right}
use Rattle.std.proofs.lemmas.List.Folds.{list_all-append}
use Rattle.std.proofs.lemmas.List.Splits.{length-slice_split}
use Rattle.byte_lists.proofs.Bytes.{bytes_eq-true}
use Rattle.dbus_names.specs.Names.{are_joined, are_two_joined, bus_name, is_bus, is_bus_element, is_short, is_well_known, parts_at}
use Rattle.dbus_names.specs.Texts.{Text, begins_with}
use Rattle.name_patterns.specs.Patterns.{Pattern, covers, is_pattern, is_subtree_name}
use Rattle.policy_args.specs.Requests.{asked_name, is_request}
use Rattle.policy_args.specs.declared.entry.Entry.{Entry}
use Rattle.policy_args.specs.declared.entry.Grant.{Grant}
use Rattle.policy_args.specs.declared.entry.Grant.TheVariants.{See as to_see, Talk as to_talk, Own as to_own, Call as to_call, Broadcast as to_broadcast, Property as to_property}
use Rattle.policy_args.specs.declared.requests.Asked.{Asked}
use Rattle.policy_within.specs.Apart.{IsPlain, has_rooted}
use Rattle.policy_args.specs.Requests.{grant_permits}
use Rattle.policy_within.specs.Elements.{elements, entry_elements, grant_elements, is_among}
use Rattle.policy_within.specs.Points.{all_points, grant_points, point_name, points}
use Rattle.policy_within.specs.Within.{by_itself}
use Rattle.policy_within.proofs.Grants.{point_for, point_for-among, point_for-name, point_for-within, points-permitted}
use Rattle.policy_within.proofs.Rules.{among-append}
use Rattle.policy_within.proofs.Trees.{last-among, parts-lacking, point-in_tree, tree-within, tree_point}

-- ---- names

point_name-is : (f : Text) (p : Pattern) → point_name f p ≡ tree_point 46 f p.name (not p.exact)
point_name-is f p = by p.exact
  where
    by : (exact : Bool) → (if exact then p.name else p.name ++ 46 ∷ f) ≡ (if not exact then p.name ++ 46 ∷ f else p.name)
    by true = refl
    by false = refl

covers-within : (f : Text) (own other : Pattern) (name : Text) → IsPlain f → is_among (parts_at 46 other.name) f ≡ false →
    covers other (point_name f own) ≡ true → covers own name ≡ true → covers other name ≡ true
covers-within f own other name plain free h k =
    tree-within 46 f other.name (not other.exact) own.name (not own.exact) name plain.no_dot free (ap (covers other) (sym (point_name-is f own)) ∙ h) k

pub covers-point : (f : Text) (own : Pattern) → covers own (point_name f own) ≡ true
covers-point f own = ap (covers own) (point_name-is f own) ∙ point-in_tree 46 f own.name (not own.exact)

-- ---- the point of a request

pub stands : (f : Text) (own other : Entry) (asked : Asked) → IsPlain f → is_among (entry_elements other) f ≡ false → has_rooted other.grant ≡ true →
    by_itself (point_for f (point_name f own.pattern) own.grant asked) other ≡ true → by_itself asked own ≡ true → by_itself asked other ≡ true
stands f own other asked plain free rooted h k =
    let apart = among-append (parts_at 46 other.pattern.name) (grant_elements other.grant) f free in
    let point = point_for f (point_name f own.pattern) own.grant asked in
    let there = and_parts (covers other.pattern (asked_name point)) (grant_permits other.grant point) h in
    let given = and_parts (covers own.pattern (asked_name asked)) (grant_permits own.grant asked) k in
    and_from (covers other.pattern (asked_name asked)) (grant_permits other.grant asked)
    (covers-within f own.pattern other.pattern (asked_name asked) plain apart.0
    (ap (covers other.pattern) (sym (point_for-name f (point_name f own.pattern) own.grant asked)) ∙ there.0) given.0)
    (point_for-within f (point_name f own.pattern) own.grant other.grant asked plain apart.1 rooted there.1 given.1)

any-stands : (f : Text) (own : Entry) (asked : Asked) (bs : List Entry) → IsPlain f → is_among (elements bs) f ≡ false → list_all (λ (e : Entry). has_rooted e.grant) bs ≡ true →
    list_any (by_itself (point_for f (point_name f own.pattern) own.grant asked)) bs ≡ true → by_itself asked own ≡ true → list_any (by_itself asked) bs ≡ true
any-stands f own asked [] plain free rooted h k = absurd cc
any-stands f own asked (b ∷ bs) plain free rooted h k =
    let apart = among-append (entry_elements b) (elements bs) f free in
    let roots = and_parts (has_rooted b.grant) (list_all (λ (e : Entry). has_rooted e.grant) bs) rooted in
    elim (or_cases (by_itself (point_for f (point_name f own.pattern) own.grant asked) b) _ h) [
      | inl one ↦ or_left (by_itself asked b) _ (stands f own b asked plain apart.0 roots.0 one k)
      | inr more ↦ or_right (by_itself asked b) _ (any-stands f own asked bs plain apart.1 roots.1 more k)
    ]

-- ---- an entry of the bus's own name

-- the points, by whether the entry is one
abbrev pub points_by : Bool → Text → Entry → List Asked
points_by is f e = if is then [] else grant_points f (point_name f e.pattern) e.grant

pub no_request : (own : Entry) (asked : Asked) → (own.pattern.exact && is_bus own.pattern.name) ≡ true → is_request asked ≡ true → by_itself asked own ≡ true → ⊥
no_request own asked is request k =
    let parts = and_parts own.pattern.exact (is_bus own.pattern.name) is in
    let other = and_parts (are_two_joined is_bus_element (asked_name asked)) (not (is_bus (asked_name asked))) request in
    let covered = and_parts (covers own.pattern (asked_name asked)) (grant_permits own.grant asked) k in
    both_ways (is_bus (asked_name asked)) (not-true (is_bus (asked_name asked)) other.1) (by own.pattern.exact parts.0 covered.0 parts.1)
  where
    by : (exact : Bool) → exact ≡ true → (bytes_eq (asked_name asked) own.pattern.name || (not exact && begins_with (own.pattern.name ++ 46 ∷ []) (asked_name asked))) ≡ true → is_bus own.pattern.name ≡ true → is_bus (asked_name asked) ≡ true
    by true e c bus = elim (or_cases (bytes_eq (asked_name asked) own.pattern.name) false c) [
      | inl same ↦ ap is_bus (bytes_eq-true (asked_name asked) own.pattern.name same) ∙ bus
      | inr other ↦ absurd cc
    ]
    by false e c bus = absurd cc

pub entry-within : (f : Text) (own : Entry) (asked : Asked) (bs : List Entry) → IsPlain f → is_among (elements bs) f ≡ false → list_all (λ (e : Entry). has_rooted e.grant) bs ≡ true →
    list_all (λ point. list_any (by_itself point) bs) (points f own) ≡ true → is_request asked ≡ true → by_itself asked own ≡ true → list_any (by_itself asked) bs ≡ true
entry-within f own asked bs plain free rooted h request k = go (own.pattern.exact && is_bus own.pattern.name) refl h
  where
    go : (b : Bool) → (own.pattern.exact && is_bus own.pattern.name) ≡ b → list_all (λ point. list_any (by_itself point) bs) (points_by b f own) ≡ true → list_any (by_itself asked) bs ≡ true
    go true is h = absurd (no_request own asked is request k)
    go false is h = any-stands f own asked bs plain free rooted
        (point_for-among (λ point. list_any (by_itself point) bs) f (point_name f own.pattern) own.grant asked h (and_parts (covers own.pattern (asked_name asked)) (grant_permits own.grant asked) k).1) k

pub entries-within : (f : Text) (es bs : List Entry) (asked : Asked) → IsPlain f → is_among (elements bs) f ≡ false → list_all (λ (e : Entry). has_rooted e.grant) bs ≡ true →
    list_all (λ point. list_any (by_itself point) bs) (flat_map (points f) es) ≡ true → is_request asked ≡ true → list_any (by_itself asked) es ≡ true → list_any (by_itself asked) bs ≡ true
entries-within f [] bs asked plain free rooted h request k = absurd cc
entries-within f (e ∷ es) bs asked plain free rooted h request k =
    let both = and_parts _ _ (sym (list_all-append (λ point. list_any (by_itself point) bs) (points f e) (flat_map (points f) es)) ∙ h) in
    elim (or_cases (by_itself asked e) (list_any (by_itself asked) es) k) [
      | inl one ↦ entry-within f e asked bs plain free rooted both.0 request one
      | inr more ↦ entries-within f es bs asked plain free rooted both.1 request more
    ]

-- ---- points are requests

onto_first-append : (c : ℕ) (xs ys : List (List ℕ)) → 0 < length xs → onto_first c (xs ++ ys) ≡ onto_first c xs ++ ys
onto_first-append c [] ys l = absurd (omega (arith, l))
onto_first-append c (x ∷ xs) ys l = refl

parts-append : (s : ℕ) (n f : List ℕ) → parts_at s (n ++ s ∷ f) ≡ parts_at s n ++ parts_at s f
parts-append s [] f = ap (λ b. cond b ([] ∷ parts_at s f) (onto_first s (parts_at s f))) (eq-eqb s s refl)
parts-append s (c ∷ n) f =
    ap (λ parts. cond (nat_eq c s) ([] ∷ parts) (onto_first c parts)) (parts-append s n f)
    ∙ by (nat_eq c s)
  where
    by : (b : Bool) → cond b ([] ∷ (parts_at s n ++ parts_at s f)) (onto_first c (parts_at s n ++ parts_at s f)) ≡ cond b ([] ∷ parts_at s n) (onto_first c (parts_at s n)) ++ parts_at s f
    by true = refl
    by false = onto_first-append c (parts_at s n) (parts_at s f) (omega (arith, length-slice_split (λ c. nat_eq c s) n))

joined-below : (n f : List ℕ) → IsPlain f → are_joined is_bus_element n ≡ true → are_two_joined is_bus_element (n ++ 46 ∷ f) ≡ true
joined-below n f plain e =
    let parts : parts_at 46 (n ++ 46 ∷ f) ≡ parts_at 46 n ++ f ∷ [] = parts-append 46 n f ∙ ap (λ ps. parts_at 46 n ++ ps) (parts-lacking 46 f plain.no_dot) in
    let count : length (parts_at 46 n ++ f ∷ []) ≡ length (parts_at 46 n) + 1 = length-append (parts_at 46 n) (f ∷ []) in
    ap (λ ps. nat_le 2 (length ps) && list_all is_bus_element ps) parts
    ∙ and_from _ _ (le-leb 2 (length (parts_at 46 n ++ f ∷ [])) (omega (arith, count, length-slice_split (λ c. nat_eq c 46) n)))
    (list_all-append is_bus_element (parts_at 46 n) (f ∷ []) ∙ and_from _ _ e (and_from (is_bus_element f) true plain.element refl))

not_of_bus : (f g : Text) → f ≡ 122 ∷ g → is_among (parts_at 46 bus_name) f ≡ false
not_of_bus f g e = ap (is_among (parts_at 46 bus_name)) e

not_bus : (n f : Text) → IsPlain f → is_bus (n ++ 46 ∷ f) ≡ false
not_bus n f plain = false_from_ne_true (is_bus (n ++ 46 ∷ f)) (λ e.
    both_ways (is_among (parts_at 46 bus_name) f) (not_of_bus f (drop 1 f) plain.first)
    (ap (λ t. is_among (parts_at 46 t) f) (sym (bytes_eq-true (n ++ 46 ∷ f) bus_name e)) ∙ last-among 46 n f plain.no_dot))

-- of the name that is asked for
abbrev of_request : Text → Bool
of_request name = are_two_joined is_bus_element name && not (is_bus name)

name-request : (f : Text) (p : Pattern) → IsPlain f → is_pattern p ≡ true → (p.exact && is_bus p.name) ≡ false → of_request (point_name f p) ≡ true
name-request f p plain e other = by p.exact e other
  where
    by : (exact : Bool) → (if exact then is_well_known p.name else is_subtree_name p.name) ≡ true → (exact && is_bus p.name) ≡ false → of_request (if exact then p.name else p.name ++ 46 ∷ f) ≡ true
    by true e other = and_from _ _ (and_parts (is_short p.name) (are_two_joined is_bus_element p.name) e).1 (not_from_false (is_bus p.name) other)
    by false e other = and_from _ _ (joined-below p.name f plain (and_parts (is_short p.name) (are_joined is_bus_element p.name) e).1) (not_from_false _ (not_bus p.name f plain))

all-named : (test : Text → Bool) (name path interface : Text) (property : Option Text) → test name ≡ true → list_all (λ point. test (asked_name point)) (all_points name path interface property) ≡ true
all-named test name path interface None h = and_from (test name) true h refl
all-named test name path interface (Some p) h = refl

points-named : (test : Text → Bool) (f name : Text) (g : Grant) → test name ≡ true → list_all (λ point. test (asked_name point)) (grant_points f name g) ≡ true
points-named test f name to_see h = and_from (test name) true h refl
points-named test f name to_talk h = and_from (test name) true h refl
points-named test f name to_own h = and_from (test name) true h refl
points-named test f name (to_call r) h = and_from (test name) true h refl
points-named test f name (to_broadcast r) h = and_from (test name) true h refl
points-named test f name (to_property r) h = and_from (test name) _ h (and_from (test name) _ h (all-named test name _ r.interface r.property h))

pub points-requests : (f : Text) (e : Entry) → IsPlain f → is_pattern e.pattern ≡ true → list_all is_request (points f e) ≡ true
points-requests f e plain pattern = go (e.pattern.exact && is_bus e.pattern.name) refl
  where
    go : (b : Bool) → (e.pattern.exact && is_bus e.pattern.name) ≡ b → list_all is_request (points_by b f e) ≡ true
    go true is = refl
    go false is = points-named of_request f (point_name f e.pattern) e.grant (name-request f e.pattern plain pattern is)

-- ---- an entry permits its points

all-both : {X : Type 0} (p q : X → Bool) (xs : List X) → list_all p xs ≡ true → list_all q xs ≡ true → list_all (λ x. p x && q x) xs ≡ true
all-both p q [] h k = refl
all-both p q (x ∷ xs) h k =
    let hs = and_parts (p x) (list_all p xs) h in
    let ks = and_parts (q x) (list_all q xs) k in
    and_from (p x && q x) _ (and_from (p x) (q x) hs.0 ks.0) (all-both p q xs hs.1 ks.1)

pub points-by_itself : (f : Text) (e : Entry) → list_all (λ point. by_itself point e) (points f e) ≡ true
points-by_itself f e = go (e.pattern.exact && is_bus e.pattern.name)
  where
    go : (b : Bool) → list_all (λ point. by_itself point e) (points_by b f e) ≡ true
    go true = refl
    go false = all-both (λ point. covers e.pattern (asked_name point)) (grant_permits e.grant) (grant_points f (point_name f e.pattern) e.grant)
        (points-named (covers e.pattern) f (point_name f e.pattern) e.grant (covers-point f e.pattern)) (points-permitted f (point_name f e.pattern) e.grant)
