-- What is kept of the names in requests says what the requests say.
use Rattle.std.proofs.Common.{◌≡◌, Bool, true, false, ◌&&◌, ◌||◌, List, [], ◌∷◌, ◌++◌, Some, None, if◌then◌else◌, flat_map, map, refl, ap, ap₂, sym, ◌∙◌}
use Rattle.std.specs.BTreeSet.{insert_key}
use Rattle.std.specs.Cmp.Lexicographic.{nat_list_eq_equiv}
use Rattle.std.specs.List.{list_any}
use Rattle.std.specs.Ordering.{is_eq, match_ordering, ordering_then}
use Rattle.std.specs.Str.{bytes_eq}
use Rattle.std.specs.declared.cmp.Ordering.{Ordering}
use Rattle.std.specs.declared.cmp.Ordering.TheVariants.{Less, Equal, Greater}
use Rattle.std.proofs.lemmas.Map.Text.{is_eq-slice_cmp}
use Rattle.dbus_names.specs.Texts.{Text}
use Rattle.dbus_names.specs.Names.{is_empty}
use Rattle.policy_args.specs.Policy.{entry_word, entry_word_by}
use Rattle.policy_args.specs.Requests.{asked_name}
use Rattle.policy_args.specs.declared.entry.Grant.TheVariants.{See as to_see, Talk as to_talk, Own as to_own, Call as to_call}
use Rattle.policy_args.specs.declared.requests.Asked.{Asked}
use Rattle.policy_args.specs.declared.requests.Asked.TheVariants.{Call, Signal, Own, Owner, Broadcast, Property}
use Rattle.policy_suggest.specs.Facts.{facts_of, gathered, no_facts, noted, noted_all, of_call, some_of, target_by, word_by}
use Rattle.policy_suggest.specs.Seen.{has}
use Rattle.policy_suggest.specs.Suggest.{Target, asks_any_interface, asks_call, asks_own, asks_signal, compare, compare_texts, entry_for, has_level, in_order, of_method, of_name, of_path, rule_for, targets, with_targets}
use Rattle.policy_suggest.specs.declared.facts.Facts.{Facts}
use Rattle.policy_suggest.proofs.Ordered.{target-same}

-- ---- one target more

twice : (a b : Bool) → (a || b) ≡ (a || (a || b))
twice true b = refl
twice false b = refl

turned : (a b c : Bool) → (a || (b || c)) ≡ (b || (a || c))
turned true true c = refl
turned true false c = refl
turned false b c = refl

has-one-more : (us : List Target) (u t : Target) → has (insert_key compare us u) t ≡ (is_eq (compare t u) || has us t)
has-one-more [] u t = refl
has-one-more (x ∷ xs) u t = by (compare u x) refl (has-one-more xs u t)
  where
    by : (o : Ordering) → compare u x ≡ o → has (insert_key compare xs u) t ≡ (is_eq (compare t u) || has xs t) →
        has (match_ordering o (u ∷ x ∷ xs) (x ∷ xs) (x ∷ insert_key compare xs u)) t ≡ (is_eq (compare t u) || has (x ∷ xs) t)
    by Less is rest = refl
    by Equal is rest = twice (is_eq (compare t x)) (has xs t) ∙ ap (λ y. is_eq (compare t y) || has (x ∷ xs) t) (sym (target-same u x is))
    by Greater is rest = ap (λ b. is_eq (compare t x) || b) rest ∙ turned (is_eq (compare t x)) (is_eq (compare t u)) (has xs t)

-- ---- equal targets

first-equal : (o : Ordering) → is_eq (ordering_then o Equal) ≡ is_eq o
first-equal Less = refl
first-equal Equal = refl
first-equal Greater = refl

both-equal : (o p : Ordering) → is_eq (ordering_then o (ordering_then p Equal)) ≡ (is_eq o && is_eq p)
both-equal Less p = refl
both-equal Equal p = first-equal p
both-equal Greater p = refl

text-equal : (a b : Text) → is_eq (compare_texts a b) ≡ bytes_eq b a
text-equal a b = is_eq-slice_cmp a b ∙ nat_list_eq_equiv.symm a b

name-equal : (a b : Text) → is_eq (compare (of_name a) (of_name b)) ≡ bytes_eq b a
name-equal a b = first-equal (compare_texts a b) ∙ text-equal a b

path-equal : (a p b q : Text) → is_eq (compare (of_path a p) (of_path b q)) ≡ (bytes_eq b a && bytes_eq q p)
path-equal a p b q = both-equal (compare_texts a b) (compare_texts p q) ∙ ap₂ (λ u v. u && v) (text-equal a b) (text-equal p q)

-- ---- one request more

owned-more : (f : Facts) (a : Asked) (name : Text) → has (noted f a).owned (of_name name) ≡ (asks_own name a || has f.owned (of_name name))
owned-more f (Call n path None member) name = refl
owned-more f (Call n path (Some interface) member) name = refl
owned-more f (Signal n) name = refl
owned-more f (Own n) name = has-one-more f.owned (of_name n) (of_name name) ∙ ap (λ b. b || has f.owned (of_name name)) (name-equal name n)
owned-more f (Owner n) name = refl
owned-more f (Broadcast n path interface member) name = refl
owned-more f (Property n path interface access) name = refl

signalled-more : (f : Facts) (a : Asked) (name : Text) → has (noted f a).signalled (of_name name) ≡ (asks_signal name a || has f.signalled (of_name name))
signalled-more f (Call n path None member) name = refl
signalled-more f (Call n path (Some interface) member) name = refl
signalled-more f (Signal n) name = has-one-more f.signalled (of_name n) (of_name name) ∙ ap (λ b. b || has f.signalled (of_name name)) (name-equal name n)
signalled-more f (Own n) name = refl
signalled-more f (Owner n) name = refl
signalled-more f (Broadcast n path interface member) name = refl
signalled-more f (Property n path interface access) name = refl

called-more : (f : Facts) (a : Asked) (name : Text) → has (noted f a).called (of_name name) ≡ (asks_call name a || has f.called (of_name name))
called-more f (Call n path None member) name = has-one-more f.called (of_name n) (of_name name) ∙ ap (λ b. b || has f.called (of_name name)) (name-equal name n)
called-more f (Call n path (Some interface) member) name = has-one-more f.called (of_name n) (of_name name) ∙ ap (λ b. b || has f.called (of_name name)) (name-equal name n)
called-more f (Signal n) name = refl
called-more f (Own n) name = refl
called-more f (Owner n) name = refl
called-more f (Broadcast n path interface member) name = refl
called-more f (Property n path interface access) name = refl

and-true : (b : Bool) → b ≡ (b && true)
and-true true = refl
and-true false = refl

and-none : (b : Bool) → false ≡ (b && false)
and-none true = refl
and-none false = refl

opened-more : (f : Facts) (a : Asked) (name path : Text) → has (noted f a).opened (of_path name path) ≡ (asks_any_interface name path a || has f.opened (of_path name path))
opened-more f (Call n p None member) name path =
    has-one-more f.opened (of_path n p) (of_path name path)
    ∙ ap (λ b. b || has f.opened (of_path name path)) (path-equal name path n p ∙ and-true (bytes_eq n name && bytes_eq p path))
opened-more f (Call n p (Some interface) member) name path = ap (λ b. b || has f.opened (of_path name path)) (and-none (bytes_eq n name && bytes_eq p path))
opened-more f (Signal n) name path = refl
opened-more f (Own n) name path = refl
opened-more f (Owner n) name path = refl
opened-more f (Broadcast n p interface member) name path = refl
opened-more f (Property n p interface access) name path = refl

-- ---- all requests

module _ (kept : Facts → List Target) (t : Target) (asks : Asked → Bool) (more : (f : Facts) (a : Asked) → has (kept (noted f a)) t ≡ (asks a || has (kept f) t)) where
  after-all : (f : Facts) (all : List Asked) → has (kept (noted_all f all)) t ≡ (has (kept f) t || list_any asks all)
  after-all f [] = or-none (has (kept f) t)
    where
      or-none : (b : Bool) → b ≡ (b || false)
      or-none true = refl
      or-none false = refl
  after-all f (a ∷ all) = after-all (noted f a) all ∙ ap (λ b. b || list_any asks all) (more f a) ∙ moved (asks a) (has (kept f) t) (list_any asks all)
    where
      moved : (a b c : Bool) → ((a || b) || c) ≡ (b || (a || c))
      moved true true c = refl
      moved true false c = refl
      moved false true c = refl
      moved false false c = refl

module _ (all : List Asked) where
  owned-is : (name : Text) → has (facts_of all).owned (of_name name) ≡ list_any (asks_own name) all
  owned-is name = after-all (λ f. f.owned) (of_name name) (asks_own name) (λ f a. owned-more f a name) no_facts all

  signalled-is : (name : Text) → has (facts_of all).signalled (of_name name) ≡ list_any (asks_signal name) all
  signalled-is name = after-all (λ f. f.signalled) (of_name name) (asks_signal name) (λ f a. signalled-more f a name) no_facts all

  called-is : (name : Text) → has (facts_of all).called (of_name name) ≡ list_any (asks_call name) all
  called-is name = after-all (λ f. f.called) (of_name name) (asks_call name) (λ f a. called-more f a name) no_facts all

  opened-is : (name path : Text) → has (facts_of all).opened (of_path name path) ≡ list_any (asks_any_interface name path) all
  opened-is name path = after-all (λ f. f.opened) (of_path name path) (asks_any_interface name path) (λ f a. opened-more f a name path) no_facts all

  level-is : (name : Text) → (has (facts_of all).owned (of_name name) || has (facts_of all).signalled (of_name name)) ≡ has_level all name
  level-is name = ap₂ (λ a b. a || b) (owned-is name) (signalled-is name)

  -- ---- targets

  of-name : (a : Asked) → some_of (if has (facts_of all).owned (of_name (asked_name a)) || has (facts_of all).signalled (of_name (asked_name a)) then Some (of_name (asked_name a)) else (if has (facts_of all).called (of_name (asked_name a)) then None else Some (of_name (asked_name a))))
      ≡ (if has_level all (asked_name a) then of_name (asked_name a) ∷ [] else (if list_any (asks_call (asked_name a)) all then [] else of_name (asked_name a) ∷ []))
  of-name a =
      by (has (facts_of all).owned (of_name (asked_name a)) || has (facts_of all).signalled (of_name (asked_name a))) (has (facts_of all).called (of_name (asked_name a)))
      ∙ ap₂ (λ b c. if b then of_name (asked_name a) ∷ [] else (if c then [] else of_name (asked_name a) ∷ [])) (level-is (asked_name a)) (called-is (asked_name a))
    where
      by : (b c : Bool) → some_of (if b then Some (of_name (asked_name a)) else (if c then None else Some (of_name (asked_name a)))) ≡ (if b then of_name (asked_name a) ∷ [] else (if c then [] else of_name (asked_name a) ∷ []))
      by true c = refl
      by false true = refl
      by false false = refl

  target-is : (a : Asked) → some_of (target_by (facts_of all) a) ≡ targets all a
  target-is (Call name path interface member) =
      by (has (facts_of all).owned (of_name name) || has (facts_of all).signalled (of_name name)) (of_call (facts_of all) name path interface member)
      ∙ ap₂ (λ b c. if b then of_name name ∷ [] else (if c then of_path name path else of_method name path interface member) ∷ []) (level-is name) (opened-is name path)
    where
      by : (b : Bool) (t : Target) → some_of (if b then Some (of_name name) else Some t) ≡ (if b then of_name name ∷ [] else t ∷ [])
      by true t = refl
      by false t = refl
  target-is (Signal name) = of-name (Signal name)
  target-is (Own name) = of-name (Own name)
  target-is (Owner name) = of-name (Owner name)
  target-is (Broadcast name path interface member) = of-name (Broadcast name path interface member)
  target-is (Property name path interface access) = of-name (Property name path interface access)

  with-both : (before xs ys : List Target) → with_targets before (xs ++ ys) ≡ with_targets (with_targets before xs) ys
  with-both before [] ys = refl
  with-both before (x ∷ xs) ys = with-both (insert_key compare before x) xs ys

  gathered-from : (before : List Target) (asked : List Asked) → gathered (facts_of all) before asked ≡ with_targets before (flat_map (targets all) asked)
  gathered-from before [] = refl
  gathered-from before (a ∷ asked) =
      ap (λ ts. gathered (facts_of all) (with_targets before ts) asked) (target-is a)
      ∙ gathered-from (with_targets before (targets all a)) asked
      ∙ sym (with-both before (targets all a) (flat_map (targets all) asked))

  pub gathered-all : gathered (facts_of all) [] all ≡ in_order (flat_map (targets all) all)
  gathered-all = gathered-from [] all

  -- ---- words

  word-is : (t : Target) → word_by (facts_of all) t ≡ entry_word (entry_for all t)
  word-is t =
      ap₂ (λ a b. entry_word_by t.name (if a then to_own else (if b then to_talk else (if is_empty t.path then to_see else to_call (rule_for t))))) (owned-is t.name) (signalled-is t.name)

  pub words-are : (ts : List Target) → map (word_by (facts_of all)) ts ≡ map entry_word (map (entry_for all) ts)
  words-are [] = refl
  words-are (t ∷ ts) = ap₂ (λ w ws. w ∷ ws) (word-is t) (words-are ts)
