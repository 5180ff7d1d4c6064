-- Of requests that need the same entry the first suffices.
use Rattle.std.proofs.Common.{◌≡◌, ◌⊎◌, inl, inr, Bool, true, false, ◌&&◌, ◌||◌, List, [], ◌∷◌, ◌++◌, map, flat_map, if◌then◌else◌, refl, ap, ap₂, sym, ◌∙◌, subst, append_assoc, append-nil}
use Rattle.std.specs.List.{list_all, list_any}
use Rattle.std.specs.Str.{bytes_eq}
use Rattle.std.proofs.lemmas.Bool.{and_from, and_parts}
use Rattle.std.proofs.lemmas.List.Concat.{flat_map-append}
use Rattle.std.proofs.lemmas.List.Folds.{list_all-append, list_any-append}
use Rattle.dbus_names.specs.Names.{is_empty}
use Rattle.dbus_names.specs.Texts.{Text}
use Rattle.policy_args.specs.Policy.{policy_of}
use Rattle.policy_args.specs.Requests.{asked_name}
use Rattle.policy_args.specs.declared.entry.Entry.{Entry}
use Rattle.policy_args.specs.declared.entry.Grant.{Grant}
use Rattle.policy_args.specs.declared.entry.Grant.TheVariants.{See as to_see, Talk as to_talk, Own as to_own, Call as to_call}
use Rattle.policy_args.specs.declared.requests.Asked.{Asked}
use Rattle.policy_args.specs.declared.requests.Asked.TheVariants.{Call, Signal, Own, Owner, Broadcast, Property}
use Rattle.policy_suggest.specs.Needs.{is_kept, need, need_word, once, with_request, with_requests}
use Rattle.policy_suggest.specs.Suggest.{Target, asks_any_interface, asks_call, asks_own, asks_signal, entries_for, entry_for, in_order, is_asked, of_method, of_name, of_path, rule_for, ruled_targets, suggested, targets}
use Rattle.policy_suggest.proofs.Elements.{Has, all-has, any-finds, any-from, has-flat}
use Rattle.policy_suggest.proofs.Needs.{same-call, same-need, same-open, same-own, same-signal, same-targets}
use Rattle.policy_suggest.proofs.Ordered.{order-without}

-- a request that needs the same entry as one that is kept
record IsAlike (kept : List Asked) (a : Asked) : Type 0 where
  other : Asked
  has : Has other kept
  is_asked : is_asked other ≡ true
  same : need a ≡ need other

alike : (kept : List Asked) (a : Asked) → list_all is_asked kept ≡ true → is_asked a ≡ true → is_kept kept a ≡ true → IsAlike kept a
alike kept a are is there =
    let found = any-finds (λ b. bytes_eq (need_word a) (need_word b)) kept there in
    let fits = all-has is_asked kept found.0 are found.1 in
    record { other = found.0; has = found.1; is_asked = fits; same = same-need a found.0 is fits found.2 }

first-asked : (a : Asked) (all : List Asked) → list_all is_asked (a ∷ all) ≡ true → (is_asked a ≡ true) × (list_all is_asked all ≡ true)
first-asked a all are = and_parts (is_asked a) (list_all is_asked all) are

with-asked : (kept : List Asked) (a : Asked) → list_all is_asked kept ≡ true → is_asked a ≡ true → list_all is_asked (with_request kept a) ≡ true
with-asked kept a are is = by (is_kept kept a)
  where
    by : (b : Bool) → list_all is_asked (if b then kept else kept ++ a ∷ []) ≡ true
    by true = are
    by false = list_all-append is_asked kept (a ∷ []) ∙ and_from (list_all is_asked kept) (is_asked a && true) are (and_from (is_asked a) true is refl)

pub with-all-asked : (kept all : List Asked) → list_all is_asked kept ≡ true → list_all is_asked all ≡ true → list_all is_asked (with_requests kept all) ≡ true
with-all-asked kept [] are is = are
with-all-asked kept (a ∷ all) are is = let parts = first-asked a all is in with-all-asked (with_request kept a) all (with-asked kept a are parts.0) parts.1

-- ---- tests of requests

or-same : (a b : Bool) → (a ≡ true → b ≡ true) → (b || a) ≡ b
or-same true b to = ap (λ x. x || true) (to refl) ∙ sym (to refl)
or-same false true to = refl
or-same false false to = refl

or-associates : (a b c : Bool) → ((a || b) || c) ≡ (a || (b || c))
or-associates true b c = refl
or-associates false b c = refl

or-left-part : (a b c : Bool) → (b || a) ≡ b → (b || c) ≡ (b || (a || c))
or-left-part a true c is = refl
or-left-part true false c is = absurd cc
or-left-part false false c is = refl

module _ (test : Asked → Bool) (respects : (a b : Asked) → is_asked a ≡ true → is_asked b ≡ true → need a ≡ need b → test a ≡ test b) where
  any-with : (kept all : List Asked) → list_all is_asked kept ≡ true → list_all is_asked all ≡ true → list_any test (with_requests kept all) ≡ (list_any test kept || list_any test all)
  any-with kept [] are is = sym (or-none (list_any test kept))
    where
      or-none : (b : Bool) → (b || false) ≡ b
      or-none true = refl
      or-none false = refl
  any-with kept (a ∷ all) are is =
      let parts = first-asked a all is in
      any-with (with_request kept a) all (with-asked kept a are parts.0) parts.1 ∙ by (is_kept kept a) refl parts.0
    where
      by : (b : Bool) → is_kept kept a ≡ b → is_asked a ≡ true → (list_any test (if b then kept else kept ++ a ∷ []) || list_any test all) ≡ (list_any test kept || (test a || list_any test all))
      by true there fits =
          let like = alike kept a are fits there in
          or-left-part (test a) (list_any test kept) (list_any test all)
          (or-same (test a) (list_any test kept) (λ passes. any-from test kept like.other like.has (sym (respects a like.other fits like.is_asked like.same) ∙ passes)))
      by false there fits =
          ap (λ x. x || list_any test all) (list_any-append test kept (a ∷ []))
          ∙ or-associates (list_any test kept) (test a || false) (list_any test all)
          ∙ ap (λ x. list_any test kept || x) (or-associates (test a) false (list_any test all))

  any-once : (all : List Asked) → list_all is_asked all ≡ true → list_any test (once all) ≡ list_any test all
  any-once all are = any-with [] all refl are

-- ---- targets

module _ (f : Asked → List Target) (respects : (a b : Asked) → is_asked a ≡ true → is_asked b ≡ true → need a ≡ need b → f a ≡ f b) where
  order-with : (kept all : List Asked) → list_all is_asked kept ≡ true → list_all is_asked all ≡ true → in_order (flat_map f (with_requests kept all)) ≡ in_order (flat_map f kept ++ flat_map f all)
  order-with kept [] are is = ap in_order (sym (append-nil (flat_map f kept)))
  order-with kept (a ∷ all) are is =
      let parts = first-asked a all is in
      order-with (with_request kept a) all (with-asked kept a are parts.0) parts.1 ∙ by (is_kept kept a) refl parts.0
    where
      by : (b : Bool) → is_kept kept a ≡ b → is_asked a ≡ true → in_order (flat_map f (if b then kept else kept ++ a ∷ []) ++ flat_map f all) ≡ in_order (flat_map f kept ++ (f a ++ flat_map f all))
      by true there fits =
          let like = alike kept a are fits there in
          sym (order-without (flat_map f kept) (f a) (flat_map f all)
          (λ t h. has-flat f kept like.other t like.has (subst (Has t) (respects a like.other fits like.is_asked like.same) h)))
      by false there fits =
          ap in_order (ap (λ ts. ts ++ flat_map f all) (flat_map-append f kept (a ∷ []) ∙ ap (λ ts. flat_map f kept ++ ts) (append-nil (f a)))
          ∙ append_assoc (flat_map f kept) (f a) (flat_map f all))

-- ---- the suggested policy

map-same : {X Y : Type 0} (f g : X → Y) → ((x : X) → f x ≡ g x) → (xs : List X) → map f xs ≡ map g xs
map-same f g each [] = refl
map-same f g each (x ∷ xs) = ap₂ (λ y ys. y ∷ ys) (each x) (map-same f g each xs)

flat-same : {X Y : Type 0} (f g : X → List Y) → ((x : X) → f x ≡ g x) → (xs : List X) → flat_map f xs ≡ flat_map g xs
flat-same f g each [] = refl
flat-same f g each (x ∷ xs) = ap₂ (λ ys zs. ys ++ zs) (each x) (flat-same f g each xs)

abbrev grant_by : Target → Bool → Bool → Grant
grant_by t b c = if b then to_own else (if c then to_talk else (if is_empty t.path then to_see else to_call (rule_for t)))

module _ (all : List Asked) (are : list_all is_asked all ≡ true) where
  own-once : (name : Text) → list_any (asks_own name) (once all) ≡ list_any (asks_own name) all
  own-once name = any-once (asks_own name) (λ a b first second both. same-own a b first second both name) all are

  signal-once : (name : Text) → list_any (asks_signal name) (once all) ≡ list_any (asks_signal name) all
  signal-once name = any-once (asks_signal name) (λ a b first second both. same-signal a b first second both name) all are

  call-once : (name : Text) → list_any (asks_call name) (once all) ≡ list_any (asks_call name) all
  call-once name = any-once (asks_call name) (λ a b first second both. same-call a b first second both name) all are

  open-once : (name path : Text) → list_any (asks_any_interface name path) (once all) ≡ list_any (asks_any_interface name path) all
  open-once name path = any-once (asks_any_interface name path) (λ a b first second both. same-open a b first second both name path) all are

  targets-once : (a : Asked) → targets (once all) a ≡ targets all a
  targets-once a =
      ap₂ (λ b c. if b || c then of_name (asked_name a) ∷ [] else ruled a) (own-once (asked_name a)) (signal-once (asked_name a))
      ∙ ap (λ ts. if list_any (asks_own (asked_name a)) all || list_any (asks_signal (asked_name a)) all then of_name (asked_name a) ∷ [] else ts) (ruled-once a)
    where
      ruled : Asked → List Target
      ruled b = ruled_targets (once all) b

      ruled-once : (b : Asked) → ruled_targets (once all) b ≡ ruled_targets all b
      ruled-once (Call name path interface member) = ap (λ x. (if x then of_path name path else of_method name path interface member) ∷ []) (open-once name path)
      ruled-once (Signal name) = ap (λ x. if x then [] else of_name name ∷ []) (call-once name)
      ruled-once (Own name) = ap (λ x. if x then [] else of_name name ∷ []) (call-once name)
      ruled-once (Owner name) = ap (λ x. if x then [] else of_name name ∷ []) (call-once name)
      ruled-once (Broadcast name path interface member) = ap (λ x. if x then [] else of_name name ∷ []) (call-once name)
      ruled-once (Property name path interface access) = ap (λ x. if x then [] else of_name name ∷ []) (call-once name)

  entry-once : (t : Target) → entry_for (once all) t ≡ entry_for all t
  entry-once t = ap₂ (λ b c. record { pattern = record { name = t.name; exact = true }; grant = grant_by t b c }) (own-once t.name) (signal-once t.name)

  order-once : in_order (flat_map (targets (once all)) (once all)) ≡ in_order (flat_map (targets all) all)
  order-once =
      ap in_order (flat-same (targets (once all)) (targets all) targets-once (once all))
      ∙ order-with (targets all) (λ a b first second both. same-targets a b first second both all) [] all refl are

  pub suggested-once : suggested (once all) ≡ suggested all
  unfolding suggested
  suggested-once =
      ap policy_of (map-same (entry_for (once all)) (entry_for all) entry-once (in_order (flat_map (targets (once all)) (once all))) ∙ ap (map (entry_for all)) order-once)
