-- The keys of a map by sessions, and the sessions that events name, both in ascending order.
use Rattle.std.proofs.Common.{◌≡◌, ℕ, List, [], ◌∷◌, ◌++◌, Option, Some, None, suc, true, false, refl, ap, sym, ◌∙◌, is_some}
use Rattle.std.proofs.Common.{Less, Equal, Greater}
use Rattle.std.specs.List.{AllByRecursion, slice_get}
use Rattle.std.specs.List.Sorted.{IsStrictlySortedBy}
use Rattle.std.specs.Ordering.{nat_cmp, is_eq, match_ordering}
use Rattle.std.specs.Cmp.{eq_by_cmp_equiv, nat_cmp_total}
use Rattle.std.specs.Prelude.{◌==◌}
use Rattle.std.proofs.lemmas.Bool.{false≢true, ne_eqb}
use Rattle.std.proofs.lemmas.Map.Lookups.{exact_unsigned}
use Rattle.std.proofs.lemmas.Map.Views.{tells_apart}
use Rattle.std.specs.Map.{keys_of, lookup}
use Rattle.std.specs.BTreeMap.{BTreeMap, IsOrdered, get, insert_entry, is_at}
use Rattle.std.specs.BTreeSet.{insert_key}
use Rattle.std.proofs.lemmas.Map.{lookup-none}
use Rattle.std.proofs.lemmas.Map.Entries.{btree_map_get_place, lookup_tail, none_below_head}
use Rattle.std.proofs.lemmas.Map.Keys.{sorted_tail}
use Rattle.recording.specs.Sessions.{SessionEvent, sessions_named, with_session}

-- one more key goes to its place
pub keys-inserted : {X : Type 0} (es : List (ℕ × X)) (k : ℕ) (v : X) → keys_of (insert_entry nat_cmp es k v) ≡ insert_key nat_cmp (keys_of es) k
keys-inserted [] k v = refl
keys-inserted {X} (e ∷ es) k v =
    elim (nat_cmp k e.0) as (λ o. keys_of (match_ordering o ((k, v) ∷ e ∷ es) ((e.0, v) ∷ es) (e ∷ insert_entry nat_cmp es k v)) ≡ match_ordering o (k ∷ keys_of (e ∷ es)) (keys_of (e ∷ es)) (e.0 ∷ insert_key nat_cmp (keys_of es) k)) [
      | Less ↦ refl
      | Equal ↦ refl
      | Greater ↦ ap (λ t. e.0 ∷ t) (keys-inserted es k v)
    ]

none-there : {X : Type 0} (o : Option X) → o ≡ None → is_some o ≡ true → ⊥
none-there o none some = cc

-- a key that is there changes nothing
pub keys-there : {X : Type 0} (es : List (ℕ × X)) (k : ℕ) → IsStrictlySortedBy nat_cmp (keys_of es) → is_some (lookup (is_at (nat_cmp k)) es) ≡ true → insert_key nat_cmp (keys_of es) k ≡ keys_of es
keys-there {X} [] k sorted there = absurd (none-there {X = X} None refl there)
keys-there {X} (e ∷ es) k sorted there =
    elim (nat_cmp k e.0) as (λ o. nat_cmp k e.0 ≡ o → match_ordering o (k ∷ keys_of (e ∷ es)) (keys_of (e ∷ es)) (e.0 ∷ insert_key nat_cmp (keys_of es) k) ≡ keys_of (e ∷ es)) [
      | Less ↦ λ is. absurd (none-there _ (lookup-none (is_at (nat_cmp k)) (e ∷ es) (none_below_head nat_cmp_total k e es sorted is)) there)
      | Equal ↦ λ is. refl
      | Greater ↦ λ is. ap (λ t. e.0 ∷ t) (keys-there es k (sorted_tail nat_cmp e.0 (keys_of es) sorted) (rest is))
    ] refl
  where
    rest : nat_cmp k e.0 ≡ Greater → is_some (lookup (is_at (nat_cmp k)) es) ≡ true
    rest is = ap is_some (sym (lookup_tail (is_at (nat_cmp k)) e es (ap is_eq is))) ∙ there

-- the sessions that one more event names
pub named-last : (before : List ℕ) (events : List SessionEvent) (e : SessionEvent) → sessions_named before (events ++ e ∷ []) ≡ with_session (sessions_named before events) e.session
named-last before [] e = refl
named-last before (x ∷ events) e = named-last (with_session before x.session) events e

-- what holds of the value at each place holds of each
each-place : {X : Type 0} (P : ℕ × X → Type 0) (es : List (ℕ × X)) → ((i k : ℕ) (v : X) → slice_get es i ≡ Some (k, v) → P (k, v)) → AllByRecursion P es
each-place P [] f = tt
each-place P (e ∷ es) f = (f 0 e.0 e.1 refl, each-place P es (λ i k v is. f (suc i) k v is))

-- what holds of the value at each key holds of each
pub each-entry : {X : Type 0} (P : ℕ × X → Type 0) (m : BTreeMap ℕ X) → IsOrdered nat_cmp m → ((k : ℕ) (v : X) → get nat_cmp m k ≡ Some v → P (k, v)) → AllByRecursion P m.entries
each-entry P m ordered f = each-place P m.entries (λ i k v is. f k v (btree_map_get_place nat_cmp_total m i k v ordered is))

-- ---- keys that are the same, and others

pub same-key : (k q : ℕ) → is_at (nat_cmp k) q ≡ true → k ≡ q
same-key k q is = tells_apart exact_unsigned k q is

pub here-key : (k : ℕ) → is_at (nat_cmp k) k ≡ true
here-key k = (eq_by_cmp_equiv nat_cmp_total).refl k

pub other-key : (k q : ℕ) → is_at (nat_cmp k) q ≡ false → (k == q) ≡ false
other-key k q is = ne_eqb k q (λ same. false≢true (sym is ∙ ap (is_at (nat_cmp k)) (sym same) ∙ here-key k))
