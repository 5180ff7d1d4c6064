-- Targets in order are the same targets, and one that is there isn't put in again.
use Rattle.std.proofs.Common.{◌≡◌, ◌⊎◌, inl, inr, List, [], ◌∷◌, ◌++◌, refl, ap, sym, ◌∙◌}
use Rattle.std.specs.BTreeSet.{insert_key}
use Rattle.std.specs.Cmp.{IsTotalOrder, then_total, tied_itself}
use Rattle.std.specs.Cmp.Lexicographic.{bytes_decides, on_texts}
use Rattle.std.specs.Ordering.{is_eq, match_ordering, ordering_reverse, ordering_then}
use Rattle.std.specs.declared.cmp.Ordering.{Ordering}
use Rattle.std.specs.declared.cmp.Ordering.TheVariants.{Less, Equal, Greater}
use Rattle.std.proofs.lemmas.Map.Text.{is_eq-slice_cmp}
use Rattle.dbus_names.specs.Texts.{Text}
use Rattle.policy_suggest.specs.Suggest.{Target, compare, compare_texts, in_order, with_targets}
use Rattle.policy_suggest.proofs.Elements.{Has}

-- ---- equal targets

text-same : (a b : Text) → compare_texts a b ≡ Equal → a ≡ b
text-same a b e = (bytes_decides a b).0 (sym (is_eq-slice_cmp a b) ∙ ap is_eq e)

both-equal : (o p : Ordering) → ordering_then o p ≡ Equal → (o ≡ Equal) × (p ≡ Equal)
both-equal Less p e = absurd cc
both-equal Equal p e = (refl, e)
both-equal Greater p e = absurd cc

pub target-same : (a b : Target) → compare a b ≡ Equal → a ≡ b
target-same a b e =
    let names = both-equal (compare_texts a.name b.name) _ e in
    let paths = both-equal (compare_texts a.path b.path) _ names.1 in
    let interfaces = both-equal (compare_texts a.interface b.interface) (compare_texts a.member b.member) paths.1 in
    ap (λ t. target t a.path a.interface a.member) (text-same a.name b.name names.0)
    ∙ ap (λ t. target b.name t a.interface a.member) (text-same a.path b.path paths.0)
    ∙ ap (λ t. target b.name b.path t a.member) (text-same a.interface b.interface interfaces.0)
    ∙ ap (λ t. target b.name b.path b.interface t) (text-same a.member b.member interfaces.1)
  where
    target : Text → Text → Text → Text → Target
    target name path interface member = record { name = name; path = path; interface = interface; member = member }

-- ---- elements

has-insert : (us : List Target) (u t : Target) → (t ≡ u) ⊎ Has t us → Has t (insert_key compare us u)
has-insert [] u t (inl e) = inl e
has-insert [] u t (inr h) = absurd h
has-insert (x ∷ xs) u t h = by (compare u x) refl h (has-insert xs u t)
  where
    by : (o : Ordering) → compare u x ≡ o → (t ≡ u) ⊎ Has t (x ∷ xs) → ((t ≡ u) ⊎ Has t xs → Has t (insert_key compare xs u)) →
        Has t (match_ordering o (u ∷ x ∷ xs) (x ∷ xs) (x ∷ insert_key compare xs u))
    by Less same (inl e) rest = inl e
    by Less same (inr h) rest = inr h
    by Equal same (inl e) rest = inl (e ∙ target-same u x same)
    by Equal same (inr h) rest = h
    by Greater same (inl e) rest = inr (rest (inl e))
    by Greater same (inr (inl e)) rest = inl e
    by Greater same (inr (inr h)) rest = inr (rest (inr h))

insert-has : (us : List Target) (u t : Target) → Has t (insert_key compare us u) → (t ≡ u) ⊎ Has t us
insert-has [] u t (inl e) = inl e
insert-has [] u t (inr h) = absurd h
insert-has (x ∷ xs) u t h = by (compare u x) h (insert-has xs u t)
  where
    by : (o : Ordering) → Has t (match_ordering o (u ∷ x ∷ xs) (x ∷ xs) (x ∷ insert_key compare xs u)) → (Has t (insert_key compare xs u) → (t ≡ u) ⊎ Has t xs) →
        (t ≡ u) ⊎ Has t (x ∷ xs)
    by Less (inl e) rest = inl e
    by Less (inr h) rest = inr h
    by Equal h rest = inr h
    by Greater (inl e) rest = inr (inl e)
    by Greater (inr h) rest = later (rest h)
      where
        later : (t ≡ u) ⊎ Has t xs → (t ≡ u) ⊎ Has t (x ∷ xs)
        later (inl e) = inl e
        later (inr k) = inr (inr k)

has-with : (before ts : List Target) (t : Target) → Has t before ⊎ Has t ts → Has t (with_targets before ts)
has-with before [] t (inl h) = h
has-with before [] t (inr h) = absurd h
has-with before (u ∷ us) t (inl h) = has-with (insert_key compare before u) us t (inl (has-insert before u t (inr h)))
has-with before (u ∷ us) t (inr (inl e)) = has-with (insert_key compare before u) us t (inl (has-insert before u t (inl e)))
has-with before (u ∷ us) t (inr (inr h)) = has-with (insert_key compare before u) us t (inr h)

with-has : (before ts : List Target) (t : Target) → Has t (with_targets before ts) → Has t before ⊎ Has t ts
with-has before [] t h = inl h
with-has before (u ∷ us) t h = by (with-has (insert_key compare before u) us t h)
  where
    first : (t ≡ u) ⊎ Has t before → Has t before ⊎ Has t (u ∷ us)
    first (inl e) = inr (inl e)
    first (inr k) = inl k

    by : Has t (insert_key compare before u) ⊎ Has t us → Has t before ⊎ Has t (u ∷ us)
    by (inl k) = first (insert-has before u t k)
    by (inr k) = inr (inr k)

pub has-ordered : (ts : List Target) (t : Target) → Has t ts → Has t (in_order ts)
has-ordered ts t h = has-with [] ts t (inr h)

pub ordered-has : (ts : List Target) (t : Target) → Has t (in_order ts) → Has t ts
ordered-has ts t h = by (with-has [] ts t h)
  where
    by : Has t [] ⊎ Has t ts → Has t ts
    by (inl k) = absurd k
    by (inr k) = k

-- ---- in order

compare-total : IsTotalOrder compare
compare-total = then_total (on_texts (λ t. t.name)) (then_total (on_texts (λ t. t.path)) (then_total (on_texts (λ t. t.interface)) (on_texts (λ t. t.member))))

pub compare-itself : (t : Target) → compare t t ≡ Equal
compare-itself t = tied_itself compare-total t

less-back : (t u : Target) → compare t u ≡ Less → compare u t ≡ Greater
less-back t u less = compare-total.antisymm u t ∙ ap ordering_reverse less

greater-back : (t u : Target) → compare t u ≡ Greater → compare u t ≡ Less
greater-back t u greater = compare-total.antisymm u t ∙ ap ordering_reverse greater

abbrev pub IsBelow : Target → List Target → Type 0
IsBelow t us = (u : Target) → Has u us → compare t u ≡ Less

abbrev pub Sorted : List Target → Type 0
Sorted [] = Unit {0}
Sorted (t ∷ ts) = IsBelow t ts × Sorted ts

sorted-insert : (ts : List Target) (k : Target) → Sorted ts → Sorted (insert_key compare ts k)
sorted-insert [] k s = ((λ u h. absurd h), tt)
sorted-insert (t ∷ ts) k s = by (compare k t) refl (sorted-insert ts k s.1)
  where
    first : compare k t ≡ Less → IsBelow k (t ∷ ts)
    first less u (inl e) = ap (compare k) e ∙ less
    first less u (inr h) = compare-total.trans k t u less (s.0 u h)

    later : compare k t ≡ Greater → (u : Target) → (u ≡ k) ⊎ Has u ts → compare t u ≡ Less
    later greater u (inl e) = ap (compare t) e ∙ greater-back k t greater
    later greater u (inr h) = s.0 u h

    by : (o : Ordering) → compare k t ≡ o → Sorted (insert_key compare ts k) → Sorted (match_ordering o (k ∷ t ∷ ts) (t ∷ ts) (t ∷ insert_key compare ts k))
    by Less is rest = (first is, s)
    by Equal is rest = s
    by Greater is rest = ((λ u h. later is u (insert-has ts k u h)), rest)

sorted-with : (before ts : List Target) → Sorted before → Sorted (with_targets before ts)
sorted-with before [] s = s
sorted-with before (t ∷ ts) s = sorted-with (insert_key compare before t) ts (sorted-insert before t s)

pub sorted-order : (ts : List Target) → Sorted (in_order ts)
sorted-order ts = sorted-with [] ts tt

-- ---- a target that is there

insert-there : (ts : List Target) (k : Target) → Sorted ts → Has k ts → insert_key compare ts k ≡ ts
insert-there [] k s h = absurd h
insert-there (t ∷ ts) k s (inl e) =
    ap (λ o. match_ordering o (k ∷ t ∷ ts) (t ∷ ts) (t ∷ insert_key compare ts k)) (ap (compare k) (sym e) ∙ compare-itself k)
insert-there (t ∷ ts) k s (inr h) =
    ap (λ o. match_ordering o (k ∷ t ∷ ts) (t ∷ ts) (t ∷ insert_key compare ts k)) (less-back t k (s.0 k h))
    ∙ ap (λ us. t ∷ us) (insert-there ts k s.1 h)

with-there : (before ts : List Target) → Sorted before → ((t : Target) → Has t ts → Has t before) → with_targets before ts ≡ before
with-there before [] s there = refl
with-there before (t ∷ ts) s there =
    ap (λ us. with_targets us ts) (insert-there before t s (there t (inl refl))) ∙ with-there before ts s (λ u h. there u (inr h))

with-append : (before ts us : List Target) → with_targets before (ts ++ us) ≡ with_targets (with_targets before ts) us
with-append before [] us = refl
with-append before (t ∷ ts) us = with-append (insert_key compare before t) ts us

-- targets that stand before aren't put in again
pub order-without : (ts us vs : List Target) → ((t : Target) → Has t us → Has t ts) → in_order (ts ++ (us ++ vs)) ≡ in_order (ts ++ vs)
order-without ts us vs there =
    with-append [] ts (us ++ vs) ∙ with-append (in_order ts) us vs
    ∙ ap (λ ks. with_targets ks vs) (with-there (in_order ts) us (sorted-order ts) (λ t h. has-ordered ts t (there t h)))
    ∙ sym (with-append [] ts vs)
