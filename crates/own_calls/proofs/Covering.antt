-- The entries of a policy, looked through one after the other.
use Rattle.std.proofs.Common.{◌≡◌, ℕ, ◌+◌, ◌-◌, ◌≤◌, Bool, true, false, ◌&&◌, List, [], ◌∷◌, ◌++◌, length, drop, Some, slice_get, refl, ap, ap₂, sym, ◌∙◌}
use Rattle.std.specs.Prelude.{◌||◌, not, bytes_eq}
use Rattle.std.specs.List.{list_any}
use Rattle.std.proofs.lemmas.List.{drop_all}
use Rattle.std.proofs.lemmas.Slice.Eq.{bytes_eq-Decides}
use Rattle.dbus_names.specs.Texts.{Text, begins_with}
use Rattle.name_patterns.specs.Patterns.{covers}
use Rattle.policy_args.specs.declared.entry.Entry.{Entry}
use Rattle.policy_view.specs.Sent.{is_subtree}
use Rattle.own_calls.specs.Asked.{is_below, is_covered, is_named_by}
use Rattle.own_calls.proofs.PatternCalls.{from-here}

-- ---- whether a pattern is a subtree

abbrev pub subtree_from : ℕ → List Entry → Bool
subtree_from k es = list_any is_subtree (drop k es)

pub next-subtree : (es : List Entry) (k : ℕ) (e : Entry) (b : Bool) → slice_get es (k + 1 - 1) ≡ Some e → is_subtree e ≡ b → subtree_from k es ≡ (b || subtree_from (k + 1) es)
next-subtree es k e b at is = ap (list_any is_subtree) (from-here es k e at) ∙ ap (λ c. c || subtree_from (k + 1) es) is

pub no-subtree : (es : List Entry) (k : ℕ) → length es ≤ k → subtree_from k es ≡ false
no-subtree es k le = ap (list_any is_subtree) (drop_all k es le)

-- ---- whether a name is covered

turned : (xs ys : List ℕ) → bytes_eq xs ys ≡ bytes_eq ys xs
turned xs ys = by (bytes_eq xs ys) refl (bytes_eq ys xs) refl
  where
    by : (a : Bool) → bytes_eq xs ys ≡ a → (b : Bool) → bytes_eq ys xs ≡ b → a ≡ b
    by true one true other = refl
    by true one false other = let same : bytes_eq ys xs ≡ true = (bytes_eq-Decides ys xs).1 (sym ((bytes_eq-Decides xs ys).0 one)) in cc
    by false one true other = let same : bytes_eq xs ys ≡ true = (bytes_eq-Decides xs ys).1 (sym ((bytes_eq-Decides ys xs).0 other)) in cc
    by false one false other = refl

-- an entry that isn't exactly for a name covers it as a subtree, or not at all
below-unless-named : (e : Entry) (name : Text) → is_named_by name e ≡ false → covers e.pattern name ≡ is_below name e
below-unless-named e name unnamed =
    by e.pattern.exact (bytes_eq name e.pattern.name) (begins_with (e.pattern.name ++ 46 ∷ []) name) (ap (λ s. e.pattern.exact && s) (turned name e.pattern.name) ∙ unnamed)
  where
    by : (x s f : Bool) → (x && s) ≡ false → (s || (not x && f)) ≡ (not x && (s || (not x && f)))
    by true true f other = absurd cc
    by true false f other = refl
    by false s f other = refl

-- a name that no entry names exactly is only covered by the subtrees
unnamed-covered : (es : List Entry) (name : Text) → list_any (is_named_by name) es ≡ false → list_any (λ e. covers e.pattern name) es ≡ list_any (is_below name) es
unnamed-covered [] name none = refl
unnamed-covered (e ∷ es) name none = by (is_named_by name e) refl none (unnamed-covered es name)
  where
    by : (n : Bool) → is_named_by name e ≡ n → (n || list_any (is_named_by name) es) ≡ false → (list_any (is_named_by name) es ≡ false → list_any (λ x. covers x.pattern name) es ≡ list_any (is_below name) es) →
        (covers e.pattern name || list_any (λ x. covers x.pattern name) es) ≡ (is_below name e || list_any (is_below name) es)
    by true is none others = absurd cc
    by false is none others = ap₂ (λ a b. a || b) (below-unless-named e name is) (others none)

pub covered-alone : (es : List Entry) (name : Text) → (list_any (λ e. covers e.pattern name) es && not (list_any (is_named_by name) es)) ≡ is_covered es name
covered-alone es name = by (list_any (is_named_by name) es) refl
  where
    by : (n : Bool) → list_any (is_named_by name) es ≡ n → (list_any (λ e. covers e.pattern name) es && not n) ≡ (list_any (is_below name) es && not n)
    by true is = none-of (list_any (λ e. covers e.pattern name) es) ∙ sym (none-of (list_any (is_below name) es))
      where
        none-of : (b : Bool) → (b && false) ≡ false
        none-of true = refl
        none-of false = refl
    by false is = ap (λ b. b && true) (unnamed-covered es name is)
