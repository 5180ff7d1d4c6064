-- The patterns of entries, kept by their keys and the numbers of the first entries that have them.
use Rattle.std.proofs.Common.{◌≡◌, ℕ, zero, suc, ◌+◌, ◌-◌, ◌≤◌, ◌<◌, Bool, true, false, ◌||◌, List, [], ◌∷◌, ◌++◌, length, map, Option, Some, None, slice_get, if◌then◌else◌, String, string_bytes, refl, ap, ap₂, sym, ◌∙◌, subst, arith, length-append, add-one}
use Rattle.std.specs.Prelude.{◌&&◌, not, option_map}
use Rattle.std.specs.List.{list_all, list_any}
use Rattle.std.specs.Str.{bytes_eq}
use Rattle.std.specs.String.{string_eq}
use Rattle.std.proofs.Math.Bool.{and-true, and-false}
use Rattle.std.proofs.lemmas.Bool.{and_from, and_parts}
use Rattle.std.proofs.lemmas.List.{map-append}
use Rattle.std.proofs.lemmas.List.Folds.{list_all-append}
use Rattle.std.proofs.lemmas.Option.{slice_get_within, slice_get-map}
use Rattle.indexmap.specs.IndexSet.{insert_key}
use Rattle.dbus_names.specs.Names.{is_unique}
use Rattle.name_patterns.specs.Patterns.{Pattern, covers, is_pattern}
use Rattle.name_patterns.proofs.PatternUnique.{covers_no_unique}
use Rattle.policy_args.specs.declared.entry.Entry.{Entry}
use Rattle.policy_args.specs.Policy.{same_pattern, with_pattern, patterns_with, patterns_of}
use Rattle.policy_args.specs.Distinct.{AreOf, Distinct, noted, pattern_at, pattern_key}

-- ---- keys

-- two patterns are equal if their keys are
pub same-key : (a b : Pattern) → same_pattern a b ≡ bytes_eq (pattern_key a) (pattern_key b)
same-key a b = by a.exact b.exact
  where
    by : (x y : Bool) → (bytes_eq a.name b.name && (if x then y else not y)) ≡ bytes_eq ((if x then 61 else 42) ∷ a.name) ((if y then 61 else 42) ∷ b.name)
    by true true = and-true (bytes_eq a.name b.name)
    by true false = and-false (bytes_eq a.name b.name)
    by false true = and-false (bytes_eq a.name b.name)
    by false false = and-true (bytes_eq a.name b.name)

any-key : (p : Pattern) (ps : List Pattern) → list_any (same_pattern p) ps ≡ list_any (bytes_eq (pattern_key p)) (map pattern_key ps)
any-key p [] = refl
any-key p (q ∷ ps) = ap₂ (λ a b. a || b) (same-key p q) (any-key p ps)

-- ---- one entry more

patterns-last : (ps : List Pattern) (es : List Entry) (e : Entry) → patterns_with ps (es ++ e ∷ []) ≡ with_pattern (patterns_with ps es) e.pattern
patterns-last ps [] e = refl
patterns-last ps (x ∷ es) e = patterns-last (with_pattern ps x.pattern) es e

at-first : (es : List Entry) (e : Entry) (n : ℕ) (p : Pattern) → pattern_at es n ≡ Some p → pattern_at (es ++ e ∷ []) n ≡ Some p
at-first es e zero p at = absurd cc
at-first es e (suc n) p at = within es n at
  where
    within : (es : List Entry) (n : ℕ) → option_map (λ x. x.pattern) (slice_get es n) ≡ Some p → option_map (λ x. x.pattern) (slice_get (es ++ e ∷ []) n) ≡ Some p
    within [] n at = absurd cc
    within (x ∷ es) zero at = at
    within (x ∷ es) (suc n) at = within es n at

at-last : (es : List Entry) (e : Entry) → pattern_at (es ++ e ∷ []) (length es + 1) ≡ Some e.pattern
at-last es e = ap (pattern_at (es ++ e ∷ [])) (add-one (length es)) ∙ ap (option_map (λ x. x.pattern)) (last es)
  where
    last : (es : List Entry) → slice_get (es ++ e ∷ []) (length es) ≡ Some e
    last [] = refl
    last (x ∷ es) = last es

abbrev head_is : List (Option Pattern) → Option Pattern
head_is [] = None
head_is (x ∷ xs) = x

abbrev tail_of : List (Option Pattern) → List (Option Pattern)
tail_of [] = []
tail_of (x ∷ xs) = xs

-- the first entry of a pattern stays the first
stays : (es : List Entry) (e : Entry) (ns : List ℕ) (ps : List Pattern) → map (pattern_at es) ns ≡ map Some ps → map (pattern_at (es ++ e ∷ [])) ns ≡ map Some ps
stays es e [] [] same = refl
stays es e [] (p ∷ ps) same = absurd cc
stays es e (n ∷ ns) [] same = absurd cc
stays es e (n ∷ ns) (p ∷ ps) same = ap₂ (λ x xs. x ∷ xs) (at-first es e n p (ap head_is same)) (stays es e ns ps (ap tail_of same))

-- with one more entry the patterns are still the entries'
pub still-of : (es : List Entry) (e : Entry) (d : Distinct) → AreOf es d → AreOf (es ++ e ∷ []) (noted d (pattern_key e.pattern) (length es + 1))
unfolding patterns_of
still-of es e d are = by (list_any (same_pattern e.pattern) (patterns_with [] es)) refl
  where
    tested : list_any (bytes_eq (pattern_key e.pattern)) d.keys ≡ list_any (same_pattern e.pattern) (patterns_with [] es)
    tested = ap (list_any (bytes_eq (pattern_key e.pattern))) are.0 ∙ sym (any-key e.pattern (patterns_with [] es))

    by : (b : Bool) → list_any (same_pattern e.pattern) (patterns_with [] es) ≡ b → AreOf (es ++ e ∷ []) (noted d (pattern_key e.pattern) (length es + 1))
    by true is =
        let more : patterns_of (es ++ e ∷ []) ≡ patterns_with [] es = patterns-last [] es e ∙ ap (λ b. if b then patterns_with [] es else patterns_with [] es ++ e.pattern ∷ []) is in
        let kept : noted d (pattern_key e.pattern) (length es + 1) ≡ d =
        ap (λ b. if b then d else record { keys = d.keys ++ pattern_key e.pattern ∷ []; firsts = d.firsts ++ (length es + 1) ∷ [] }) (tested ∙ is) in
        subst (AreOf (es ++ e ∷ [])) (sym kept) (
          are.0 ∙ ap (map pattern_key) (sym more),
          stays es e d.firsts (patterns_with [] es) are.1 ∙ ap (map Some) (sym more),
        )
    by false is =
        let more : patterns_of (es ++ e ∷ []) ≡ patterns_with [] es ++ e.pattern ∷ [] = patterns-last [] es e ∙ ap (λ b. if b then patterns_with [] es else patterns_with [] es ++ e.pattern ∷ []) is in
        let grown : noted d (pattern_key e.pattern) (length es + 1) ≡ record { keys = d.keys ++ pattern_key e.pattern ∷ []; firsts = d.firsts ++ (length es + 1) ∷ [] } =
        ap (λ b. if b then d else record { keys = d.keys ++ pattern_key e.pattern ∷ []; firsts = d.firsts ++ (length es + 1) ∷ [] }) (tested ∙ is) in
        subst (AreOf (es ++ e ∷ [])) (sym grown) (
          ap (λ ks. ks ++ pattern_key e.pattern ∷ []) are.0 ∙ sym (map-append pattern_key (patterns_with [] es) (e.pattern ∷ [])) ∙ ap (map pattern_key) (sym more),
          map-append (pattern_at (es ++ e ∷ [])) d.firsts ((length es + 1) ∷ [])
              ∙ ap₂ (λ xs x. xs ++ x ∷ []) (stays es e d.firsts (patterns_with [] es) are.1) (at-last es e)
              ∙ sym (map-append Some (patterns_with [] es) (e.pattern ∷ [])) ∙ ap (map Some) (sym more),
        )

-- ---- the number of patterns, and the place of each

tail : {A : Type 0} → List A → List A
tail [] = []
tail (x ∷ xs) = xs

same-length : {A B : Type 0} (ns : List ℕ) (ps : List A) (f : ℕ → B) (g : A → B) → map f ns ≡ map g ps → length ns ≡ length ps
unfolding tail
same-length [] [] f g same = refl
same-length [] (p ∷ ps) f g same = absurd cc
same-length (n ∷ ns) [] f g same = absurd cc
same-length (n ∷ ns) (p ∷ ps) f g same = ap suc (same-length ns ps f g (ap tail same))

pub counted : (es : List Entry) (d : Distinct) → AreOf es d → length d.firsts ≡ length (patterns_of es)
counted es d are = same-length d.firsts (patterns_of es) (pattern_at es) Some are.1

no-more : (ps : List Pattern) (es : List Entry) → length (patterns_with ps es) ≤ length ps + length es
no-more ps [] = omega arith
no-more ps (e ∷ es) =
    let later = no-more (with_pattern ps e.pattern) es in
    let one = at-most (list_any (same_pattern e.pattern) ps) in
    omega arith
  where
    at-most : (b : Bool) → length (if b then ps else ps ++ e.pattern ∷ []) ≤ length ps + 1
    at-most true = omega arith
    at-most false = omega (arith, length-append ps (e.pattern ∷ []))

pub few-patterns : (es : List Entry) → length (patterns_of es) ≤ length es
unfolding patterns_of
few-patterns es = let few = no-more [] es in omega arith

-- if the entries' patterns are in the grammar, those that are kept are
pub patterns-valid : (es : List Entry) → list_all (λ e. is_pattern e.pattern) es ≡ true → list_all is_pattern (patterns_of es) ≡ true
unfolding patterns_of
patterns-valid es valid = with-valid [] es refl valid
  where
    with-valid : (ps : List Pattern) (es : List Entry) → list_all is_pattern ps ≡ true → list_all (λ e. is_pattern e.pattern) es ≡ true → list_all is_pattern (patterns_with ps es) ≡ true
    with-valid ps [] kept valid = kept
    with-valid ps (e ∷ es) kept valid =
        let parts = and_parts _ _ valid in
        with-valid (with_pattern ps e.pattern) es (one (list_any (same_pattern e.pattern) ps) parts.0) parts.1
      where
        one : (b : Bool) → is_pattern e.pattern ≡ true → list_all is_pattern (if b then ps else ps ++ e.pattern ∷ []) ≡ true
        one true last = kept
        one false last = list_all-append is_pattern ps (e.pattern ∷ []) ∙ and_from _ _ kept (and_from _ _ last refl)

-- the first entry that has the pattern at a place
pub record FirstAt (es : List Entry) (n : ℕ) (p : Option Pattern) : Type 0 where
  pub entry : Entry
  pub positive : 1 ≤ n
  pub within : n - 1 < length es
  pub at : slice_get es (n - 1) ≡ Some entry
  pub pattern : p ≡ Some entry.pattern

first-of : (es : List Entry) (n : ℕ) (p : Pattern) → pattern_at es n ≡ Some p → FirstAt es n (Some p)
first-of es zero p at = absurd cc
first-of es (suc n) p at = by (slice_get es n) refl at
  where
    back : suc n - 1 ≡ n
    back = omega arith

    by : (o : Option Entry) → slice_get es n ≡ o → option_map (λ e. e.pattern) o ≡ Some p → FirstAt es (suc n) (Some p)
    by None is same = absurd cc
    by (Some e) is same =
        let inside : n < length es = slice_get_within es n e is in
        record { entry = e; positive = omega arith; within = omega arith; at = ap (slice_get es) back ∙ is; pattern = sym same }

pub first-at : (es : List Entry) (d : Distinct) (k n : ℕ) → AreOf es d → slice_get d.firsts k ≡ Some n → FirstAt es n (slice_get (patterns_of es) k)
first-at es d k n are at =
    let seen : option_map Some (slice_get (patterns_of es) k) ≡ Some (pattern_at es n) =
    sym (slice_get-map Some (patterns_of es) k) ∙ ap (λ xs. slice_get xs k) (sym are.1) ∙ slice_get-map (pattern_at es) d.firsts k ∙ ap (option_map (pattern_at es)) at in
    by (slice_get (patterns_of es) k) seen
  where
    by : (o : Option Pattern) → option_map Some o ≡ Some (pattern_at es n) → FirstAt es n o
    by None same = absurd cc
    by (Some p) same = let inside : Some p ≡ pattern_at es n = cc in first-of es n p (sym inside)

-- ---- the code's keys

module _ {Z : Type 0} (keys : List (String Z)) (k : String Z) (key : List ℕ) (spelled : string_bytes k ≡ key) where
  any-in : list_any (string_eq k) keys ≡ list_any (bytes_eq key) (map (λ s. string_bytes s) keys)
  any-in = along keys
    where
      along : (ks : List (String Z)) → list_any (string_eq k) ks ≡ list_any (bytes_eq key) (map (λ s. string_bytes s) ks)
      along [] = refl
      along (x ∷ ks) = ap₂ (λ a b. a || b) (ap (λ t. bytes_eq t (string_bytes x)) spelled) (along ks)

  -- a key that is new
  pub key-noted : (d : Distinct) (new : List (String Z)) (firsts : List ℕ) (number : ℕ) → record { keys = map (λ s. string_bytes s) keys; firsts = firsts } ≡ d →
      list_any (string_eq k) keys ≡ false → new ≡ insert_key string_eq keys k → record { keys = map (λ s. string_bytes s) new; firsts = firsts ++ number ∷ [] } ≡ noted d key number
  key-noted d new firsts number is absent inserted =
      let last : new ≡ keys ++ k ∷ [] = inserted ∙ ap (λ b. if b then keys else keys ++ k ∷ []) absent in
      let bytes : map (λ s. string_bytes s) new ≡ map (λ s. string_bytes s) keys ++ key ∷ [] =
      ap (map (λ s. string_bytes s)) last ∙ map-append (λ s. string_bytes s) keys (k ∷ []) ∙ ap (λ t. map (λ s. string_bytes s) keys ++ t ∷ []) spelled in
      ap (λ (ks : List (List ℕ)). record { keys = ks; firsts = firsts ++ number ∷ [] }) bytes
      ∙ sym (ap (λ b. if b then before else grown) (sym any-in ∙ absent))
      ∙ ap (λ x. noted x key number) is
    where
      before : Distinct
      before = record { keys = map (λ s. string_bytes s) keys; firsts = firsts }

      grown : Distinct
      grown = record { keys = map (λ s. string_bytes s) keys ++ key ∷ []; firsts = firsts ++ number ∷ [] }

  -- the key is there
  pub key-stands : (d : Distinct) (new : List (String Z)) (firsts : List ℕ) (number : ℕ) → record { keys = map (λ s. string_bytes s) keys; firsts = firsts } ≡ d →
      list_any (string_eq k) keys ≡ true → new ≡ insert_key string_eq keys k → record { keys = map (λ s. string_bytes s) new; firsts = firsts } ≡ noted d key number
  key-stands d new firsts number is there inserted =
      let same : new ≡ keys = inserted ∙ ap (λ b. if b then keys else keys ++ k ∷ []) there in
      ap (λ (ks : List (String Z)). record { keys = map (λ s. string_bytes s) ks; firsts = firsts }) same
      ∙ sym (ap (λ b. if b then before else grown) (sym any-in ∙ there))
      ∙ ap (λ x. noted x key number) is
    where
      before : Distinct
      before = record { keys = map (λ s. string_bytes s) keys; firsts = firsts }

      grown : Distinct
      grown = record { keys = map (λ s. string_bytes s) keys ++ key ∷ []; firsts = firsts ++ number ∷ [] }

-- ---- a test that all entries pass

pub all-last : (test : Entry → Bool) (es : List Entry) (e : Entry) → list_all test es ≡ true → test e ≡ true → list_all test (es ++ e ∷ []) ≡ true
all-last test [] e all here = and_from (test e) true here refl
all-last test (x ∷ es) e all here =
    let both = and_parts (test x) (list_all test es) all in
    and_from (test x) (list_all test (es ++ e ∷ [])) both.0 (all-last test es e both.1 here)

-- no entry covers a unique name
pub none-unique : (es : List Entry) (name : List ℕ) → list_all (λ e. is_pattern e.pattern) es ≡ true → is_unique name ≡ true → list_any (λ e. covers e.pattern name) es ≡ false
none-unique [] name all unique = refl
none-unique (e ∷ es) name all unique =
    let both = and_parts (is_pattern e.pattern) (list_all (λ e. is_pattern e.pattern) es) all in
    ap₂ (λ a b. a || b) (covers_no_unique e.pattern name both.0 unique) (none-unique es name both.1 unique)
