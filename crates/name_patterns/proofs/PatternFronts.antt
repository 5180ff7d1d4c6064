-- The patterns that cover a name, by the prefixes of the name before its dots.
use Rattle.std.proofs.Common.{◌≡◌, ◌≢◌, ℕ, suc, ◌+◌, ◌==◌, ◌<◌, max, cond, count_by, Bool, true, false, not, ◌&&◌, ◌||◌, nat_eq, List, [], ◌∷◌, ◌++◌, length, get_or, drop, None, refl, ap, ap₂, sym, ◌∙◌, arith, length-append}
use Rattle.std.specs.Str.{bytes_eq}
use Rattle.std.specs.Str.Pattern.{RFindsChar, SplitsAroundMatch}
use Rattle.std.proofs.Math.Bool.{and-false}
use Rattle.std.proofs.lemmas.Bool.{ne_eqb}
use Rattle.std.proofs.lemmas.Cmp.{nat_eq_equiv}
use Rattle.std.proofs.lemmas.List.{take-append-drop}
use Rattle.std.proofs.lemmas.List.Sums.{sum_by-append, sum_by-cons}
use Rattle.std.proofs.lemmas.Str.Pattern.{NoCharPasses-char, drop_at_char}
use Rattle.dbus_names.specs.Texts.{begins_with}
use Rattle.name_patterns.specs.Patterns.{covers}
use Rattle.name_patterns.specs.PatternIndex.{Indexes, kept_at}
use Rattle.name_patterns.specs.Ranks.{Ranked, elements, greatest, greatest_rank, is_exact_for, is_subtree_of}
use Rattle.name_patterns.specs.declared.index.PatternIndex.{PatternIndex}
use Rattle.name_patterns.proofs.RankJoins.{max-assoc, max-none, greatest-none, greatest-or, greatest-same}

-- ---- texts

-- no byte is a dot
pub record HasNoDot (text : List ℕ) : Type 0 where
  pub at : (i : ℕ) → i < length text → get_or text i 0 ≢ 46

pub behind-first : (c : ℕ) (text : List ℕ) → HasNoDot (c ∷ text) → HasNoDot text
behind-first c text none = record { at = λ i within. none.at (suc i) (omega arith) }

begins-no_dot : (front text : List ℕ) → HasNoDot text → begins_with (front ++ 46 ∷ []) text ≡ false
begins-no_dot [] [] none = refl
begins-no_dot (x ∷ front) [] none = refl
begins-no_dot [] (c ∷ text) none = ap (λ b. b && true) (ne_eqb 46 c (λ same. none.at 0 (omega arith) (sym same)))
begins-no_dot (x ∷ front) (c ∷ text) none = ap (λ b. nat_eq x c && b) (begins-no_dot front text (behind-first c text none)) ∙ and-false (nat_eq x c)

shared : (b u v : Bool) → (b && (u || v)) ≡ ((b && u) || (b && v))
shared true u v = refl
shared false u v = refl

-- a text begins with N and a dot if the text before its last dot is N, or begins with N and a dot
begins-cut : (n front rest : List ℕ) → HasNoDot rest → begins_with (n ++ 46 ∷ []) (front ++ 46 ∷ rest) ≡ (bytes_eq front n || begins_with (n ++ 46 ∷ []) front)
begins-cut [] [] rest none = refl
begins-cut [] (c ∷ front) rest none = refl
begins-cut (x ∷ n) [] rest none = ap (λ b. nat_eq x 46 && b) (begins-no_dot n rest none) ∙ and-false (nat_eq x 46)
begins-cut (x ∷ n) (c ∷ front) rest none =
    ap (λ b. nat_eq x c && b) (begins-cut n front rest none) ∙ shared (nat_eq x c) (bytes_eq front n) (begins_with (n ++ 46 ∷ []) front)
    ∙ ap (λ b. (b && bytes_eq front n) || (nat_eq x c && begins_with (n ++ 46 ∷ []) front)) (nat_eq_equiv.symm x c)

-- the text before the last dot
pub record IsBeforeLastDot (text front : List ℕ) : Type 0 where
  pub rest : List ℕ
  pub whole : text ≡ front ++ 46 ∷ rest
  pub none : HasNoDot rest

-- what `rsplit_once` answers at a text
pub before-last_dot : (text front back : List ℕ) → SplitsAroundMatch (RFindsChar 46) text front back → IsBeforeLastDot text front
before-last_dot text front back cut = record {
  rest = drop cut.1 text;
  whole = sym (take-append-drop cut.0 text) ∙ ap₂ (λ a b. a ++ b) (sym cut.3) (drop_at_char 46 text cut.0 cut.1 cut.2.1 (omega arith));
  none = record { at = λ k within. NoCharPasses-char 46 (drop cut.1 text) k cut.2.0 (omega arith) within };
}

pub no-dot : (text : List ℕ) → RFindsChar 46 text None → HasNoDot text
no-dot text found = record { at = λ k within. NoCharPasses-char 46 text k found (omega arith) within }

pub front-shorter : (text front : List ℕ) → IsBeforeLastDot text front → length front < length text
front-shorter text front cut = omega (arith, ap length cut.whole, length-append front (46 ∷ cut.rest))

-- ---- patterns

-- the pattern is for all names below a name, among which this one is
abbrev pub is_below : List ℕ → Ranked → Bool
is_below name r = not r.0.exact && begins_with (r.0.name ++ 46 ∷ []) name

pub covers-parts : (name : List ℕ) (r : Ranked) → covers r.0 name ≡ ((is_exact_for name r || is_subtree_of name r) || is_below name r)
covers-parts name r = by r.0.exact (bytes_eq name r.0.name) (begins_with (r.0.name ++ 46 ∷ []) name)
  where
    by : (exact same below : Bool) → (same || (not exact && below)) ≡ (((exact && same) || (not exact && same)) || (not exact && below))
    by true true below = refl
    by true false below = refl
    by false same below = refl

pub below-cut : (text front : List ℕ) → IsBeforeLastDot text front → (r : Ranked) → is_below text r ≡ (is_subtree_of front r || is_below front r)
below-cut text front cut r =
    ap (λ t. is_below t r) cut.whole ∙ ap (λ b. not r.0.exact && b) (begins-cut r.0.name front cut.rest cut.none)
    ∙ shared (not r.0.exact) (bytes_eq front r.0.name) (begins_with (r.0.name ++ 46 ∷ []) front)

pub below-none : (text : List ℕ) → HasNoDot text → (r : Ranked) → is_below text r ≡ false
below-none text none r = ap (λ b. not r.0.exact && b) (begins-no_dot r.0.name text none) ∙ and-false (not r.0.exact)

-- ---- the look-ups

-- no prefix is left
pub greatest-all : (rs : List Ranked) (text : List ℕ) (rank : ℕ) → HasNoDot text → max rank (greatest (is_below text) rs) ≡ rank
greatest-all rs text rank none = ap (max rank) (greatest-none (is_below text) rs (below-none text none)) ∙ max-none rank

module _ (rs : List Ranked) (index : PatternIndex) (is : Indexes rs index) where
  -- the whole name
  pub greatest-whole : (name : List ℕ) → max (max (kept_at index name).ranks.exact (kept_at index name).ranks.subtree) (greatest (is_below name) rs) ≡ greatest_rank rs name
  greatest-whole name =
      ap (λ k. max (max k.ranks.exact k.ranks.subtree) (greatest (is_below name) rs)) (is.says name)
      ∙ ap (λ l. max l (greatest (is_below name) rs)) (sym (greatest-or (is_exact_for name) (is_subtree_of name) rs))
      ∙ sym (greatest-or (λ r. is_exact_for name r || is_subtree_of name r) (is_below name) rs)
      ∙ sym (greatest-same (λ r. covers r.0 name) (λ r. (is_exact_for name r || is_subtree_of name r) || is_below name r) rs (covers-parts name))

  -- one more prefix
  pub greatest-front : (text front : List ℕ) (rank : ℕ) → IsBeforeLastDot text front →
      max (max rank (kept_at index front).ranks.subtree) (greatest (is_below front) rs) ≡ max rank (greatest (is_below text) rs)
  greatest-front text front rank cut =
      max-assoc rank (kept_at index front).ranks.subtree (greatest (is_below front) rs)
      ∙ ap (λ k. max rank (max k.ranks.subtree (greatest (is_below front) rs))) (is.says front)
      ∙ ap (max rank) (sym (greatest-or (is_subtree_of front) (is_below front) rs)
      ∙ sym (greatest-same (is_below text) (λ r. is_subtree_of front r || is_below front r) rs (below-cut text front cut)))

-- ---- how many elements there are

abbrev dot : ℕ → ℕ
dot c = cond (c == 46) 1 0

no-dots : (text : List ℕ) → HasNoDot text → count_by (λ c. c == 46) text ≡ 0
no-dots [] none = refl
no-dots (c ∷ text) none =
    sum_by-cons dot c text ∙ ap₂ (λ b n. cond b 1 0 + n) (ne_eqb c 46 (λ same. none.at 0 (omega arith) same)) (no-dots text (behind-first c text none))

-- the last element
pub one-element : (text : List ℕ) → HasNoDot text → elements text ≡ 1
one-element text none = ap (λ n. n + 1) (no-dots text none)

counted : (front rest : List ℕ) → HasNoDot rest → count_by (λ c. c == 46) (front ++ 46 ∷ rest) ≡ count_by (λ c. c == 46) front + 1
counted front rest none = sum_by-append dot front (46 ∷ rest) ∙ ap (λ n. count_by (λ c. c == 46) front + n) (sum_by-cons dot 46 rest ∙ ap (λ n. 1 + n) (no-dots rest none))

-- a dot separates an element from those before it
pub elements-cut : (text front : List ℕ) → IsBeforeLastDot text front → elements text ≡ elements front + 1
elements-cut text front cut = ap elements cut.whole ∙ ap (λ n. n + 1) (counted front cut.rest cut.none)
