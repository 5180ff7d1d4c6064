-- The index of patterns by name, after one more pattern.
use Rattle.std.proofs.Common.{◌≡◌, ℕ, ◌+◌, max, Bool, true, false, not, ◌&&◌, List, [], ◌∷◌, ◌++◌, length, Some, if◌then◌else◌, refl, ap, ap₂, sym, ◌∙◌}
use Rattle.std.specs.HashMap.{get_by_text}
use Rattle.std.specs.Map.{update}
use Rattle.std.specs.Str.{bytes_eq}
use Rattle.std.specs.Cmp.Lexicographic.{bytes_decides, nat_list_eq_equiv}
use Rattle.name_patterns.specs.PatternIndex.{Indexes, Kept, kept_at, kept_in, kept_of, with_place}
use Rattle.name_patterns.specs.Ranks.{Ranked, greatest, is_exact_for, is_subtree_of, places_where}
use Rattle.name_patterns.specs.declared.index.NameEntries.{NameEntries}
use Rattle.name_patterns.specs.declared.index.NameRanks.{NameRanks}
use Rattle.name_patterns.specs.declared.index.PatternIndex.{PatternIndex}
use Rattle.name_patterns.proofs.Places.{places-last}
use Rattle.name_patterns.proofs.RankJoins.{greatest-last}

abbrev ranks : ℕ → ℕ → NameRanks
ranks exact subtree = record { exact = exact; subtree = subtree }

abbrev kept : NameRanks → List ℕ → List ℕ → Kept
kept l exact subtree = record { ranks = l; exact = exact; subtree = subtree }

-- what is kept of a name, with one more pattern
kept-last : (rs : List Ranked) (r : Ranked) (name : List ℕ) →
    kept_of (rs ++ r ∷ []) name ≡ (if bytes_eq r.0.name name then with_place r.0.exact r.1 (1 + length rs) (kept_of rs name) else kept_of rs name)
kept-last rs r name =
    ap₂ (λ l k. kept (ranks l (greatest (is_subtree_of name) (rs ++ r ∷ []))) k (places_where (is_subtree_of name) 1 (rs ++ r ∷ []))) (greatest-last (is_exact_for name) rs r) (places-last (is_exact_for name) 1 rs r)
    ∙ ap₂ (λ l k. kept (ranks (if is_exact_for name r then max (greatest (is_exact_for name) rs) r.1 else greatest (is_exact_for name) rs) l) (if is_exact_for name r then places_where (is_exact_for name) 1 rs ++ (1 + length rs) ∷ [] else places_where (is_exact_for name) 1 rs) k)
    (greatest-last (is_subtree_of name) rs r) (places-last (is_subtree_of name) 1 rs r)
    ∙ by r.0.exact (bytes_eq name r.0.name)
    ∙ ap (λ b. if b then with_place r.0.exact r.1 (1 + length rs) (kept_of rs name) else kept_of rs name) (nat_list_eq_equiv.symm name r.0.name)
  where
    by : (exact same : Bool) →
        kept (ranks (if exact && same then max (greatest (is_exact_for name) rs) r.1 else greatest (is_exact_for name) rs)
        (if not exact && same then max (greatest (is_subtree_of name) rs) r.1 else greatest (is_subtree_of name) rs))
        (if exact && same then places_where (is_exact_for name) 1 rs ++ (1 + length rs) ∷ [] else places_where (is_exact_for name) 1 rs)
        (if not exact && same then places_where (is_subtree_of name) 1 rs ++ (1 + length rs) ∷ [] else places_where (is_subtree_of name) 1 rs)
        ≡ (if same then with_place exact r.1 (1 + length rs) (kept_of rs name) else kept_of rs name)
    by true true = refl
    by true false = refl
    by false true = refl
    by false false = refl

-- what is kept of a name with one more pattern, by whether the pattern has the name
abbrev grown : List Ranked → Ranked → List ℕ → Bool → Kept
grown rs r name b = if b then with_place r.0.exact r.1 (1 + length rs) (kept_of rs name) else kept_of rs name

module _ (old new : PatternIndex) (text : List ℕ) (has : NameEntries) (sets : (name : List ℕ) → get_by_text new.by_name name ≡ update bytes_eq (get_by_text old.by_name) text (Some has) name) where
  -- what the change leaves at another name, and at its own
  at-other : (name : List ℕ) → bytes_eq text name ≡ false → kept_at new name ≡ kept_at old name
  at-other name other = ap kept_in (sets name ∙ ap (λ b. if b then Some has else get_by_text old.by_name name) other)

  at-name : (name : List ℕ) → bytes_eq text name ≡ true → kept_at new name ≡ kept_in (Some has)
  at-name name same = ap kept_in (sets name ∙ ap (λ b. if b then Some has else get_by_text old.by_name name) same)

  -- a change after which what is kept of the name is the same
  pub still-index : kept_in (Some has) ≡ kept_at old text → (rs : List Ranked) → Indexes rs old → Indexes rs new
  still-index keeps rs is = record { says = λ name. by name (bytes_eq text name) refl ∙ is.says name }
    where
      by : (name : List ℕ) (b : Bool) → bytes_eq text name ≡ b → kept_at new name ≡ kept_at old name
      by name true same = at-name name same ∙ keeps ∙ ap (kept_at old) ((bytes_decides text name).0 same)
      by name false other = at-other name other

  -- one pattern more, which is kept at its name
  pub index-added : (rs : List Ranked) (r : Ranked) → text ≡ r.0.name → Indexes rs old →
      kept_in (Some has) ≡ with_place r.0.exact r.1 (1 + length rs) (kept_at old text) → Indexes (rs ++ r ∷ []) new
  index-added rs r named is adds = record { says = λ name. by name (bytes_eq text name) refl ∙ ap (grown rs r name) (ap (λ t. bytes_eq t name) named) ∙ sym (kept-last rs r name) }
    where
      by : (name : List ℕ) (b : Bool) → bytes_eq text name ≡ b → kept_at new name ≡ grown rs r name (bytes_eq text name)
      by name true same =
          at-name name same ∙ adds
          ∙ ap (with_place r.0.exact r.1 (1 + length rs)) (ap (kept_at old) ((bytes_decides text name).0 same) ∙ is.says name)
          ∙ ap (grown rs r name) (sym same)
      by name false other = at-other name other ∙ is.says name ∙ ap (grown rs r name) (sym other)
