-- How the patterns that cover a name are found: from what is kept of each name of a pattern.
use Rattle.std.specs.Prelude.{◌≡◌, ℕ, ◌+◌, ◌<◌, ◌==◌, nat_le, min, max, map, flat_map, Bool, true, false, List, [], ◌∷◌, ◌++◌, length, Option, Some, None, if◌then◌else◌, vec_len, vec_capacity}
use Rattle.std.specs.HashMap.{get_by_text}
use Rattle.name_patterns.specs.Patterns.{Pattern}
use Rattle.name_patterns.specs.Ranks.{Ranked, greatest, is_exact_for, is_subtree_of, places_where}
use Rattle.name_patterns.specs.declared.index.NameEntries.{NameEntries}
use Rattle.name_patterns.specs.declared.index.NameRanks.{NameRanks}
use Rattle.name_patterns.specs.declared.index.PatternIndex.{PatternIndex}

-- the greatest ranks of the patterns with the name
abbrev pub ranks_of : List Ranked → List ℕ → NameRanks
ranks_of added name = record { exact = greatest (is_exact_for name) added; subtree = greatest (is_subtree_of name) added }

-- What is kept of a name: the ranks, and the places of the patterns.
pub record Kept : Type 0 where
  pub ranks : NameRanks
  pub exact : List ℕ
  pub subtree : List ℕ

abbrev pub kept_of : List Ranked → List ℕ → Kept
kept_of added name = record {
  ranks = ranks_of added name;
  exact = places_where (is_exact_for name) 1 added;
  subtree = places_where (is_subtree_of name) 1 added;
}

-- nothing is kept of a name that the index doesn't have
abbrev pub kept_in : Option NameEntries → Kept
kept_in None = record { ranks = record { exact = 0; subtree = 0 }; exact = []; subtree = [] }
kept_in (Some v) = record { ranks = v.ranks; exact = v.exact.items; subtree = v.subtree.items }

abbrev pub kept_at : PatternIndex → List ℕ → Kept
kept_at index name = kept_in (get_by_text index.by_name name)

-- the index keeps of each name what all that was added gives
pub record Indexes (added : List Ranked) (index : PatternIndex) : Type 0 where
  pub says : (name : List ℕ) → kept_at index name ≡ kept_of added name

-- ---- one more pattern

-- with its rank
abbrev pub raised : Bool → ℕ → NameRanks → NameRanks
raised true rank ranks = record { exact = max ranks.exact rank; subtree = ranks.subtree }
raised false rank ranks = record { exact = ranks.exact; subtree = max ranks.subtree rank }

-- with its rank and its place
abbrev pub with_place : Bool → ℕ → ℕ → Kept → Kept
with_place true rank place k = record { ranks = raised true rank k.ranks; exact = k.exact ++ place ∷ []; subtree = k.subtree }
with_place false rank place k = record { ranks = raised false rank k.ranks; exact = k.exact; subtree = k.subtree ++ place ∷ [] }

-- one more place needs no more memory
abbrev pub has_room : Bool → Option NameEntries → Type 0
has_room exact None = ⊥
has_room true (Some v) = vec_len v.exact < vec_capacity v.exact
has_room false (Some v) = vec_len v.subtree < vec_capacity v.subtree

-- the pattern can be added with no more memory
unfoldable pub HasRoom : PatternIndex → Pattern → Type 0
HasRoom index pattern = has_room pattern.exact (get_by_text index.by_name pattern.name)

-- ---- look-ups for a name

-- the prefixes before each dot of the text, the longest first
abbrev pub prefixes : List ℕ → List (List ℕ)
prefixes [] = []
prefixes (c ∷ text) = map (λ front. c ∷ front) (prefixes text) ++ (if c == 46 then [] ∷ [] else [])

-- the text, and its prefixes before each of its dots
abbrev pub texts_left : Option (List ℕ) → List (List ℕ)
texts_left None = []
texts_left (Some text) = text ∷ prefixes text

-- an upper bound on what is left to cut
abbrev pub bytes_left : Option (List ℕ) → ℕ
bytes_left None = 0
bytes_left (Some text) = 1 + length text

-- the places of the patterns for all names below one of the texts
abbrev pub places_below : PatternIndex → List (List ℕ) → List ℕ
places_below index texts = flat_map (λ text. (kept_at index text).subtree) texts

-- ---- the next place

-- the first that is at least `from`
abbrev pub first_from : ℕ → List ℕ → Option ℕ
first_from from [] = None
first_from from (k ∷ ks) = if nat_le from k then Some k else first_from from ks

abbrev pub lesser : Option ℕ → Option ℕ → Option ℕ
lesser None b = b
lesser (Some a) None = Some a
lesser (Some a) (Some b) = Some (min a b)
