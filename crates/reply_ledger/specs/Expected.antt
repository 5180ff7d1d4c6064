-- The answers that are expected: a queue of entries, each with its position, and the others.
use Rattle.std.specs.Prelude.{◌≡◌, ◌≢◌, ◌<◌, ◌≤◌, ◌+◌, ℕ, Option, None, IsSome, List, [], ◌∷◌, All, length, slice_get}
use Rattle.std.specs.List.{AllPairs}
use Rattle.std.specs.Option.{option_map}
use Rattle.std.specs.Ordering.{nat_cmp}
use Rattle.std.specs.FinMap.{FinMap, from_entries, get, insert}
use Rattle.reply_ledger.specs.declared.kind.Kind.{Kind}
use Rattle.reply_ledger.specs.declared.expected.Awaited.{Awaited}

-- what answers are for, by position
abbrev pub Kinds : Type 0
Kinds = FinMap nat_cmp Kind

-- a search tree's entries as a map
abbrev pub kinds_of : List (ℕ × Kind) → Kinds
kinds_of entries = from_entries entries

-- the others, with the queue's entries
abbrev pub with_queue : Kinds → List Awaited → Kinds
with_queue others [] = others
with_queue others (first ∷ rest) = with_queue (insert others first.position first.kind) rest

-- the position of the queue's i-th entry, if there is one
abbrev pub position_at : List Awaited → ℕ → Option ℕ
position_at queue i = option_map (λ a. a.position) (slice_get queue i)

-- each position is below those after it
abbrev pub IsAscending : List Awaited → Type 0
IsAscending queue = AllPairs (λ a b. a.position < b.position) queue

-- no entry of the queue has the position
abbrev pub IsAbsent : List Awaited → ℕ → Type 0
IsAbsent queue position = All (λ a. a.position ≢ position) queue

-- the queue's positions ascend, and the others have none of them
pub record IsInOrder (others : Kinds) (queue : List Awaited) : Type 0 where
  pub ascending : IsAscending queue
  pub apart : All (λ a. get others a.position ≡ None) queue

-- The cost of finding one answer: at most two look-ups, and one for each answer that is passed over. Each of those is
-- expected, and its message was sent earlier.
pub record TakeCost (expected : Kinds) (position before after : ℕ) : Type 0 where
  pub passed : List ℕ
  pub ascending : AllPairs (λ a b. a < b) passed
  pub earlier : All (λ p. p < position) passed
  pub are_expected : All (λ p. IsSome (get expected p)) passed
  pub steps : after ≤ before + 2 + length passed
