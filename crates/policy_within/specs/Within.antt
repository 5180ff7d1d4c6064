-- Whether one policy is within another: the first request that only it permits, or the entries of the other that permit
-- what each entry permits.
use Rattle.std.specs.Prelude.{◌≡◌, ℕ, ◌+◌, ◌==◌, Bool, true, false, not, ◌&&◌, List, [], ◌∷◌, length, filter, flat_map, find, Option, Some, None, slice_get, option_to_list}
use Rattle.std.specs.List.{list_any, range_with_len}
use Rattle.name_patterns.specs.Patterns.{covers}
use Rattle.policy_args.specs.Levels.{numbers_where}
use Rattle.policy_args.specs.Policy.{Policy, entry_at, policy_of}
use Rattle.policy_args.specs.Requests.{asked_name, is_request, permits}
use Rattle.policy_args.specs.declared.entry.Entry.{Entry}
use Rattle.policy_args.specs.declared.requests.Asked.{Asked}
use Rattle.policy_args.specs.Requests.{grant_permits}
use Rattle.policy_within.specs.Elements.{fresh}
use Rattle.policy_within.specs.Points.{points}
use Rattle.policy_within.specs.declared.answer.CoveredEntry.{CoveredEntry}
use Rattle.policy_within.specs.declared.answer.WithinAnswer.{WithinAnswer}
use Rattle.policy_within.specs.declared.answer.WithinAnswer.TheVariants.{Yes, No}

-- ---- one entry

-- the entry covers the request's name, and its grant permits the request
abbrev pub by_itself : Asked → Entry → Bool
by_itself asked e = covers e.pattern (asked_name asked) && grant_permits e.grant asked

-- the lowest number, from 1, of an entry that permits the request by itself
abbrev pub lowest : List Entry → Asked → Option ℕ
lowest entries asked = slice_get (numbers_where (by_itself asked) 1 entries) 0

abbrev pub is_number : ℕ → Option ℕ → Bool
is_number n None = false
is_number n (Some k) = n == k

-- the lowest entries that permit one of the requests by themselves: ascending, each once
abbrev pub lowest_of : List Entry → List Asked → List ℕ
lowest_of entries requests = filter (λ n. list_any (λ asked. is_number n (lowest entries asked)) requests) (range_with_len 1 (length entries))

-- ---- the answer

abbrev pub is_refused : Policy → Asked → Bool
is_refused policy asked = not (permits policy asked)

-- the first point that the other policy doesn't permit
unfoldable pub first_refused : Policy → Policy → Option Asked
first_refused a b = find (is_refused b) (flat_map (points (fresh b.entries)) a.entries)

unfoldable pub covered_by : Policy → Entry → List ℕ
covered_by b e = lowest_of b.entries (points (fresh b.entries) e)

-- the entries from a number on, each with the entries that permit what it permits
abbrev pub covered_from : Policy → ℕ → List Entry → List CoveredEntry
covered_from b n [] = []
covered_from b n (e ∷ es) = record { entry = n; by = covered_by b e } ∷ covered_from b (n + 1) es

abbrev pub answer_by : Policy → Policy → Option Asked → WithinAnswer
answer_by a b None = Yes (covered_from b 1 a.entries)
answer_by a b (Some asked) = No asked

abbrev pub answer_of : Policy → Policy → WithinAnswer
answer_of a b = answer_by a b (first_refused a b)

-- ---- what the answer says

abbrev pub is_yes : WithinAnswer → Bool
is_yes (Yes covered) = true
is_yes (No asked) = false

-- a request that one policy permits and the other doesn't
pub record Separates (a b : Policy) (asked : Asked) : Type 0 where
  pub request : is_request asked ≡ true
  pub permitted : permits a asked ≡ true
  pub refused : permits b asked ≡ false

-- the entries of these numbers
abbrev pub entries_at : List Entry → List ℕ → List Entry
entries_at entries numbers = flat_map (λ n. option_to_list (entry_at entries n)) numbers

-- a policy of these entries of the other permits each request that the entry permits by itself
abbrev pub ArePermitted : Policy → Entry → List ℕ → Type 0
ArePermitted b e numbers = (asked : Asked) → is_request asked ≡ true → by_itself asked e ≡ true → permits (policy_of (entries_at b.entries numbers)) asked ≡ true

-- each entry has its place in the list, with entries that permit what it permits
abbrev pub AreCovered : Policy → ℕ → List Entry → List CoveredEntry → Type 0
AreCovered b n [] [] = Unit {0}
AreCovered b n (e ∷ es) (c ∷ covered) = (c.entry ≡ n) × ArePermitted b e c.by × AreCovered b (n + 1) es covered
AreCovered b n _ _ = ⊥

abbrev pub Tells : Policy → Policy → WithinAnswer → Type 0
Tells a b (Yes covered) = AreCovered b 1 a.entries covered
Tells a b (No asked) = Separates a b asked
