-- The effects of the private functions: the elements that begin with `z`, one entry's points, and the lowest of
-- numbers.
use Rattle.std.specs.Prelude.{ℕ, ◌==◌, Bool, true, ◌&&◌, nat_lt, List, [], ◌∷◌, ◌++◌, find, Option, Some, None, Result, Ok, Err, codes, if◌then◌else◌}
use Rattle.dbus_names.specs.Texts.{Text, begins_with}
use Rattle.policy_args.specs.Policy.{Policy}
use Rattle.policy_args.specs.declared.entry.Entry.{Entry}
use Rattle.policy_args.specs.declared.requests.Asked.{Asked}
use Rattle.policy_within.specs.Elements.{is_among}
use Rattle.policy_within.specs.Points.{points}
use Rattle.policy_within.specs.Within.{is_refused, lowest_of}

-- ---- words that begin with `z`, each once

abbrev pub with_text : List Text → Text → List Text
with_text words text = if is_among words text then words else words ++ text ∷ []

abbrev pub with_z : List Text → Text → List Text
with_z words text = if begins_with (codes "z") text then with_text words text else words

-- ---- numbers

-- an ascending list with one more number
abbrev pub with_number : ℕ → List ℕ → List ℕ
with_number n [] = n ∷ []
with_number n (k ∷ numbers) = if nat_lt n k then n ∷ k ∷ numbers else (if n == k then k ∷ numbers else k ∷ with_number n numbers)

abbrev pub is_below : ℕ → Option ℕ → Bool
is_below n None = true
is_below n (Some least) = nat_lt n least

-- the lowest number so far that passes, after one more number
abbrev pub with_lower : (ℕ → Bool) → Option ℕ → ℕ → Option ℕ
with_lower test least n = if is_below n least && test n then Some n else least

-- ---- one entry

abbrev pub cover_by : List ℕ → Option Asked → Result (List ℕ) Asked
cover_by numbers None = Ok numbers
cover_by numbers (Some asked) = Err asked

-- the lowest entries that permit an entry's points, or the first point that the policy refuses
abbrev pub cover_of : Policy → Text → Entry → Result (List ℕ) Asked
cover_of b f e = cover_by (lowest_of b.entries (points f e)) (find (is_refused b) (points f e))
