-- What is counted of notes while they come: numbers by their places, and which entries are named.
use Rattle.std.specs.Prelude.{◌≡◌, ◌<◌, ℕ, ◌+◌, true, false, List, [], ◌∷◌, ◌++◌, length, count_by, get_or, slice_get, Some, option_map, string_bytes}
use Rattle.dbus_names.specs.Texts.{Text}
use Rattle.name_patterns.specs.Patterns.{covers}
use Rattle.policy_args.specs.Policy.{Policy}
use Rattle.policy_args.specs.declared.entry.Entry.{Entry}
use Rattle.policy_view.specs.Notes.{Note}
use Rattle.audit.specs.Audit.{denials, is_at, is_denial, is_named, named, recording_line, rests_on}
use Rattle.audit.specs.declared.marks.Marks.{Marks}
use Rattle.audit.specs.declared.sums.Sums.{Sums}
use Rattle.audit.specs.declared.tally.Tally.{Tally}

-- this many numbers, each the function's value at its index
pub record Counts (len : ℕ) (count : ℕ → ℕ) (numbers : List ℕ) : Type 0 where
  pub len_is : length numbers ≡ len
  pub at : (place : ℕ) → place < len → get_or numbers place 0 ≡ count place

-- each entry that covers one of the names is marked; and for the name that was looked up last nothing is left to mark
pub record Marked (entries : List Entry) (names : List Text) (marks : Marks) : Type 0 where
  pub len_is : length marks.marks.items ≡ length entries
  pub at : (place : ℕ) (entry : Entry) → slice_get entries place ≡ Some entry → get_or marks.marks.items place false ≡ is_named names entry
  pub looked : (name : Text) → option_map (λ text. string_bytes text) marks.last ≡ Some name → (entry : Entry) → covers entry.pattern name ≡ true → is_named names entry ≡ true

-- the denials of the notes by their reasons and by the entries on which they rest, and the entries that the notes name
pub record SumsOf (policy : Policy) (notes : List Note) (sums : Sums) : Type 0 where
  pub reasons : Counts 17 (λ place. denials (is_at place) notes) sums.reasons
  pub entries : Counts (length policy.entries + 1) (λ number. denials (rests_on number) notes) sums.entries
  pub named_is : Marked policy.entries (named notes) sums.named

-- and how many notes and denials there are
pub record TallyOf (policy : Policy) (notes : List Note) (tally : Tally) : Type 0 where
  pub items : tally.items ≡ length notes
  pub denied : tally.denied ≡ count_by is_denial notes
  pub sums : SumsOf policy notes tally.sums

-- a line for each tally, the first with this number
abbrev pub tally_lines : ℕ → List Tally → Text
tally_lines k [] = []
tally_lines k (tally ∷ tallies) = recording_line k tally.items tally.denied ++ tally_lines (k + 1) tallies
