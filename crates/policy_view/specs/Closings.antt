-- At which event the history of events gets its End.
use Rattle.std.specs.Prelude.{ℕ, ◌≡◌, ◌≤◌, ◌<◌, ◌+◌, List, [], ◌∷◌, ◌++◌, length, Option, Some, None}
use Rattle.policy_args.specs.Policy.{Policy}
use Rattle.policy_view.specs.History.{Event, history, end_of}
use Rattle.policy_view.specs.declared.End.{End}
use Rattle.policy_view.specs.declared.Mode.{Mode}

-- the first of two Ends with their numbers: an earlier one stays
abbrev pub closed_by : Option (End × ℕ) → Option End → ℕ → Option (End × ℕ)
closed_by (Some first) now n = Some first
closed_by None None n = None
closed_by None (Some end) n = Some (end, n)

-- the End of the events' history, with the number, from 1, of the first event after which the history has it; the
-- newest event is first in the list
unfoldable pub closing : Policy → Mode → List Event → Option (End × ℕ)
closing policy mode [] = None
closing policy mode (event ∷ events) = closed_by (closing policy mode events) (end_of (history policy mode (event ∷ events))) (length events + 1)

-- What `closing` means: it is absent while the history has no End, and else it is the history's End. Its number is that
-- of the first event after which there is an End: a history of fewer events has none, and one of as many or more has
-- one.
pub record ClosesFirst (policy : Policy) (mode : Mode) (events : List Event) : Type 0 where
  pub none : end_of (history policy mode events) ≡ None → closing policy mode events ≡ None
  pub some : (end : End) → end_of (history policy mode events) ≡ Some end → (n : ℕ) × (closing policy mode events ≡ Some (end, n)) × (1 ≤ n) × (n ≤ length events)
  pub before : (later earlier : List Event) (end : End) (n : ℕ) → events ≡ later ++ earlier → closing policy mode events ≡ Some (end, n) → end_of (history policy mode earlier) ≡ None → length earlier < n
  pub after : (later earlier : List Event) (end first : End) (n : ℕ) → events ≡ later ++ earlier → closing policy mode events ≡ Some (end, n) → end_of (history policy mode earlier) ≡ Some first → n ≤ length earlier
