-- What is first in the bytes that are left.
use Rattle.std.specs.Prelude.{◌≡◌, ℕ, ◌+◌, ◌-◌, ◌<◌, ◌≤◌, Bool, true, false, if◌then◌else◌, List, [], length, take, drop, slice_index, None}
use Rattle.std.specs.Int.{is_in_range}
use Rattle.sasl_watch.specs.declared.LineKind.{LineKind}
use Rattle.sasl_watch.specs.declared.LineKind.TheVariants.{Agreed}
use Rattle.sasl_watch.specs.declared.front.Front.{Front}
use Rattle.sasl_watch.specs.declared.front.Front.TheVariants.{Partial, Whole, Faulty}
use Rattle.sasl_watch.specs.Lines.{Cut, with_line, cut_from, line_fault}

-- the bytes of a line before its ending
abbrev pub is_plain : ℕ → Bool
is_plain b = is_in_range 0x20 0x7E b

-- this number of first bytes are plain, and one more could still end a line
pub record Plain (count : ℕ) (left : List ℕ) : Type 0 where
  pub few : count ≤ 16383
  pub within : count ≤ length left
  pub each : (k : ℕ) → k < count → is_plain (slice_index left k) ≡ true

-- and no more
pub record PlainFront (count : ℕ) (left : List ℕ) : Type 0 where
  pub plain : Plain count left
  pub ends : count < 16383 → count < length left → is_plain (slice_index left count) ≡ false

-- no whole line, and no fault
abbrev pub nothing : Cut
nothing = record { lines = []; fault = None }

-- no whole line before a fault
abbrev pub faulty : LineKind → ℕ → Cut
faulty kind at = record { lines = []; fault = line_fault kind at }

-- a whole line and those of the rest, or its fault
pub record IsWhole (len : ℕ) (left : List ℕ) : Type 0 where
  pub ending : 2 ≤ len
  pub within : len ≤ length left
  pub cut : (refused : List ℕ → Bool) (place : ℕ) → cut_from refused place [] left
      ≡ (if refused (take len left) then faulty Agreed (place + (len - 1)) else with_line (take len left) (cut_from refused (place + len) [] (drop len left)))

pub record IsFaulty (kind : LineKind) (ahead : ℕ) (left : List ℕ) : Type 0 where
  pub within : ahead < length left
  pub cut : (refused : List ℕ → Bool) (place : ℕ) → cut_from refused place [] left ≡ faulty kind (place + ahead)

-- what the lines of these bytes begin with, whichever lines are refused and wherever they are
abbrev pub IsFront : List ℕ → Front → Type 0
IsFront left Partial = (refused : List ℕ → Bool) (place : ℕ) → cut_from refused place [] left ≡ nothing
IsFront left (Whole len) = IsWhole len left
IsFront left (Faulty kind ahead) = IsFaulty kind ahead left
