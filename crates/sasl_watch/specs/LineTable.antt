-- The faults of the authentication phase as a table: for each kind, the bytes that are at fault. The first faulty byte
-- of a stream decides, and for one byte the first row.
use Rattle.std.specs.Prelude.{◌≡◌, ℕ, Bool, not, ◌&&◌, ◌||◌, ◌==◌, nat_lt, List, [], ◌∷◌, ◌++◌, length, drop, Option, Some, None, if◌then◌else◌}
use Rattle.std.specs.Int.{is_in_range}
use Rattle.std.specs.List.{list_any}
use Rattle.byte_lists.specs.Bytes.{is_empty}
use Rattle.sasl_watch.specs.declared.LineKind.{LineKind}
use Rattle.sasl_watch.specs.declared.LineKind.TheVariants.{NoNul, LineTooLong, BadByte, EarlyBus, Agreed}
use Rattle.sasl_watch.specs.declared.LineFault.{LineFault}
use Rattle.sasl_watch.specs.Lines.{line_fault, is_begin, agrees, is_behind_cr}

-- ---- the place of a byte

-- the lines that these bytes end, each with its LF, after the first bytes of a line
abbrev pub ended_from : List ℕ → List ℕ → List (List ℕ)
ended_from line [] = []
ended_from line (b ∷ bytes) = if b == 10 then (line ++ b ∷ []) ∷ ended_from [] bytes else ended_from (line ++ b ∷ []) bytes

-- and what follows the last LF
abbrev pub open_from : List ℕ → List ℕ → List ℕ
open_from line [] = line
open_from line (b ∷ bytes) = if b == 10 then open_from [] bytes else open_from (line ++ b ∷ []) bytes

abbrev pub ended_lines : List ℕ → List (List ℕ)
ended_lines bytes = ended_from [] bytes

abbrev pub open_line : List ℕ → List ℕ
open_line bytes = open_from [] bytes

-- ---- a byte after the bytes of its line

-- it ends the line, whose other bytes end in CR
abbrev pub is_ending : List ℕ → ℕ → Bool
is_ending line b = is_behind_cr line && b == 10

-- a line's 16,384th byte, which isn't the LF of its ending
abbrev pub is_too_long : List ℕ → ℕ → Bool
is_too_long line b = length line == 16383 && not (is_ending line b)

-- after a CR, a byte that isn't LF; elsewhere, a byte that is neither CR nor in 0x20 to 0x7E
abbrev pub is_bad_byte : List ℕ → ℕ → Bool
is_bad_byte line b = if is_behind_cr line then not (b == 10) else not (is_in_range 0x20 0x7E b || b == 13)

-- the LF of a whole line whose word is AGREE_UNIX_FD
abbrev pub is_agreed : List ℕ → ℕ → Bool
is_agreed line b = is_ending line b && agrees (line ++ b ∷ [])

-- ---- the tables

-- a kind, and the bytes that have it: those before, and the byte
abbrev pub Row : Type 0
Row = LineKind × (List ℕ → ℕ → Bool)

-- the byte belongs to the client's lines: the NUL was received, and BEGIN hasn't ended
abbrev pub in_client_line : List ℕ → Bool
in_client_line before = not (is_empty before) && not (list_any is_begin (ended_lines (drop 1 before)))

abbrev pub client_table : List Row
client_table =
    (NoNul, λ before b. is_empty before && not (b == 0))
    ∷ (LineTooLong, λ before b. in_client_line before && is_too_long (open_line (drop 1 before)) b)
    ∷ (BadByte, λ before b. in_client_line before && is_bad_byte (open_line (drop 1 before)) b)
    ∷ []

-- the byte belongs to the bus's lines: fewer than n have ended
abbrev pub in_bus_line : ℕ → List ℕ → Bool
in_bus_line n before = nat_lt (length (ended_lines before)) n

abbrev pub bus_table : ℕ → Bool → List Row
bus_table n begun =
    (EarlyBus, λ before b. not (in_bus_line n before) && not begun)
    ∷ (LineTooLong, λ before b. in_bus_line n before && is_too_long (open_line before) b)
    ∷ (BadByte, λ before b. in_bus_line n before && is_bad_byte (open_line before) b)
    ∷ (Agreed, λ before b. in_bus_line n before && is_agreed (open_line before) b)
    ∷ []

-- ---- the fault that a table finds

-- the kind of the first row that applies
abbrev pub kind_by : List Row → List ℕ → ℕ → Option LineKind
kind_by [] before b = None
kind_by (row ∷ rows) before b = if row.1 before b then Some row.0 else kind_by rows before b

abbrev pub unless_found : Option LineKind → ℕ → Option LineFault → Option LineFault
unless_found (Some kind) place later = line_fault kind place
unless_found None place later = later

-- the first byte that has a kind, after these bytes
abbrev pub first_from : List Row → List ℕ → List ℕ → Option LineFault
first_from rows before [] = None
first_from rows before (b ∷ stream) = unless_found (kind_by rows before b) (length before) (first_from rows (before ++ b ∷ []) stream)

abbrev pub first_in : List Row → List ℕ → Option LineFault
first_in rows stream = first_from rows [] stream

-- the fault of a byte of the stream; no byte before it has one
pub record IsFirst (rows : List Row) (stream : List ℕ) (f : LineFault) : Type 0 where
  pub before : List ℕ
  pub byte : ℕ
  pub behind : List ℕ
  pub parts : stream ≡ before ++ byte ∷ behind
  pub place : f.at ≡ length before
  pub kind : kind_by rows before byte ≡ Some f.kind
  pub earlier : (p q : List ℕ) (c : ℕ) → before ≡ p ++ c ∷ q → kind_by rows p c ≡ None
