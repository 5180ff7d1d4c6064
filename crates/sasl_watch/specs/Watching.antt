-- What is taken from the lines of a side, and what contracts see of the side before and after.
use Rattle.std.specs.Prelude.{◌≡◌, ℕ, ◌+◌, ◌<◌, Bool, true, false, ◌==◌, if◌then◌else◌, List, [], ◌∷◌, ◌++◌, length, Option, Some, None, ◌⊎◌}
use Rattle.sasl_watch.specs.declared.LineKind.TheVariants.{EarlyBus}
use Rattle.sasl_watch.specs.declared.LineFault.{LineFault}
use Rattle.sasl_watch.specs.declared.NextLine.{NextLine}
use Rattle.sasl_watch.specs.declared.NextLine.TheVariants.{Nul, Line, Begin, Done, Incomplete, Bad}
use Rattle.sasl_watch.specs.Lines.{Cut, with_line, cut_from, client_cut, is_begin, agrees}

-- the number of bytes that were taken, the bytes received after them, and the fault that was reported
pub record Watch : Type 0 where
  pub place : ℕ
  pub left : List ℕ
  pub bad : Option LineFault

abbrev pub at_start : Watch
at_start = record { place = 0; left = []; bad = None }

-- what is left, cut into lines
abbrev pub client_ahead : Watch → Cut
client_ahead w = if w.place == 0 then client_cut w.left else cut_from (λ line. false) w.place [] w.left

abbrev pub bus_ahead : Watch → Cut
bus_ahead w = cut_from agrees w.place [] w.left

-- the first line is taken
pub record Takes (ahead : Watch → Cut) (old : Watch) (line : List ℕ) (new : Watch) : Type 0 where
  pub sound : old.bad ≡ None
  pub parts : old.left ≡ line ++ new.left
  pub is : new ≡ record { place = old.place + length line; left = new.left; bad = None }
  pub cut : ahead old ≡ with_line line (ahead new)

-- no whole line is left, and no fault
pub record Waits (ahead : Watch → Cut) (old new : Watch) : Type 0 where
  pub sound : old.bad ≡ None
  pub same : new ≡ old
  pub cut : ahead old ≡ record { lines = []; fault = None }

-- a fault that was reported before
abbrev pub TellsAgain : Watch → LineFault → Watch → Type 0
TellsAgain old f new = (old.bad ≡ Some f) × (new ≡ old)

-- a fault before the end of the first line
pub record Tells (ahead : Watch → Cut) (old : Watch) (f : LineFault) (new : Watch) : Type 0 where
  pub sound : old.bad ≡ None
  pub cut : ahead old ≡ record { lines = []; fault = Some f }
  pub is : new ≡ record old { bad = Some f }

-- the bus sent a byte when no line waited for its answer and BEGIN wasn't seen
pub record TellsEarly (unanswered : ℕ) (begun : Bool) (old : Watch) (f : LineFault) (new : Watch) : Type 0 where
  pub none : unanswered ≡ 0
  pub unseen : begun ≡ false
  pub sound : old.bad ≡ None
  pub some : 0 < length old.left
  pub early : f ≡ record { kind = EarlyBus; at = old.place }
  pub is : new ≡ record old { bad = Some f }

-- no byte was received, no line waits for its answer, and BEGIN wasn't seen
pub record WaitsForBegin (unanswered : ℕ) (begun : Bool) (old new : Watch) : Type 0 where
  pub none : unanswered ≡ 0
  pub unseen : begun ≡ false
  pub sound : old.bad ≡ None
  pub empty : old.left ≡ []
  pub same : new ≡ old

-- all lines were answered, and BEGIN was seen
pub record Ends (unanswered : ℕ) (begun : Bool) (old new : Watch) : Type 0 where
  pub none : unanswered ≡ 0
  pub seen : begun ≡ true
  pub sound : old.bad ≡ None
  pub same : new ≡ old

-- whether a result takes bytes
abbrev pub is_taken : NextLine → Bool
is_taken Nul = true
is_taken (Line line) = true
is_taken (Begin line) = true
is_taken Done = false
is_taken Incomplete = false
is_taken (Bad f) = false

-- the number of bytes of the stream that were received
abbrev pub came : Watch → ℕ
came w = w.place + length w.left

-- what the client's lines give
abbrev pub ClientGives : Watch → NextLine → Watch → Type 0
ClientGives old Nul new = (old.place ≡ 0) × Takes client_ahead old (0 ∷ []) new
ClientGives old (Line line) new = (0 < old.place) × (is_begin line ≡ false) × Takes client_ahead old line new
ClientGives old (Begin line) new = (0 < old.place) × (is_begin line ≡ true) × Takes client_ahead old line new
ClientGives old Incomplete new = Waits client_ahead old new
ClientGives old (Bad f) new = TellsAgain old f new ⊎ Tells client_ahead old f new
ClientGives old Done new = ⊥

-- what the bus's lines give, if this number of the client's lines wait for their answer, and BEGIN was seen or not
abbrev pub BusGives : ℕ → Bool → Watch → NextLine → Watch → Type 0
BusGives unanswered begun old (Line line) new = (0 < unanswered) × Takes bus_ahead old line new
BusGives unanswered begun old Done new = Ends unanswered begun old new
BusGives unanswered begun old Incomplete new = ((0 < unanswered) × Waits bus_ahead old new) ⊎ WaitsForBegin unanswered begun old new
BusGives unanswered begun old (Bad f) new = TellsAgain old f new ⊎ (((0 < unanswered) × Tells bus_ahead old f new) ⊎ TellsEarly unanswered begun old f new)
BusGives unanswered begun old Nul new = ⊥
BusGives unanswered begun old (Begin line) new = ⊥
