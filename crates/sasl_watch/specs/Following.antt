-- What was given of a side's stream, and how that relates to all that was pushed.
use Rattle.std.specs.Prelude.{◌≡◌, ℕ, ◌-◌, ◌<◌, ◌≤◌, Bool, true, false, List, [], ◌∷◌, ◌++◌, length, Some, None, ◌⊎◌}
use Rattle.std.specs.List.{list_any}
use Rattle.sasl_watch.specs.declared.LineKind.TheVariants.{EarlyBus}
use Rattle.sasl_watch.specs.declared.LineFault.{LineFault}
use Rattle.sasl_watch.specs.declared.NextLine.{NextLine}
use Rattle.sasl_watch.specs.declared.NextLine.TheVariants.{Nul, Line, Begin, Done, Incomplete, Bad}
use Rattle.sasl_watch.specs.Lines.{Cut, joined, is_begin, client_cut, client_lines, has_begun, after_begin, asked, client_fault, bus_cut, bus_lines, after_lines, bus_fault}
use Rattle.sasl_watch.specs.Watching.{Watch, client_ahead, bus_ahead}

-- these lines, and then those of a cut
abbrev pub behind : List (List ℕ) → Cut → Cut
behind given c = record { lines = given ++ c.lines; fault = c.fault }

-- a fault, and no whole line before it
abbrev pub only_fault : LineFault → Cut
only_fault f = record { lines = []; fault = Some f }

-- ---- the client

-- of all that was pushed these lines were given, none of which is BEGIN, and what is left has the others and the fault
pub record ClientFollows (pushed : List ℕ) (given : List (List ℕ)) (w : Watch) : Type 0 where
  pub parts : pushed ≡ joined given ++ w.left
  pub place : w.place ≡ length (joined given)
  pub unbegun : list_any is_begin given ≡ false
  pub cut : client_cut pushed ≡ behind given (client_ahead w)
  pub told : (f : LineFault) → w.bad ≡ Some f → client_ahead w ≡ only_fault f

-- BEGIN is given: it is the last line
pub record ClientEnds (pushed : List ℕ) (given : List (List ℕ)) (line : List ℕ) (new : Watch) : Type 0 where
  pub lines : client_lines pushed ≡ given ++ line ∷ []
  pub begun : has_begun pushed ≡ true
  pub asked : asked pushed ≡ length given - 1
  pub sound : client_fault pushed ≡ None
  pub left : after_begin pushed ≡ new.left

-- all whole lines were given, and there is no fault
pub record ClientWaits (pushed : List ℕ) (given : List (List ℕ)) (new : Watch) : Type 0 where
  pub follows : ClientFollows pushed given new
  pub lines : client_lines pushed ≡ given
  pub unbegun : has_begun pushed ≡ false
  pub asked : asked pushed ≡ length given - 1
  pub sound : client_fault pushed ≡ None

-- all whole lines before the fault were given
pub record ClientFails (pushed : List ℕ) (given : List (List ℕ)) (f : LineFault) (new : Watch) : Type 0 where
  pub follows : ClientFollows pushed given new
  pub lines : client_lines pushed ≡ given
  pub unbegun : has_begun pushed ≡ false
  pub fault : client_fault pushed ≡ Some f
  pub told : new.bad ≡ Some f

-- what is given next is the next line of all that was pushed; or there is none, and its fault is reported
abbrev pub ClientTells : List ℕ → List (List ℕ) → NextLine → Watch → Type 0
ClientTells pushed given Nul new = (given ≡ []) × ClientFollows pushed ((0 ∷ []) ∷ []) new
ClientTells pushed given (Line line) new = ClientFollows pushed (given ++ line ∷ []) new
ClientTells pushed given (Begin line) new = ClientEnds pushed given line new
ClientTells pushed given Incomplete new = ClientWaits pushed given new
ClientTells pushed given (Bad f) new = ClientFails pushed given f new
ClientTells pushed given Done new = ⊥

-- ---- the bus

-- the fault of what is left, or of its first byte, which was too early
abbrev pub IsTold : Watch → LineFault → Type 0
IsTold w f = (bus_ahead w ≡ only_fault f) ⊎ ((0 < length w.left) × (f ≡ record { kind = EarlyBus; at = w.place }))

-- of all that was pushed these lines were given, and what is left has the others and the fault
pub record BusFollows (pushed : List ℕ) (given : List (List ℕ)) (w : Watch) : Type 0 where
  pub parts : pushed ≡ joined given ++ w.left
  pub place : w.place ≡ length (joined given)
  pub cut : bus_cut pushed ≡ behind given (bus_ahead w)
  pub told : (f : LineFault) → w.bad ≡ Some f → IsTold w f

-- all lines that were asked for were given
pub record BusEnds (pushed : List ℕ) (given : List (List ℕ)) (n : ℕ) (begun : Bool) (new : Watch) : Type 0 where
  pub follows : BusFollows pushed given new
  pub all : length given ≡ n
  pub seen : begun ≡ true
  pub lines : bus_lines n pushed ≡ given
  pub sound : bus_fault n begun pushed ≡ None
  pub left : after_lines n pushed ≡ new.left

-- all whole lines were given, and there is no fault
pub record BusWaits (pushed : List ℕ) (given : List (List ℕ)) (n : ℕ) (begun : Bool) (new : Watch) : Type 0 where
  pub follows : BusFollows pushed given new
  pub lines : bus_lines n pushed ≡ given
  pub sound : bus_fault n begun pushed ≡ None
  pub none_left : after_lines n pushed ≡ []

-- the first reported fault is the stream's, for the lines that were asked for then; later it is reported again
pub record BusFails (pushed : List ℕ) (given : List (List ℕ)) (n : ℕ) (begun : Bool) (old : Watch) (f : LineFault) (new : Watch) : Type 0 where
  pub follows : BusFollows pushed given new
  pub told : new.bad ≡ Some f
  pub fault : old.bad ≡ None → bus_fault n begun pushed ≡ Some f
  pub lines : old.bad ≡ None → bus_lines n pushed ≡ given
  pub again : (g : LineFault) → old.bad ≡ Some g → g ≡ f

-- what is given next, if n lines were asked for and BEGIN was seen or not
abbrev pub BusTells : List ℕ → List (List ℕ) → ℕ → Bool → Watch → NextLine → Watch → Type 0
BusTells pushed given n begun old (Line line) new = (length (given ++ line ∷ []) ≤ n) × BusFollows pushed (given ++ line ∷ []) new
BusTells pushed given n begun old Done new = BusEnds pushed given n begun new
BusTells pushed given n begun old Incomplete new = BusWaits pushed given n begun new
BusTells pushed given n begun old (Bad f) new = BusFails pushed given n begun old f new
BusTells pushed given n begun old Nul new = ⊥
BusTells pushed given n begun old (Begin line) new = ⊥

-- a reported fault is the stream's whenever more lines were asked for than were given; or the byte was too early: no
-- more were asked for, and BEGIN wasn't seen
abbrev pub BusFault : List ℕ → List (List ℕ) → LineFault → Type 0
BusFault pushed given f =
    ((n : ℕ) (begun : Bool) → length given < n → (bus_fault n begun pushed ≡ Some f) × (bus_lines n pushed ≡ given))
    ⊎ ((bus_fault (length given) false pushed ≡ Some f) × (bus_lines (length given) pushed ≡ given))
