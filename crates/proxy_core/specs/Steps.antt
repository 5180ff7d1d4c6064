-- What a session does with a piece, as a function on its model.
use Rattle.std.specs.Prelude.{◌≡◌, ◌≤◌, ◌⊎◌, ℕ, zero, suc, ◌+◌, ◌-◌, ◌*◌, Bool, true, false, not, ◌||◌, ◌==◌, nat_lt, List, [], ◌∷◌, ◌++◌, length, take, drop, Option, Some, None, if◌then◌else◌, is_none}
use Rattle.dbus_names.specs.Names.{is_empty}
use Rattle.dbus_header.specs.Message.{Message}
use Rattle.dbus_header.specs.Malformed.{fault, front}
use Rattle.dbus_header.specs.declared.Malformed.{Malformed}
use Rattle.policy_args.specs.Policy.{Policy}
use Rattle.policy_view.specs.History.{longest_stream, finished, malformed}
use Rattle.policy_view.specs.Sent.{own_calls, spelled_from}
use Rattle.policy_view.specs.declared.Fault.TheVariants.{Line as OfLine, Message as OfMessage}
use Rattle.policy_view.specs.declared.Side.{Side}
use Rattle.policy_view.specs.declared.Side.TheVariants.{Client, Bus}
use Rattle.policy_view.specs.declared.visible.Visible.{Visible as Element}
use Rattle.policy_view.specs.declared.visible.Visible.TheVariants as element
use Rattle.policy_view.specs.declared.End.{End}
use Rattle.policy_view.specs.declared.End.TheVariants.{Memory}
use Rattle.sasl_watch.specs.Lines.{Cut, is_begin, for_bus}
use Rattle.sasl_watch.specs.Watching.{client_ahead, bus_ahead}
use Rattle.sasl_watch.specs.declared.LineFault.{LineFault}
use Rattle.sasl_watch.specs.declared.LineKind.TheVariants.{EarlyBus}
use Rattle.proxy_core.specs.Streams.{StreamView, Phase, InLines, InMessages, is_in_lines, pushed, watch_at}
use Rattle.proxy_core.specs.Sessions.{SessionView, stream_of, IsFront}
use Rattle.proxy_core.specs.Messages.{ended_by, if_watched, with_watched_message, KeepsSides}

abbrev pub with_stream : Side → StreamView → SessionView → SessionView
with_stream Client s view = record view { client = s }
with_stream Bus s view = record view { bus = s }

-- ---- a line of a stream

-- the stream after a line that begins at the place
abbrev pub behind_line : ℕ → List ℕ → ℕ → StreamView → StreamView
behind_line place line n s = record s { phase = InLines (place + length line) None; left = drop (length line) s.left; lines = s.lines + n }

abbrev pub in_messages : StreamView → StreamView
in_messages s = record s { phase = InMessages }

abbrev pub begun_if : Bool → StreamView → StreamView
begun_if begin s = if begin then in_messages s else s

-- the bus answers neither the NUL nor BEGIN
abbrev pub asks : ℕ → List ℕ → ℕ
asks place line = if place == 0 || is_begin line then 0 else 1

-- the elements that wait, followed by the line if the session watches
abbrev pub visible_with_line : Side → List ℕ → SessionView → List Element
visible_with_line side line view = view.visible ++ if_watched view.watches (element.Line side line ∷ [])

-- a line of the client is sent to the bus, and messages follow BEGIN
abbrev pub with_client_line : ℕ → List ℕ → SessionView → SessionView
with_client_line place line view = record view {
  bus_side = view.bus_side ++ for_bus line;
  client = begun_if (is_begin line) (behind_line place line (asks place line) view.client);
  visible = visible_with_line Client line view;
}

-- a line of the bus is sent to the client
abbrev pub with_bus_line : ℕ → List ℕ → SessionView → SessionView
with_bus_line place line view = record view {
  client_side = view.client_side ++ line;
  bus = behind_line place line 1 view.bus;
  visible = visible_with_line Bus line view;
}

abbrev pub with_line : Side → ℕ → List ℕ → SessionView → SessionView
with_line Client place line view = with_client_line place line view
with_line Bus place line view = with_bus_line place line view

-- the fault after a stream's whole lines, if there is one, becomes the session's End
abbrev pub with_line_fault : Side → ℕ → Option LineFault → SessionView → SessionView
with_line_fault side place None view = view
with_line_fault side place (Some f) view =
    ended_by (malformed side (OfLine f)) (with_stream side (record (stream_of side view) { phase = InLines place (Some f) }) view)

-- with the first line taken, or the fault; and whether more may follow
abbrev pub with_lines : Side → ℕ → List (List ℕ) → Option LineFault → SessionView → SessionView × Bool
with_lines side place [] f view = (with_line_fault side place f view, false)
with_lines side place (line ∷ lines) f view = (with_line side place line view, true)

abbrev pub with_cut : Side → ℕ → Cut → SessionView → SessionView × Bool
with_cut side place cut view = with_lines side place cut.lines cut.fault view

-- the number of the client's lines that the bus hasn't answered
abbrev pub unanswered : SessionView → ℕ
unanswered view = view.client.lines - view.bus.lines

abbrev pub has_begun : SessionView → Bool
has_begun view = not (is_in_lines view.client.phase)

-- if the bus has answered all lines, messages follow BEGIN; before BEGIN, a byte is a fault
abbrev pub with_all_answered : ℕ → SessionView → SessionView × Bool
with_all_answered place view =
    if has_begun view then (record view { bus = in_messages view.bus }, true)
    else (with_line_fault Bus place (if is_empty view.bus.left then None else Some (record { kind = EarlyBus; at = place })) view, false)

abbrev pub line_step : Side → ℕ → SessionView → SessionView × Bool
line_step Client place view = with_cut Client place (client_ahead (watch_at place None view.client.left)) view
line_step Bus place view =
    if unanswered view == 0 then with_all_answered place view
    else with_cut Bus place (bus_ahead (watch_at place None view.bus.left)) view

-- ---- a message of a stream

abbrev pub with_left : Side → List ℕ → SessionView → SessionView
with_left side left view = with_stream side (record (stream_of side view) { left = left }) view

-- the fault, if there is one, becomes the session's End
abbrev pub with_fault : Side → Option Malformed → SessionView → SessionView
with_fault side None view = view
with_fault side (Some f) view = ended_by (malformed side (OfMessage f)) view

-- and whether the session still runs
abbrev pub and_runs : SessionView → SessionView × Bool
and_runs view = (view, is_none view.ended)

-- with the first message taken, or the fault; and whether more may follow
abbrev pub with_front : Policy → Side → Option (Message × List ℕ) → SessionView → SessionView × Bool
with_front policy side None view = (with_fault side (fault (stream_of side view).left) view, false)
with_front policy side (Some x) view = and_runs (with_watched_message policy side x.0 (with_left side x.1 view))

-- ---- raw bytes

-- they are sent to the other side unchanged
abbrev pub with_raw : Side → List ℕ → SessionView → SessionView
with_raw Client bytes view = record view { bus_side = view.bus_side ++ bytes }
with_raw Bus bytes view = record view { client_side = view.client_side ++ bytes }

-- all that is left is sent, and no more may follow
abbrev pub raw_step : Side → SessionView → SessionView × Bool
raw_step side view = (with_raw side (stream_of side view).left (with_left side [] view), false)

-- ---- the start of a stream

-- the lines are followed by messages, if these are filtered, or by raw bytes
abbrev pub behind_lines : Policy → Side → SessionView → SessionView × Bool
behind_lines policy side view = if view.mode.filter then with_front policy side (front (stream_of side view).left) view else raw_step side view

-- a fault that was reported is reported again
abbrev pub step_at : Policy → Side → Phase → SessionView → SessionView × Bool
step_at policy side (InLines place None) view = line_step side place view
step_at policy side (InLines place (Some f)) view = (with_line_fault side place (Some f) view, false)
step_at policy side InMessages view = behind_lines policy side view

abbrev pub step_of : Policy → Side → SessionView → SessionView × Bool
step_of policy side view = step_at policy side (stream_of side view).phase view

abbrev pub more_if : SessionView × Bool → (SessionView → SessionView) → SessionView
more_if x others = if x.1 then others x.0 else x.0

-- one line or message after the other, at most this many, or all that is left
abbrev pub drained : Policy → Side → ℕ → SessionView → SessionView
drained policy side zero view = view
drained policy side (suc n) view = more_if (step_of policy side view) (drained policy side n)

-- ---- a piece

-- bytes are appended to what is left of a side's stream
abbrev pub with_pushed : Side → List ℕ → SessionView → SessionView
with_pushed side bytes view = with_stream side (pushed bytes (stream_of side view)) view

-- and are processed; each line and message has at least one byte, and the end of the lines none
abbrev pub with_more : Policy → Side → List ℕ → SessionView → SessionView
with_more policy side bytes view =
    drained policy side (length ((stream_of side view).left ++ bytes) + 2) (with_pushed side bytes view)

-- the bytes of a side's stream for which it still has room
abbrev pub with_bytes : Policy → Side → List ℕ → SessionView → SessionView
with_bytes policy side bytes view = if is_empty bytes then view else with_more policy side bytes view

-- the side's end, if the session still runs
abbrev pub end_unless : Option End → End → SessionView → SessionView
end_unless None end view = ended_by end view
end_unless (Some before) end view = view

-- and if the piece is longer than the room in its stream
abbrev pub closed_if : Bool → Side → SessionView → SessionView
closed_if over side view = if over then end_unless view.ended (finished side) view else view

-- the number of bytes for which a side's stream still has room
abbrev pub room_of : Side → SessionView → ℕ
room_of side view = longest_stream - (stream_of side view).came

abbrev pub with_piece : Policy → Side → List ℕ → SessionView → SessionView
with_piece policy side piece view =
    closed_if (nat_lt (room_of side view) (length piece)) side (with_bytes policy side (take (room_of side view) piece) view)

-- ---- what waits only grows

-- what waited for either side, the notes, and the elements are prefixes of what waits now
pub record Grows (old new : SessionView) : Type 0 where
  pub for_bus : IsFront old.bus_side new.bus_side
  pub for_client : IsFront old.client_side new.client_side
  pub noted : IsFront old.notes new.notes
  pub watched : IsFront old.visible new.visible

-- ---- memory that was refused

-- what waits for either side, the notes and the elements are unchanged
pub record KeepsWaiting (old new : SessionView) : Type 0 where
  pub mode : new.mode ≡ old.mode
  pub bus_side : new.bus_side ≡ old.bus_side
  pub client_side : new.client_side ≡ old.client_side
  pub notes : new.notes ≡ old.notes
  pub numbered : new.numbered ≡ old.numbered
  pub watches : new.watches ≡ old.watches
  pub visible : new.visible ≡ old.visible

-- at one message, which then has no effect
pub record IsRefusedAtOnce (old new : SessionView) : Type 0 where
  pub running : old.ended ≡ None
  pub ended : new.ended ≡ Some Memory
  pub kept : KeepsSides old new

abbrev pub TookMessage : SessionView → SessionView → SessionView → Type 0
TookMessage expected old new = (new ≡ expected) ⊎ IsRefusedAtOnce old new

-- at one line, which then has no effect, or at the end of the lines
pub record IsCutOff (old new : SessionView) : Type 0 where
  pub ended : new.ended ≡ Some Memory
  pub kept : KeepsWaiting old new
  pub client : length new.client.left ≤ length old.client.left
  pub bus : length new.bus.left ≤ length old.bus.left
  pub greeted : new.greeted ≡ old.greeted

abbrev pub Did : SessionView → SessionView → SessionView → Bool → Type 0
Did expected old new goes = ((new ≡ expected) × (goes ≡ true)) ⊎ (IsCutOff old new × (goes ≡ false))

-- for a line: nothing that waits changed, except that the line may be among the elements
pub record MayHaveKept (old new : SessionView) : Type 0 where
  pub running : new.ended ≡ old.ended
  pub mode : new.mode ≡ old.mode
  pub bus_side : new.bus_side ≡ old.bus_side
  pub client_side : new.client_side ≡ old.client_side
  pub notes : new.notes ≡ old.notes
  pub numbered : new.numbered ≡ old.numbered
  pub watches : new.watches ≡ old.watches
  pub visible : IsFront old.visible new.visible
  pub client : length new.client.left ≤ length old.client.left
  pub bus : new.bus ≡ old.bus
  pub greeted : new.greeted ≡ old.greeted

-- at the start of a stream: what is there then has no effect on what waits
pub record IsStopped (old new : SessionView) : Type 0 where
  pub running : old.ended ≡ None
  pub ended : new.ended ≡ Some Memory
  pub kept : KeepsWaiting old new

abbrev pub Stepped : SessionView × Bool → SessionView → SessionView → Bool → Type 0
Stepped expected old new more = ((new ≡ expected.0) × (more ≡ expected.1)) ⊎ (IsStopped old new × (more ≡ false))

-- this number of lines and messages were taken one after the other, and after each more may follow
abbrev pub WentOn : Policy → Side → ℕ → SessionView → SessionView → Type 0
WentOn policy side zero old new = new ≡ old
WentOn policy side (suc n) old new = (mid : SessionView) × WentOn policy side n old mid × (step_of policy side mid ≡ (new, true))

-- After these, which had their whole effect, what came first in the stream had none.
pub record IsRefused (policy : Policy) (side : Side) (old new : SessionView) : Type 0 where
  pub steps : ℕ
  pub mid : SessionView
  pub went : WentOn policy side steps old mid
  pub stopped : IsStopped mid new

-- the result is as expected, or memory was refused in between
abbrev pub Took : Policy → Side → SessionView → SessionView → SessionView → Type 0
Took policy side expected old new = (new ≡ expected) ⊎ IsRefused policy side old new

-- ---- how much waits

-- the number of bytes of the proxy's own calls that follow the first Hello, if it hasn't been sent yet
abbrev pub own_to_come : Policy → Bool → ℕ
own_to_come policy greeted = if greeted then 0 else length (spelled_from 0 (own_calls policy))

-- At most nineteen bytes are put out for one that is received, and the own calls once: what waits for either side, with
-- nineteen for each byte that isn't yet a whole line or message, and the own calls that are still to be sent.
abbrev pub weight : Policy → SessionView → ℕ
weight policy view =
    length view.bus_side + length view.client_side + 19 * (length view.client.left + length view.bus.left) + own_to_come policy view.greeted

-- after this number of bytes was received
pub record IsLight (policy : Policy) (n : ℕ) (old new : SessionView) : Type 0 where
  pub mode : new.mode ≡ old.mode
  pub watches : new.watches ≡ old.watches
  pub weighs : weight policy new ≤ weight policy old + 19 * n
