-- What a piece leaves unchanged: the mode, whether the session watches, the other side's stream, and the number of
-- bytes received from its own side. No End that it brings is that of refused memory.
use Rattle.std.proofs.Common.{ℕ, zero, suc, ◌≡◌, Bool, true, false, cond, List, [], ◌∷◌, Option, Some, None, refl, ap, ◌∙◌}
use Rattle.std.specs.Prelude.{◌==◌}
use Rattle.dbus_names.specs.Names.{is_empty}
use Rattle.dbus_header.specs.Message.{Message}
use Rattle.dbus_header.specs.Malformed.{fault as message_fault}
use Rattle.dbus_header.specs.declared.Malformed.{Malformed}
use Rattle.sasl_watch.specs.Lines.{is_begin}
use Rattle.sasl_watch.specs.Watching.{client_ahead, bus_ahead}
use Rattle.sasl_watch.specs.declared.LineFault.{LineFault}
use Rattle.sasl_watch.specs.declared.LineKind.TheVariants.{EarlyBus}
use Rattle.policy_args.specs.Policy.{Policy}
use Rattle.policy_view.specs.History.{finished, malformed}
use Rattle.policy_view.specs.declared.End.{End}
use Rattle.policy_view.specs.declared.Fault.{Fault}
use Rattle.policy_view.specs.declared.Fault.TheVariants.{Line as OfLine, Message as OfMessage}
use Rattle.policy_view.specs.declared.Side.{Side}
use Rattle.policy_view.specs.declared.Side.TheVariants.{Client, Bus}
use Rattle.proxy_core.specs.Streams.{StreamView, Phase, InLines, InMessages, watch_at}
use Rattle.proxy_core.specs.Sessions.{SessionView, stream_of, is_memory}
use Rattle.proxy_core.specs.Messages.{ended_by}
use Rattle.proxy_core.specs.Steps.{with_stream, with_left, behind_line, in_messages, begun_if, asks, with_line_fault, with_lines, with_all_answered, unanswered, has_begun, with_fault, with_front, with_raw, raw_step, step_at, step_of, more_if, drained}
use Rattle.proxy_core.proofs.Keeping.{IsKept, watched_kept}
use Rattle.dbus_header.specs.Malformed.{front}

-- ---- what a piece leaves as it was

abbrev pub other : Side → Side
other Client = Bus
other Bus = Client

pub record Untouched (side : Side) (old new : SessionView) : Type 0 where
  pub mode : new.mode ≡ old.mode
  pub watches : new.watches ≡ old.watches
  pub came : (stream_of side new).came ≡ (stream_of side old).came
  pub other_is : stream_of (other side) new ≡ stream_of (other side) old
  pub remembers : is_memory old.ended ≡ false → is_memory new.ended ≡ false

pub untouched_all : (side : Side) (view : SessionView) → Untouched side view view
untouched_all side view = record { mode = refl; watches = refl; came = refl; other_is = refl; remembers = λ f. f }

pub untouched_then : (side : Side) (a b c : SessionView) → Untouched side a b → Untouched side b c → Untouched side a c
untouched_then side a b c p q = record { mode = q.mode ∙ p.mode; watches = q.watches ∙ p.watches; came = q.came ∙ p.came; other_is = q.other_is ∙ p.other_is; remembers = λ f. q.remembers (p.remembers f) }

stream_untouched : (side : Side) (s : StreamView) (view : SessionView) → s.came ≡ (stream_of side view).came → Untouched side view (with_stream side s view)
stream_untouched Client s view e = record { mode = refl; watches = refl; came = e; other_is = refl; remembers = λ f. f }
stream_untouched Bus s view e = record { mode = refl; watches = refl; came = e; other_is = refl; remembers = λ f. f }

pub ended_untouched : (side : Side) (end : End) (view : SessionView) → is_memory (Some end) ≡ false → Untouched side view (ended_by end view)
ended_untouched Client end view other = record { mode = refl; watches = refl; came = refl; other_is = refl; remembers = λ f. other }
ended_untouched Bus end view other = record { mode = refl; watches = refl; came = refl; other_is = refl; remembers = λ f. other }

-- the Ends of a side's stream
malformed_remembers : (side : Side) (fault : Fault) → is_memory (Some (malformed side fault)) ≡ false
malformed_remembers Client fault = refl
malformed_remembers Bus fault = refl

pub finished_remembers : (side : Side) → is_memory (Some (finished side)) ≡ false
finished_remembers Client = refl
finished_remembers Bus = refl

kept_untouched : (side : Side) (old new : SessionView) → IsKept old new → Untouched side old new
kept_untouched Client old new k = record { mode = k.mode; watches = k.watches; came = ap (λ (s : StreamView). s.came) k.client; other_is = k.bus; remembers = k.remembers }
kept_untouched Bus old new k = record { mode = k.mode; watches = k.watches; came = ap (λ (s : StreamView). s.came) k.bus; other_is = k.client; remembers = k.remembers }

begun_came : (b : Bool) (s : StreamView) → (begun_if b s).came ≡ s.came
begun_came true s = refl
begun_came false s = refl

line_fault_untouched : (side : Side) (place : ℕ) (o : Option LineFault) (view : SessionView) → Untouched side view (with_line_fault side place o view)
line_fault_untouched side place None view = untouched_all side view
line_fault_untouched side place (Some f) view =
    untouched_then side view (with_stream side (record (stream_of side view) { phase = InLines place (Some f) }) view) _ (stream_untouched side (record (stream_of side view) { phase = InLines place (Some f) }) view refl) (ended_untouched side _ _ (malformed_remembers side (OfLine f)))

lines_untouched : (side : Side) (place : ℕ) (ls : List (List ℕ)) (o : Option LineFault) (view : SessionView) → Untouched side view (with_lines side place ls o view).0
lines_untouched side place [] o view = line_fault_untouched side place o view
lines_untouched Client place (l ∷ ls) o view = record { mode = refl; watches = refl; came = begun_came (is_begin l) (behind_line place l (asks place l) view.client); other_is = refl; remembers = λ f. f }
lines_untouched Bus place (l ∷ ls) o view = record { mode = refl; watches = refl; came = refl; other_is = refl; remembers = λ f. f }

answered_untouched : (b : Bool) (o : Option LineFault) (place : ℕ) (view : SessionView) → Untouched Bus view (cond {A = SessionView × Bool} b (record view { bus = in_messages view.bus }, true) (with_line_fault Bus place o view, false)).0
answered_untouched true o place view = record { mode = refl; watches = refl; came = refl; other_is = refl; remembers = λ f. f }
answered_untouched false o place view = line_fault_untouched Bus place o view

module _ (policy : Policy) where
  fault_untouched : (side : Side) (o : Option Malformed) (view : SessionView) → Untouched side view (with_fault side o view)
  fault_untouched side None view = untouched_all side view
  fault_untouched side (Some f) view = ended_untouched side _ view (malformed_remembers side (OfMessage f))

  front_untouched : (side : Side) (o : Option (Message × List ℕ)) (view : SessionView) → Untouched side view (with_front policy side o view).0
  front_untouched side None view = fault_untouched side (message_fault (stream_of side view).left) view
  front_untouched side (Some x) view =
      untouched_then side view (with_left side x.1 view) (with_front policy side (Some x) view).0 (stream_untouched side (record (stream_of side view) { left = x.1 }) view refl)
      (kept_untouched side (with_left side x.1 view) (with_front policy side (Some x) view).0 (watched_kept policy side x.0 (with_left side x.1 view)))

  raw_untouched : (side : Side) (bytes : List ℕ) (view : SessionView) → Untouched side view (with_raw side bytes view)
  raw_untouched Client bytes view = record { mode = refl; watches = refl; came = refl; other_is = refl; remembers = λ f. f }
  raw_untouched Bus bytes view = record { mode = refl; watches = refl; came = refl; other_is = refl; remembers = λ f. f }

  behind_untouched : (filter : Bool) (side : Side) (view : SessionView) → Untouched side view (cond filter (with_front policy side (front (stream_of side view).left) view) (raw_step side view)).0
  behind_untouched true side view = front_untouched side (front (stream_of side view).left) view
  behind_untouched false side view =
      untouched_then side view (with_left side [] view) (raw_step side view).0 (stream_untouched side (record (stream_of side view) { left = [] }) view refl) (raw_untouched side (stream_of side view).left (with_left side [] view))

  bus_untouched : (b : Bool) (place : ℕ) (view : SessionView) → Untouched Bus view (cond {A = SessionView × Bool} b (with_all_answered place view) (with_lines Bus place (bus_ahead (watch_at place None view.bus.left)).lines (bus_ahead (watch_at place None view.bus.left)).fault view)).0
  bus_untouched true place view = answered_untouched (has_begun view) (cond (is_empty view.bus.left) None (Some (record { kind = EarlyBus; at = place }))) place view
  bus_untouched false place view = lines_untouched Bus place (bus_ahead (watch_at place None view.bus.left)).lines (bus_ahead (watch_at place None view.bus.left)).fault view

  at_untouched : (side : Side) (p : Phase) (view : SessionView) → Untouched side view (step_at policy side p view).0
  at_untouched side (InLines place (Some f)) view = line_fault_untouched side place (Some f) view
  at_untouched Client (InLines place None) view = lines_untouched Client place (client_ahead (watch_at place None view.client.left)).lines (client_ahead (watch_at place None view.client.left)).fault view
  at_untouched Bus (InLines place None) view = bus_untouched (unanswered view == 0) place view
  at_untouched side InMessages view = behind_untouched view.mode.filter side view

  pub drained_untouched : (side : Side) (n : ℕ) (view : SessionView) → Untouched side view (drained policy side n view)
  drained_untouched side zero view = untouched_all side view
  drained_untouched side (suc n) view = by (step_of policy side view).1 (drained_untouched side n (step_of policy side view).0)
    where
      by : (b : Bool) → Untouched side (step_of policy side view).0 (drained policy side n (step_of policy side view).0) → Untouched side view (more_if ((step_of policy side view).0, b) (drained policy side n))
      by true more = untouched_then side view (step_of policy side view).0 _ (at_untouched side (stream_of side view).phase view) more
      by false more = at_untouched side (stream_of side view).phase view
