-- What a session holds after all that could be taken of a side's stream was taken.
use Rattle.std.proofs.Common.{ℕ, zero, suc, ◌≡◌, ◌+◌, ◌<◌, Bool, true, false, cond, List, [], length, Some, None, refl, ap, ◌∙◌, sym, arith, inl, inr}
use Rattle.std.specs.Prelude.{◌⊎◌}
use Rattle.byte_lists.specs.Bytes.{AreBytes}
use Rattle.dbus_header.specs.Malformed.{front}
use Rattle.sasl_watch.specs.Lines.{asked, has_begun as begins_in, after_begin, client_cut, client_fault, bus_lines, after_lines, bus_fault}
use Rattle.sasl_watch.proofs.LinesGrow.{no_bus_fault}
use Rattle.sasl_watch.specs.Watching.{client_ahead}
use Rattle.policy_args.specs.Policy.{Policy}
use Rattle.policy_view.specs.Past.{Item, History}
use Rattle.policy_view.specs.History.{Event, stream, lines, content, line_fault, fault_of_line}
use Rattle.policy_view.specs.declared.Mode.{Mode}
use Rattle.policy_view.specs.declared.Side.{Side}
use Rattle.policy_view.specs.declared.Side.TheVariants.{Client, Bus}
use Rattle.proxy_core.specs.Streams.{Phase, InLines, InMessages}
use Rattle.proxy_core.specs.Sessions.{SessionView, Taken, Holds, stream_of, AllGiven}
use Rattle.proxy_core.specs.Steps.{with_front, raw_step, step_at, more_if, drained}
use Rattle.proxy_core.proofs.LineCuts.{sound_at}
use Rattle.proxy_core.proofs.Going.{GoesAt, GoesInMessages, GoesRaw}
use Rattle.proxy_core.proofs.Driving.{Steps, LastOf, KnowsOther, phase_weight, weight, none_first, Others}
use Rattle.proxy_core.proofs.DrivenLines.{client_lines_last, bus_step_last}
use Rattle.proxy_core.proofs.DrivenMessages.{messages_last, raw_last}

-- after a side's lines there is no fault in them
lines_are_sound : (mode : Mode) (side : Side) (events : List Event) (bytes : List ℕ) → content mode side events ≡ Some bytes → AllGiven mode side events → line_fault mode side events ≡ None
unfolding lines content
lines_are_sound mode Client events bytes is all = by mode.auth is
  where
    by : (b : Bool) → cond b (cond (begins_in (stream Client events)) (Some (after_begin (stream Client events))) None) (Some (stream Client events)) ≡ Some bytes → cond b (fault_of_line (client_fault (stream Client events))) None ≡ None
    by false e = refl
    by true e = seen (begins_in (stream Client events)) refl e
      where
        seen : (d : Bool) → begins_in (stream Client events) ≡ d → cond d (Some (after_begin (stream Client events))) None ≡ Some bytes → fault_of_line (client_fault (stream Client events)) ≡ None
        seen false k e = absurd cc
        seen true k e = ap (λ (d : Bool). fault_of_line (cond d None (client_cut (stream Client events)).fault)) k
lines_are_sound mode Bus events bytes is all = by mode.auth refl is all
  where
    n : ℕ
    n = asked (stream Client events)

    by : (b : Bool) → mode.auth ≡ b → cond b (cond (begins_in (stream Client events)) (Some (after_lines (asked (stream Client events)) (stream Bus events))) None) (Some (stream Bus events)) ≡ Some bytes
        → (b ≡ true → length (cond b (bus_lines (asked (stream Client events)) (stream Bus events)) []) ≡ asked (stream Client events))
        → cond b (fault_of_line (bus_fault (asked (stream Client events)) (begins_in (stream Client events)) (stream Bus events))) None ≡ None
    by false a e all = refl
    by true a e all = seen (begins_in (stream Client events)) refl e
      where
        seen : (d : Bool) → begins_in (stream Client events) ≡ d → cond d (Some (after_lines (asked (stream Client events)) (stream Bus events))) None ≡ Some bytes
            → fault_of_line (bus_fault (asked (stream Client events)) d (stream Bus events)) ≡ None
        seen false k e = absurd cc
        seen true k e = ap fault_of_line (no_bus_fault (asked (stream Client events)) (stream Bus events) (all refl))

module _ (whole : Bool) (policy : Policy) (taken : Taken) (steps : Steps policy taken) (mode : Mode) (gone : List ℕ) (events : List Event) where
  -- messages, or raw bytes
  behind_last : (side : Side) (n : ℕ) (view : SessionView) (items : History) (given : List Item) → view.ended ≡ None → view.mode ≡ mode → (stream_of side view).phase ≡ InMessages → (whole ≡ true → length (stream_of side view).left < suc n)
      → GoesInMessages mode side events (stream_of side view) given ⊎ GoesRaw mode side gone events (stream_of side view) given → Holds policy view items taken → AreBytes (stream_of side view).left → KnowsOther mode side events view
      → Others whole policy taken mode side gone events n → (filter : Bool) → mode.filter ≡ filter
      → LastOf whole policy taken mode side gone events items given (more_if (cond filter (with_front policy side (front (stream_of side view).left) view) (raw_step side view)) (drained policy side n))
  behind_last side n view items given runs moded at short (inl g) h are knows others true f =
      messages_last whole policy taken steps mode side gone events n view items given runs moded at g h are short knows (lines_are_sound mode side events g.bytes g.content_is g.all) others (front (stream_of side view).left) refl
  behind_last side n view items given runs moded at short (inr g) h are knows others true f = absurd (let e : true ≡ false = sym f ∙ g.unfiltered in cc)
  behind_last side n view items given runs moded at short (inl g) h are knows others false f = absurd (let e : false ≡ true = sym f ∙ g.filters in cc)
  behind_last side n view items given runs moded at short (inr g) h are knows others false f =
      raw_last whole policy taken mode side gone events view items given runs at g h (lines_are_sound mode side events g.bytes g.content_is g.all)

  at_last : (side : Side) (n : ℕ) (view : SessionView) (items : History) (given : List Item) → view.ended ≡ None → view.mode ≡ mode → (p : Phase) → (stream_of side view).phase ≡ p → (whole ≡ true → length (stream_of side view).left + phase_weight p < suc n)
      → GoesAt mode side gone events p (stream_of side view) given → Holds policy view items taken → AreBytes (stream_of side view).left → KnowsOther mode side events view → Others whole policy taken mode side gone events n
      → LastOf whole policy taken mode side gone events items given (more_if (step_at policy side p view) (drained policy side n))
  at_last Client n view items given runs moded (InLines place None) at short g h are knows others =
      client_lines_last whole policy taken mode gone events n view place items given runs moded at g h are short others (client_ahead (sound_at place view.client.left)).lines (client_ahead (sound_at place view.client.left)).fault refl refl
  at_last Bus n view items given runs moded (InLines place None) at short g h are knows others = bus_step_last whole policy taken mode gone events n view place items given runs moded at g h are short knows others
  at_last side n view items given runs moded (InLines place (Some f)) at short g h are knows others = absurd (let e : Some f ≡ None = g.quiet in cc)
  at_last side n view items given runs moded InMessages at short g h are knows others =
      behind_last side n view items given runs moded at (λ w. let s = short w in omega (arith, s)) g h are knows others view.mode.filter (ap (λ (m : Mode). m.filter) (sym moded))

  pub drained_last : (side : Side) (n : ℕ) → Others whole policy taken mode side gone events n
  drained_last side zero view items given short runs moded g h are knows = by whole short
    where
      by : (w : Bool) → (w ≡ true → weight (stream_of side view) < 0) → LastOf w policy taken mode side gone events items given view
      by true short = absurd (let none = short refl in omega (arith, none))
      by false short = λ r. none_first false policy taken mode side gone events view items given h
  drained_last side (suc n) view items given short runs moded g h are knows = at_last side n view items given runs moded (stream_of side view).phase refl short g h are knows (drained_last side n)
