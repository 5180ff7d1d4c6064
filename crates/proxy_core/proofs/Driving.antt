-- A session that takes what is left of a side's stream, step by step.
use Rattle.std.proofs.Common.{ℕ, ◌≡◌, ◌+◌, ◌<◌, Bool, true, false, List, [], ◌∷◌, ◌++◌, length, Some, None, refl, ap, ◌∙◌, sym, subst, append_assoc}
use Rattle.std.specs.Prelude.{not}
use Rattle.byte_lists.specs.Bytes.{AreBytes}
use Rattle.dbus_header.specs.Message.{Message, Valid}
use Rattle.sasl_watch.specs.Lines.{asked, has_begun as begins_in}
use Rattle.policy_args.specs.Policy.{Policy}
use Rattle.policy_view.specs.Past.{Item, Msg, History}
use Rattle.policy_view.specs.History.{Event, stream, fault, fault_end, malformed, new_in, followed_by, followed_by_all}
use Rattle.policy_view.specs.declared.Fault.{Fault}
use Rattle.policy_view.specs.declared.Mode.{Mode}
use Rattle.policy_view.specs.declared.End.{End}
use Rattle.policy_view.specs.declared.Side.{Side}
use Rattle.policy_view.specs.declared.Side.TheVariants.{Client, Bus}
use Rattle.policy_view.proofs.CutLaws.{new_last}
use Rattle.proxy_core.specs.Streams.{StreamView, Phase, InLines, InMessages, is_in_lines}
use Rattle.proxy_core.specs.Sessions.{SessionView, Taken, Holds, stream_of, lines_in, StandsAt}
use Rattle.proxy_core.specs.Messages.{ended_by, with_watched_message}
use Rattle.proxy_core.specs.Steps.{drained}
use Rattle.proxy_core.proofs.Going.{Goes, Stops, Begins, reached}
use Rattle.proxy_core.proofs.Followed.{end_followed, ignored, new_none}

-- what a session does with a valid message is what the history has
abbrev pub Steps : Policy → Taken → Type 0
Steps policy taken = (side : Side) (view : SessionView) (items : History) (m : Message) → view.ended ≡ None → Holds policy view items taken → Valid m
    → Holds policy (with_watched_message policy side m view) (followed_by policy items (Msg side m)) taken

-- the session holds what its side's stream has beyond these items, and its fault; if it runs, all was taken
pub record Final (policy : Policy) (taken : Taken) (mode : Mode) (side : Side) (gone : List ℕ) (events : List Event) (items : History) (given : List Item) (new : SessionView) : Type 0 where
  pub holds : Holds policy new (followed_by_all policy items (new_in given (reached mode side gone events) ++ fault_end side (fault mode side events))) taken
  pub stands : new.ended ≡ None → StandsAt mode side events (stream_of side new).phase (stream_of side new).left
  pub counts : new.ended ≡ None → mode.auth ≡ true → (stream_of side new).lines ≡ lines_in side mode events
  pub sound : new.ended ≡ None → fault mode side events ≡ None
  pub bytes : new.ended ≡ None → AreBytes (stream_of side new).left

-- in between, if the session runs: it holds the first of these items
pub record Midst (policy : Policy) (taken : Taken) (mode : Mode) (side : Side) (gone : List ℕ) (events : List Event) (items : History) (given : List Item) (new : SessionView) : Type 0 where
  pub first : List Item
  pub more : List Item
  pub parts : new_in given (reached mode side gone events) ≡ first ++ more
  pub holds : Holds policy new (followed_by_all policy items first) taken

-- after as many steps as there are, or after fewer
abbrev pub LastOf : Bool → Policy → Taken → Mode → Side → List ℕ → List Event → History → List Item → SessionView → Type 0
LastOf true policy taken mode side gone events items given new = Final policy taken mode side gone events items given new
LastOf false policy taken mode side gone events items given new = new.ended ≡ None → Midst policy taken mode side gone events items given new

-- what is known of the client's stream while the bus's is processed
pub record KnowsClient (mode : Mode) (events : List Event) (s : StreamView) : Type 0 where
  pub lines : mode.auth ≡ true → s.lines ≡ asked (stream Client events)
  pub begun : mode.auth ≡ true → not (is_in_lines s.phase) ≡ begins_in (stream Client events)

abbrev pub KnowsOther : Mode → Side → List Event → SessionView → Type 0
KnowsOther mode Client events view = Unit {0}
KnowsOther mode Bus events view = KnowsClient mode events view.client

-- how many steps may still come
abbrev pub phase_weight : Phase → ℕ
phase_weight (InLines place told) = 1
phase_weight InMessages = 0

abbrev pub weight : StreamView → ℕ
weight s = length s.left + phase_weight s.phase

module _ (whole : Bool) (policy : Policy) (taken : Taken) (mode : Mode) (side : Side) (gone : List ℕ) (events : List Event) where
  abbrev Last : History → List Item → SessionView → Type 0
  Last items given new = LastOf whole policy taken mode side gone events items given new

  pub none_first : (view : SessionView) (items : History) (given : List Item) → Holds policy view items taken → Midst policy taken mode side gone events items given view
  unfolding followed_by_all
  none_first view items given h = record { first = []; more = new_in given (reached mode side gone events); parts = refl; holds = h }

  -- nothing more can be taken
  pub none_last : (view : SessionView) (items : History) (given : List Item) → Holds policy view items taken → Stops mode side gone events given None
      → StandsAt mode side events (stream_of side view).phase (stream_of side view).left → (mode.auth ≡ true → (stream_of side view).lines ≡ lines_in side mode events) → AreBytes (stream_of side view).left → Last items given view
  unfolding followed_by_all
  none_last view items given h stop stands counts are = by whole
    where
      by : (w : Bool) → LastOf w policy taken mode side gone events items given view
      by true = record {
        holds = subst (λ (xs : List Item). Holds policy view (followed_by_all policy items xs) taken)
            (sym (ap (λ (xs : List Item). new_in given xs ++ fault_end side (fault mode side events)) stop.found_is ∙ ap (λ (xs : List Item). xs ++ fault_end side (fault mode side events)) (new_none given) ∙ ap (fault_end side) stop.fault_is)) h;
        stands = λ r. stands;
        counts = λ r. counts;
        sound = λ r. stop.fault_is;
        bytes = λ r. are;
      }
      by false = λ r. none_first view items given h

  -- there is a fault at the start
  pub fault_last : (view : SessionView) (items : History) (given : List Item) (f : Fault) → view.ended ≡ None → Holds policy view items taken → Stops mode side gone events given (Some f) → Last items given (ended_by (malformed side f) view)
  unfolding followed_by_all
  fault_last view items given f runs h stop = by whole
    where
      by : (w : Bool) → LastOf w policy taken mode side gone events items given (ended_by (malformed side f) view)
      by true = record {
        holds = subst (λ (xs : List Item). Holds policy (ended_by (malformed side f) view) (followed_by_all policy items xs) taken)
            (sym (ap (λ (xs : List Item). new_in given xs ++ fault_end side (fault mode side events)) stop.found_is ∙ ap (λ (xs : List Item). xs ++ fault_end side (fault mode side events)) (new_none given) ∙ ap (fault_end side) stop.fault_is))
            (end_followed policy view items taken (malformed side f) runs h);
        stands = λ r. absurd cc;
        counts = λ r. absurd cc;
        sound = λ r. absurd cc;
        bytes = λ r. absurd cc;
      }
      by false = λ r. absurd cc

  new_item : (given : List Item) (item : Item) → Begins (given ++ item ∷ []) (reached mode side gone events) → new_in given (reached mode side gone events) ≡ item ∷ new_in (given ++ item ∷ []) (reached mode side gone events)
  new_item given item (more, e) =
      ap (new_in given) (e ∙ append_assoc given (item ∷ []) more) ∙ new_last given (item ∷ more)
      ∙ ap (λ (xs : List Item). item ∷ xs) (sym (ap (new_in (given ++ item ∷ [])) e ∙ new_last (given ++ item ∷ []) more))

  -- an item is taken, and then the others
  pub item_last : (items : History) (given : List Item) (item : Item) (new : SessionView) → Begins (given ++ item ∷ []) (reached mode side gone events) → Last (followed_by policy items item) (given ++ item ∷ []) new → Last items given new
  unfolding followed_by_all
  item_last items given item new begin f = by whole f
    where
      by : (w : Bool) → LastOf w policy taken mode side gone events (followed_by policy items item) (given ++ item ∷ []) new → LastOf w policy taken mode side gone events items given new
      by true f = record {
        holds = subst (λ (xs : List Item). Holds policy new (followed_by_all policy items (xs ++ fault_end side (fault mode side events))) taken) (sym (new_item given item begin)) f.holds;
        stands = f.stands;
        counts = f.counts;
        sound = f.sound;
        bytes = f.bytes;
      }
      by false f = λ r. let m = f r in record { first = item ∷ m.first; more = m.more; parts = new_item given item begin ∙ ap (λ (xs : List Item). item ∷ xs) m.parts; holds = m.holds }

  -- if the session ended, the others have no effect
  pub ended_last : (items : History) (given : List Item) (item : Item) (new : SessionView) (end : End) → Begins (given ++ item ∷ []) (reached mode side gone events) → new.ended ≡ Some end → Holds policy new (followed_by policy items item) taken → Last items given new
  ended_last items given item new end begin e h = item_last items given item new begin (by whole)
    where
      by : (w : Bool) → LastOf w policy taken mode side gone events (followed_by policy items item) (given ++ item ∷ []) new
      by true = record {
        holds = subst (λ (i : History). Holds policy new i taken) (sym (ignored policy (followed_by policy items item) (new_in (given ++ item ∷ []) (reached mode side gone events) ++ fault_end side (fault mode side events)) end (sym h.end_is ∙ e))) h;
        stands = λ r. absurd (let none : Some end ≡ None = sym e ∙ r in cc);
        counts = λ r. absurd (let none : Some end ≡ None = sym e ∙ r in cc);
        sound = λ r. absurd (let none : Some end ≡ None = sym e ∙ r in cc);
        bytes = λ r. absurd (let none : Some end ≡ None = sym e ∙ r in cc);
      }
      by false = λ r. absurd (let none : Some end ≡ None = sym e ∙ r in cc)

abbrev pub Others : Bool → Policy → Taken → Mode → Side → List ℕ → List Event → ℕ → Type 0
Others whole policy taken mode side gone events n = (view : SessionView) (items : History) (given : List Item) → (whole ≡ true → weight (stream_of side view) < n) → view.ended ≡ None → view.mode ≡ mode → Goes mode side gone events (stream_of side view) given
    → Holds policy view items taken → AreBytes (stream_of side view).left → KnowsOther mode side events view → LastOf whole policy taken mode side gone events items given (drained policy side n view)
