-- The messages of a stream are taken, one after the other, or its raw bytes.
use Rattle.std.proofs.Common.{ℕ, suc, ◌≡◌, ◌+◌, ◌<◌, Bool, true, false, List, [], ◌∷◌, ◌++◌, length, Option, Some, None, refl, ap, ◌∙◌, sym, subst, arith, append-nil, inl}
use Rattle.std.specs.Prelude.{is_none}
use Rattle.byte_lists.proofs.Bytes.{AreBytes-behind}
use Rattle.byte_lists.specs.Bytes.{AreBytes}
use Rattle.dbus_header.specs.Message.{Message, spell}
use Rattle.dbus_header.specs.Malformed.{front, fault as message_fault}
use Rattle.dbus_header.specs.declared.Malformed.{Malformed}
use Rattle.dbus_header.proofs.MessageRead.{front-is}
use Rattle.dbus_header.proofs.StreamLaws.{front-shorter}
use Rattle.policy_args.specs.Policy.{Policy}
use Rattle.policy_view.specs.Past.{Item, Msg, History}
use Rattle.policy_view.specs.History.{Event, raw_item, fault, line_fault, fault_of, fault_end, new_in, followed_by, followed_by_all}
use Rattle.policy_view.specs.declared.Fault.{Fault}
use Rattle.policy_view.specs.declared.Fault.TheVariants.{Message as OfMessage}
use Rattle.policy_view.specs.declared.Mode.{Mode}
use Rattle.policy_view.specs.declared.End.{End}
use Rattle.policy_view.specs.declared.Side.{Side}
use Rattle.policy_view.specs.declared.Side.TheVariants.{Client, Bus}
use Rattle.policy_view.proofs.CutLaws.{new_last}
use Rattle.proxy_core.specs.Streams.{StreamView, Phase, InMessages}
use Rattle.proxy_core.specs.Sessions.{SessionView, Taken, Holds, stream_of, StandsAt}
use Rattle.proxy_core.specs.Messages.{with_watched_message}
use Rattle.proxy_core.specs.Steps.{with_stream, with_left, with_fault, with_front, with_raw, raw_step, more_if, drained}
use Rattle.proxy_core.proofs.Keeping.{IsKept, watched_kept}
use Rattle.proxy_core.proofs.LineCuts.{behind}
use Rattle.proxy_core.proofs.Going.{Goes, GoesAt, GoesInMessages, GoesRaw, Begins, begins, reached, messages_stop, messages_stand, message_goes, raw_stops, raw_stands}
use Rattle.proxy_core.proofs.Followed.{stream_holds, raw_item_holds}
use Rattle.proxy_core.proofs.Driving.{Steps, LastOf, KnowsClient, KnowsOther, phase_weight, weight, none_last, fault_last, item_last, ended_last, Others}

pub same_stream : (s : Side) (x : StreamView) (v : SessionView) → stream_of s (with_stream s x v) ≡ x
same_stream Client x v = refl
same_stream Bus x v = refl

pub stream_runs : (s : Side) (x : StreamView) (v : SessionView) → (with_stream s x v).ended ≡ v.ended
stream_runs Client x v = refl
stream_runs Bus x v = refl

module _ (whole : Bool) (policy : Policy) (taken : Taken) (steps : Steps policy taken) (mode : Mode) (side : Side) (gone : List ℕ) (events : List Event) (n : ℕ) (view : SessionView) (items : History) (given : List Item) (runs : view.ended ≡ None) (moded : view.mode ≡ mode) (at : (stream_of side view).phase ≡ InMessages)
    (g : GoesInMessages mode side events (stream_of side view) given) (h : Holds policy view items taken) (are : AreBytes (stream_of side view).left) (short : whole ≡ true → length (stream_of side view).left < suc n) (knows : KnowsOther mode side events view) (lines_sound : line_fault mode side events ≡ None)
    (others : Others whole policy taken mode side gone events n) where
  abbrev MessageLast : SessionView → Type 0
  MessageLast new = LastOf whole policy taken mode side gone events items given new

  abbrev left_now : List ℕ
  left_now = (stream_of side view).left

  kept_stream : (s : Side) (old new : SessionView) → IsKept old new → stream_of s new ≡ stream_of s old
  kept_stream Client old new x = x.client
  kept_stream Bus old new x = x.bus

  kept_other : (s : Side) (x : StreamView) (old new : SessionView) → IsKept (with_stream s x old) new → KnowsOther mode s events old → KnowsOther mode s events new
  kept_other Client x old new kept knows = tt
  kept_other Bus x old new kept knows = subst (λ (c : StreamView). KnowsClient mode events c) (sym kept.client) knows

  mode_behind : (s : Side) (left : List ℕ) (v : SessionView) → (with_left s left v).mode ≡ v.mode
  mode_behind Client left v = refl
  mode_behind Bus left v = refl

  abbrev behind_message : Message → List ℕ → SessionView
  behind_message m left = with_watched_message policy side m (with_left side left view)

  message_last : (m : Message) (left : List ℕ) → front left_now ≡ Some (m, left) → (o : Option End) → (behind_message m left).ended ≡ o
      → MessageLast (more_if (behind_message m left, is_none o) (drained policy side n))
  message_last m left e o ended =
      let is = front-is left_now m left are e in
      let s : StreamView = record (stream_of side view) { left = left } in
      let goes = message_goes mode side gone events (stream_of side view) given g m left e in
      let held = steps side (with_stream side s view) items m (stream_runs side s view ∙ runs) (stream_holds policy view items taken side s h) is.0 in
      let kept = watched_kept policy side m (with_stream side s view) in
      let same : stream_of side (behind_message m left) ≡ s = kept_stream side (with_stream side s view) (behind_message m left) kept ∙ same_stream side s view in
      let begin = begins mode side gone events InMessages s (given ++ Msg side m ∷ []) (inl goes) in
      let less = front-shorter left_now m left e in
      by o ended s goes held kept same begin less (AreBytes-behind (spell m) left (subst AreBytes is.1 are))
    where
      by : (o : Option End) → (behind_message m left).ended ≡ o → (s : StreamView) → GoesInMessages mode side events (record (stream_of side view) { left = left }) (given ++ Msg side m ∷ []) → Holds policy (behind_message m left) (followed_by policy items (Msg side m)) taken
          → IsKept (with_left side left view) (behind_message m left) → stream_of side (behind_message m left) ≡ record (stream_of side view) { left = left } → Begins (given ++ Msg side m ∷ []) (reached mode side gone events) → length left < length left_now → AreBytes left
          → MessageLast (more_if (behind_message m left, is_none o) (drained policy side n))
      by (Some end) ended s goes held kept same begin less behind = ended_last whole policy taken mode side gone events items given (Msg side m) (behind_message m left) end begin ended held
      by None ended s goes held kept same begin less behind =
          let now : StreamView = record (stream_of side view) { left = left } in
          let goes_now : Goes mode side gone events now (given ++ Msg side m ∷ []) = subst (λ (p : Phase). GoesAt mode side gone events p now (given ++ Msg side m ∷ [])) (sym at) (inl goes) in
          let light : whole ≡ true → weight now < n = λ w. let fits = short w in subst (λ (p : Phase). length left + phase_weight p < n) (sym at) (omega (arith, less, fits)) in
          item_last whole policy taken mode side gone events items given (Msg side m) (drained policy side n (behind_message m left)) begin
          (others (behind_message m left) (followed_by policy items (Msg side m)) (given ++ Msg side m ∷ []) (λ w. subst (λ (x : StreamView). weight x < n) (sym same) (light w)) ended (kept.mode ∙ mode_behind side left view ∙ moded)
          (subst (λ (x : StreamView). Goes mode side gone events x (given ++ Msg side m ∷ [])) (sym same) goes_now) held (subst (λ (x : StreamView). AreBytes x.left) (sym same) behind)
          (kept_other side now view (behind_message m left) kept knows))

  no_message_last : front left_now ≡ None → (f : Option Malformed) → message_fault left_now ≡ f → MessageLast (with_fault side f view)
  no_message_last e None f =
      let stop = messages_stop mode side gone events (stream_of side view) given g lines_sound e in
      none_last whole policy taken mode side gone events view items given h (record { found_is = stop.found_is; fault_is = stop.fault_is ∙ ap fault_of f })
      (subst (λ (p : Phase). StandsAt mode side events p left_now) (sym at) (messages_stand mode side gone events (stream_of side view) given g e)) g.counts are
  no_message_last e (Some x) f =
      let stop = messages_stop mode side gone events (stream_of side view) given g lines_sound e in
      fault_last whole policy taken mode side gone events view items given (OfMessage x) runs h (record { found_is = stop.found_is; fault_is = stop.fault_is ∙ ap fault_of f })

  pub messages_last : (o : Option (Message × List ℕ)) → front left_now ≡ o → MessageLast (more_if (with_front policy side o view) (drained policy side n))
  messages_last None e = no_message_last e (message_fault left_now) refl
  messages_last (Some x) e = message_last x.0 x.1 e (behind_message x.0 x.1).ended refl

-- ---- if messages aren't filtered

module _ (whole : Bool) (policy : Policy) (taken : Taken) (mode : Mode) (side : Side) (gone : List ℕ) (events : List Event) (view : SessionView) (items : History) (given : List Item) (runs : view.ended ≡ None) (at : (stream_of side view).phase ≡ InMessages)
    (g : GoesRaw mode side gone events (stream_of side view) given) (h : Holds policy view items taken) (lines_sound : line_fault mode side events ≡ None) where
  abbrev bytes_left : List ℕ
  bytes_left = (stream_of side view).left

  abbrev without_left : SessionView
  without_left = with_left side [] view

  raw_stream : (s : Side) (bytes : List ℕ) (v : SessionView) → stream_of s (with_raw s bytes v) ≡ stream_of s v
  raw_stream Client bytes v = refl
  raw_stream Bus bytes v = refl

  none_are : AreBytes []
  none_are i = omega arith

  stream_is : stream_of side (with_raw side bytes_left without_left) ≡ record (stream_of side view) { left = [] }
  stream_is = raw_stream side (stream_of side view).left (with_left side [] view) ∙ same_stream side (record (stream_of side view) { left = [] }) view

  new_raw : new_in given (reached mode side gone events) ++ fault_end side (fault mode side events) ≡ raw_item side (stream_of side view).left
  new_raw =
      let stop = raw_stops mode side gone events (stream_of side view) given g lines_sound in
      ap (λ (xs : List Item). new_in given xs ++ fault_end side (fault mode side events)) stop.found_is
      ∙ ap (λ (xs : List Item). xs ++ fault_end side (fault mode side events)) (new_last given (raw_item side (stream_of side view).left))
      ∙ ap (λ (o : Option Fault). raw_item side (stream_of side view).left ++ fault_end side o) stop.fault_is
      ∙ append-nil (raw_item side (stream_of side view).left)

  raw_holds_all : Holds policy (raw_step side view).0 (followed_by_all policy items (raw_item side bytes_left)) taken
  raw_holds_all = raw_item_holds policy without_left items taken side bytes_left (stream_runs side (record (stream_of side view) { left = [] }) view ∙ runs) (stream_holds policy view items taken side (record (stream_of side view) { left = [] }) h)

  no_fault : fault mode side events ≡ None
  no_fault = (raw_stops mode side gone events (stream_of side view) given g lines_sound).fault_is

  pub raw_last : LastOf whole policy taken mode side gone events items given (raw_step side view).0
  raw_last = by whole
    where
      by : (w : Bool) → LastOf w policy taken mode side gone events items given (raw_step side view).0
      by true = record {
        holds = subst (λ (xs : List Item). Holds policy (raw_step side view).0 (followed_by_all policy items xs) taken) (sym new_raw) raw_holds_all;
        stands = λ r.
            subst (λ (x : StreamView). StandsAt mode side events x.phase x.left) (sym stream_is)
            (subst (λ (p : Phase). StandsAt mode side events p []) (sym at) (raw_stands mode side gone events (stream_of side view) given g));
        counts = λ r a. ap (λ (x : StreamView). x.lines) stream_is ∙ g.counts a;
        sound = λ r. no_fault;
        bytes = λ r. subst (λ (x : StreamView). AreBytes x.left) (sym stream_is) none_are;
      }
      by false = λ r. record {
        first = raw_item side bytes_left;
        more = [];
        parts = sym (append-nil (new_in given (reached mode side gone events))) ∙ ap (λ (o : Option Fault). new_in given (reached mode side gone events) ++ fault_end side o) (sym no_fault) ∙ new_raw ∙ sym (append-nil (raw_item side bytes_left));
        holds = raw_holds_all;
      }
