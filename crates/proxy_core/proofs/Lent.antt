-- What is left of a side's stream is outside the session while its first message is taken, and is then put back.
use Rattle.std.proofs.Common.{ℕ, ◌≡◌, ◌+◌, ◌*◌, Bool, true, false, cond, List, [], ◌∷◌, length, drop, Option, Some, None, refl, ap, ap₂, ◌∙◌, sym, subst, inl, inr}
use Rattle.std.specs.Prelude.{nat_le, ◌&&◌, is_none}
use Rattle.dbus_header.specs.Message.{Message, reply_serial}
use Rattle.dbus_header.specs.Malformed.{fault}
use Rattle.dbus_header.specs.declared.Malformed.{Malformed}
use Rattle.dbus_header.proofs.FaultStays.{fault_front}
use Rattle.dbus_framing.specs.Framing.{Takes}
use Rattle.policy_args.specs.Policy.{Policy}
use Rattle.policy_view.specs.History.{malformed, most_sent}
use Rattle.dbus_header.specs.Contents.{message_in}
use Rattle.policy_view.specs.Past.{due_at, due_on, replied_on}
use Rattle.policy_view.specs.Sent.{Sent}
use Rattle.policy_view.specs.Shown.{BusRole, bus_role, showing_at}
use Rattle.policy_view.specs.Verdicts.{client_role, verdict}
use Rattle.policy_view.specs.declared.Decision.{Decision}
use Rattle.policy_view.specs.declared.End.TheVariants.{SerialsSpent}
use Rattle.policy_view.specs.declared.Fault.TheVariants.{Message as OfMessage}
use Rattle.policy_view.specs.declared.Mode.{Mode}
use Rattle.policy_view.specs.declared.Side.{Side}
use Rattle.policy_view.specs.declared.Side.TheVariants.{Client, Bus}
use Rattle.policy_view.specs.declared.Verdict.{Verdict}
use Rattle.policy_view.specs.declared.visible.Visible.{Visible as Element}
use Rattle.verdicts.specs.Kept.{expected_at}
use Rattle.proxy_core.specs.Seen.{TookNone, TookFirst, IsLent}
use Rattle.proxy_core.specs.Sessions.{SessionView, stream_of}
use Rattle.proxy_core.specs.Streams.{StreamView, InMessages}
use Rattle.proxy_core.specs.Messages.{decision_in, elements_in, ended_by, known, sending, unless_ended, with_elements, with_message, with_note, with_note_on, with_noted_message, with_replied, with_sent, with_shown, with_told, with_used, with_watched_message, KeepsSides}
use Rattle.proxy_core.specs.Steps.{with_left, with_fault, with_front, step_of, drained, TookMessage, Took, Stepped, IsLight}
use Rattle.proxy_core.proofs.Draining.{InMessagesNow, left_of, message_step, no_more, whole_light, whole_step}
use Rattle.proxy_core.proofs.Keeping.{watched_kept}
use Rattle.proxy_core.proofs.Taking.{spelled_in}

-- ---- a message has the same effect, whatever is left of a stream

either_left : (s : Side) (left : List ℕ) (x y : SessionView) (b : Bool) → cond b (with_left s left x) (with_left s left y) ≡ with_left s left (cond b x y)
either_left s left x y true = refl
either_left s left x y false = refl

sending_left : (s : Side) (left : List ℕ) (due : List Sent) (view new : SessionView) → sending due (with_left s left view) (with_left s left new) ≡ with_left s left (sending due view new)
sending_left s left [] view new = refl
sending_left Client left (e ∷ due) view new = either_left Client left (with_sent (e ∷ due) new) (ended_by SerialsSpent view) (nat_le (view.sent + length (e ∷ due)) most_sent)
sending_left Bus left (e ∷ due) view new = either_left Bus left (with_sent (e ∷ due) new) (ended_by SerialsSpent view) (nat_le (view.sent + length (e ∷ due)) most_sent)

module _ (policy : Policy) (m : Message) where
  sent_left : (s : Side) (left : List ℕ) (view : SessionView) → with_message policy Client m (with_left s left view) ≡ with_left s left (with_message policy Client m view)
  sent_left Client left view =
      let v : Verdict = verdict policy (known policy view) m in
      sending_left Client left (due_on policy view.greeted m v) view (with_replied (replied_on m (client_role m) v) view)
  sent_left Bus left view =
      let v : Verdict = verdict policy (known policy view) m in
      sending_left Bus left (due_on policy view.greeted m v) view (with_replied (replied_on m (client_role m) v) view)

  shown_left : (s : Side) (left : List ℕ) (view : SessionView) → with_message policy Bus m (with_left s left view) ≡ with_left s left (with_message policy Bus m view)
  shown_left Client left view =
      let used : SessionView = with_used m view in
      let role : BusRole = bus_role (expected_at view.ledger.expected (reply_serial m)) m in
      sending_left Client left (due_at policy m role) used (with_told policy m role (with_shown policy m (showing_at policy (known policy used) m role) used))
  shown_left Bus left view =
      let used : SessionView = with_used m view in
      let role : BusRole = bus_role (expected_at view.ledger.expected (reply_serial m)) m in
      sending_left Bus left (due_at policy m role) used (with_told policy m role (with_shown policy m (showing_at policy (known policy used) m role) used))

  message_left : (side s : Side) (left : List ℕ) (view : SessionView) → with_message policy side m (with_left s left view) ≡ with_left s left (with_message policy side m view)
  message_left Client s left view = sent_left s left view
  message_left Bus s left view = shown_left s left view

  decision_left : (side s : Side) (left : List ℕ) (view : SessionView) → decision_in policy side m (with_left s left view) ≡ decision_in policy side m view
  decision_left Client Client left view = refl
  decision_left Client Bus left view = refl
  decision_left Bus Client left view = refl
  decision_left Bus Bus left view = refl

  elements_left : (side s : Side) (left : List ℕ) (view : SessionView) → elements_in policy side m (with_left s left view) ≡ elements_in policy side m view
  elements_left Client s left view = refl
  elements_left Bus Client left view = refl
  elements_left Bus Bus left view = refl

  note_left : (side s : Side) (left : List ℕ) (d : Decision) (view : SessionView) → with_note_on side m d (with_left s left view) ≡ with_left s left (with_note_on side m d view)
  note_left side Client left d view = either_left Client left (with_note side m d view) view (view.mode.notes && is_none view.ended)
  note_left side Bus left d view = either_left Bus left (with_note side m d view) view (view.mode.notes && is_none view.ended)

  noted_left : (side s : Side) (left : List ℕ) (view : SessionView) → with_noted_message policy side m (with_left s left view) ≡ with_left s left (with_noted_message policy side m view)
  noted_left side s left view =
      ap₂ (λ (d : Decision) (v : SessionView). with_note_on side m d v) (decision_left side s left view) (message_left side s left view)
      ∙ note_left side s left (decision_in policy side m view) (with_message policy side m view)

  kept_left : (s : Side) (left : List ℕ) (elements : List Element) (new : SessionView) → with_elements (unless_ended (with_left s left new).ended elements) (with_left s left new) ≡ with_left s left (with_elements (unless_ended new.ended elements) new)
  kept_left Client left elements new = refl
  kept_left Bus left elements new = refl

  watched_left : (side s : Side) (left : List ℕ) (view : SessionView) → with_watched_message policy side m (with_left s left view) ≡ with_left s left (with_watched_message policy side m view)
  watched_left side s left view =
      ap₂ (λ (v : SessionView) (elements : List Element). with_elements (unless_ended v.ended elements) v) (noted_left side s left view) (elements_left side s left view)
      ∙ kept_left s left (elements_in policy side m view) (with_noted_message policy side m view)

-- ---- what was lent is put back

left_twice : (side : Side) (first left : List ℕ) (view : SessionView) → with_left side left (with_left side first view) ≡ with_left side left view
left_twice Client first left view = refl
left_twice Bus first left view = refl

runs_left : (side : Side) (first left : List ℕ) (view : SessionView) → (with_left side first view).ended ≡ None → (with_left side left view).ended ≡ None
runs_left Client first left view e = e
runs_left Bus first left view e = e

ended_left : (side : Side) (left : List ℕ) (view : SessionView) → (with_left side left view).ended ≡ view.ended
ended_left Client left view = refl
ended_left Bus left view = refl

sides_left : (side : Side) (first left : List ℕ) (old mid : SessionView) → KeepsSides (with_left side first old) mid → KeepsSides (with_left side left old) (with_left side left mid)
sides_left Client first left old mid k = record {
  mode = k.mode;
  client = ap (λ (s : StreamView). record s { left = left }) k.client;
  bus = k.bus;
  bus_side = k.bus_side;
  client_side = k.client_side;
  greeted = k.greeted;
  notes = k.notes;
  numbered = k.numbered;
  watches = k.watches;
  visible = k.visible;
}
sides_left Bus first left old mid k = record {
  mode = k.mode;
  client = k.client;
  bus = ap (λ (s : StreamView). record s { left = left }) k.bus;
  bus_side = k.bus_side;
  client_side = k.client_side;
  greeted = k.greeted;
  notes = k.notes;
  numbered = k.numbered;
  watches = k.watches;
  visible = k.visible;
}

module _ (policy : Policy) (side : Side) (old mid new : SessionView) (rest : List ℕ) (more : Bool) (put : new ≡ with_left side rest mid) where
  abbrev lent : SessionView
  lent = with_left side [] old

  took_back : (m : Message) → TookMessage (with_watched_message policy side m lent) lent mid → TookMessage (with_watched_message policy side m (with_left side rest old)) (with_left side rest old) new
  took_back m (inl done) =
      inl (put ∙ ap (with_left side rest) done ∙ sym (watched_left policy m side side rest lent) ∙ ap (with_watched_message policy side m) (left_twice side [] rest old))
  took_back m (inr refused) = inr (record {
    running = runs_left side [] rest old refused.running;
    ended = ap (λ (v : SessionView). v.ended) put ∙ ended_left side rest mid ∙ refused.ended;
    kept = subst (λ (v : SessionView). KeepsSides (with_left side rest old) v) (sym put) (sides_left side [] rest old mid refused.kept);
  })

  fault_back : (o : Option Malformed) → with_left side (left_of side old) (with_fault side o lent) ≡ with_fault side o old
  fault_back o = by side o
    where
      by : (s : Side) (o : Option Malformed) → with_left s (left_of s old) (with_fault s o (with_left s [] old)) ≡ with_fault s o old
      by Client None = refl
      by Client (Some f) = refl
      by Bus None = refl
      by Bus (Some f) = refl

  none_back : TookNone side (left_of side old) rest lent mid more → new ≡ with_fault side (fault (left_of side old)) old
  none_back t =
      put
      ∙ ap₂ (λ (left : List ℕ) (v : SessionView). with_left side left v) t.stays t.ended
      ∙ fault_back (fault (left_of side old))

  pub first_step : old.ended ≡ None → InMessagesNow policy side old → TookFirst policy side (left_of side old) rest lent mid more → Stepped (step_of policy side old) old new more
  first_step runs now (inl t) =
      subst (λ (b : Bool). Stepped (step_of policy side old) old new b) (sym (t.runs ∙ ap is_none (sym (ap (λ (v : SessionView). v.ended) put ∙ ended_left side rest mid))))
      (whole_step policy side old (with_left side rest old) new t.frame rest t.message runs now t.takes refl (took_back t.message t.took))
  first_step runs now (inr t) =
      let step : step_of policy side old ≡ (with_fault side (fault (left_of side old)) old, false) = message_step policy side old now ∙ ap (λ (o : Option (Message × List ℕ)). with_front policy side o old) t.none in
      inl (none_back t ∙ ap (λ (x : SessionView × Bool). x.0) (sym step), t.stops ∙ ap (λ (x : SessionView × Bool). x.1) (sym step))

  pub first_light : TookFirst policy side (left_of side old) rest lent mid more → IsLight policy 0 old new
  first_light (inl t) = whole_light policy side old (with_left side rest old) new t.frame rest t.message t.takes refl (took_back t.message t.took)
  first_light (inr t) = subst (λ (v : SessionView). IsLight policy 0 old v) (sym (none_back t)) (by (fault (left_of side old)))
    where
      by : (o : Option Malformed) → IsLight policy 0 old (with_fault side o old)
      by None = record { mode = refl; watches = refl; weighs = no_more _ _ (19 * 0) refl }
      by (Some f) = record { mode = refl; watches = refl; weighs = no_more _ _ (19 * 0) refl }

-- ---- one message after the other

with_fault_stream : (side : Side) (o : Option Malformed) (view : SessionView) → stream_of side (with_fault side o view) ≡ stream_of side view
with_fault_stream side None view = refl
with_fault_stream Client (Some f) view = refl
with_fault_stream Bus (Some f) view = refl

kept_stream : (side : Side) (old new : SessionView) → new.client ≡ old.client → new.bus ≡ old.bus → stream_of side new ≡ stream_of side old
kept_stream Client old new c b = c
kept_stream Bus old new c b = b

-- what was lent is no longer the session's
took_stream : (policy : Policy) (side : Side) (left rest : List ℕ) (old new : SessionView) (more : Bool) → TookFirst policy side left rest old new more → stream_of side new ≡ stream_of side old
took_stream policy side left rest old new more (inl t) = by t.took
  where
    by : TookMessage (with_watched_message policy side t.message old) old new → stream_of side new ≡ stream_of side old
    by (inl done) = ap (stream_of side) done ∙ kept_stream side old (with_watched_message policy side t.message old) (watched_kept policy side t.message old).client (watched_kept policy side t.message old).bus
    by (inr refused) = kept_stream side old new refused.kept.client refused.kept.bus
took_stream policy side left rest old new more (inr t) = ap (stream_of side) t.ended ∙ with_fault_stream side (fault left) old

pub stays_lent : (policy : Policy) (side : Side) (left rest : List ℕ) (old new : SessionView) (more : Bool) → IsLent side old → TookFirst policy side left rest old new more → IsLent side new
stays_lent policy side left rest old new more lent took =
    let same : stream_of side new ≡ stream_of side old = took_stream policy side left rest old new more took in
    record { phase = ap (λ (s : StreamView). s.phase) same ∙ lent.phase; none = ap (λ (s : StreamView). s.left) same ∙ lent.none }

left_put : (side : Side) (left : List ℕ) (view : SessionView) → left_of side (with_left side left view) ≡ left
left_put Client left view = refl
left_put Bus left view = refl

phase_put : (side : Side) (left : List ℕ) (view : SessionView) → (stream_of side (with_left side left view)).phase ≡ (stream_of side view).phase
phase_put Client left view = refl
phase_put Bus left view = refl

mode_put : (side : Side) (left : List ℕ) (view : SessionView) → (with_left side left view).mode ≡ view.mode
mode_put Client left view = refl
mode_put Bus left view = refl

none_left : (side : Side) (view : SessionView) → IsLent side view → with_left side [] view ≡ view
none_left side view lent = ap (λ (xs : List ℕ). with_left side xs view) (sym lent.none) ∙ by side
  where
    by : (s : Side) → with_left s (left_of s view) view ≡ view
    by Client = refl
    by Bus = refl

module _ (policy : Policy) (side : Side) (left rest : List ℕ) (old new : SessionView) (more : Bool) (lent : IsLent side old) (filters : old.mode.filter ≡ true) (took : TookFirst policy side left rest old new more) where
  abbrev whole : SessionView
  whole = with_left side left old

  took_of_whole : TookFirst policy side (left_of side whole) rest (with_left side [] whole) new more
  took_of_whole =
      subst (λ (xs : List ℕ). TookFirst policy side xs rest (with_left side [] whole) new more) (sym (left_put side left old))
      (subst (λ (v : SessionView). TookFirst policy side left rest v new more) (sym (left_twice side left [] old ∙ none_left side old lent)) took)

  -- .. with what is left of them, before and after
  pub lent_step : old.ended ≡ None → Stepped (step_of policy side (with_left side left old)) (with_left side left old) (with_left side rest new) more
  lent_step runs =
      first_step policy side whole new (with_left side rest new) rest more refl (ended_left side left old ∙ runs)
      (record { phase = phase_put side left old ∙ lent.phase; filters = ap (λ (m : Mode). m.filter) (mode_put side left old) ∙ filters }) took_of_whole

  pub lent_light : IsLight policy 0 (with_left side left old) (with_left side rest new)
  lent_light = first_light policy side whole new (with_left side rest new) rest more refl took_of_whole

  pub lent_filters : new.mode.filter ≡ true
  lent_filters = ap (λ (m : Mode). m.filter) (sym (mode_put side rest new) ∙ lent_light.mode ∙ mode_put side left old) ∙ filters

pub ended_whole : (side : Side) (left : List ℕ) (view : SessionView) → (with_left side left view).ended ≡ None → view.ended ≡ None
ended_whole side left view e = sym (ended_left side left view) ∙ e

pub runs_whole : (side : Side) (left : List ℕ) (view : SessionView) → view.ended ≡ None → (with_left side left view).ended ≡ None
runs_whole side left view e = ended_left side left view ∙ e

-- what was lent out of a session, and what is put back
pub lent_whole : (side : Side) (old out : SessionView) (left : List ℕ) → left ≡ left_of side old → out ≡ with_left side [] old → with_left side left out ≡ old
lent_whole side old out left is outside = ap₂ (λ (xs : List ℕ) (v : SessionView). with_left side xs v) is outside ∙ by side
  where
    by : (s : Side) → with_left s (left_of s old) (with_left s [] old) ≡ old
    by Client = refl
    by Bus = refl

-- .. as far as messages were taken of it
module _ (policy : Policy) (side : Side) (old out mid new : SessionView) (left rest : List ℕ) (is : left ≡ left_of side old) (outside : out ≡ with_left side [] old) (put : new ≡ with_left side rest mid) where
  whole_is : with_left side left out ≡ old
  whole_is = lent_whole side old out left is outside

  put_back : (P : SessionView → SessionView → Type 0) → P (with_left side left out) (with_left side rest mid) → P old new
  put_back P p = subst (λ (v : SessionView). P v new) whole_is (subst (λ (v : SessionView). P (with_left side left out) v) (sym put) p)

pub took_whole : (policy : Policy) (side : Side) (most : ℕ) (old out mid new : SessionView) (left rest : List ℕ) → left ≡ left_of side old → out ≡ with_left side [] old → new ≡ with_left side rest mid
    → Took policy side (drained policy side most (with_left side left out)) (with_left side left out) (with_left side rest mid) → Took policy side (drained policy side most old) old new
took_whole policy side most old out mid new left rest is outside put took =
    put_back policy side old out mid new left rest is outside put (λ (a b : SessionView). Took policy side (drained policy side most a) a b) took

pub light_whole : (policy : Policy) (side : Side) (old out mid new : SessionView) (left rest : List ℕ) → left ≡ left_of side old → out ≡ with_left side [] old → new ≡ with_left side rest mid
    → IsLight policy 0 (with_left side left out) (with_left side rest mid) → IsLight policy 0 old new
light_whole policy side old out mid new left rest is outside put light =
    put_back policy side old out mid new left rest is outside put (λ (a b : SessionView). IsLight policy 0 a b) light

pub lends : (side : Side) (old out : SessionView) → (stream_of side old).phase ≡ InMessages → out ≡ with_left side [] old → IsLent side out
lends side old out phase outside = record {
  phase = ap (λ (v : SessionView). (stream_of side v).phase) outside ∙ phase_put side [] old ∙ phase;
  none = ap (left_of side) outside ∙ left_put side [] old;
}

pub lends_filtered : (side : Side) (old out : SessionView) → out ≡ with_left side [] old → old.mode.filter ≡ true → out.mode.filter ≡ true
lends_filtered side old out outside filters = ap (λ (v : SessionView). v.mode.filter) outside ∙ ap (λ (m : Mode). m.filter) (mode_put side [] old) ∙ filters

-- ---- what the code takes

module _ (policy : Policy) (side : Side) (left : List ℕ) (old new : SessionView) (more : Bool) where
  pub whole_first : (looked frame rest : List ℕ) (len : ℕ) → looked ≡ left → (m : Message) × Takes looked frame (drop len looked) m → rest ≡ drop len looked → TookMessage (with_watched_message policy side (message_in frame) old) old new → more ≡ is_none new.ended → TookFirst policy side left rest old new more
  whole_first looked frame rest len same taken rest_is took runs = inl (record {
    message = taken.0;
    frame = frame;
    takes = subst (λ (xs : List ℕ). Takes xs frame rest taken.0) same (subst (λ (xs : List ℕ). Takes looked frame xs taken.0) (sym rest_is) taken.1);
    took = subst (λ (m : Message). TookMessage (with_watched_message policy side m old) old new) (spelled_in frame taken.0 taken.1.valid taken.1.spelled) took;
    runs = runs;
  })

  pub bad_first : (rest : List ℕ) (f : Malformed) → rest ≡ left → fault left ≡ Some f → new ≡ ended_by (malformed side (OfMessage f)) old → more ≡ false → TookFirst policy side left rest old new more
  bad_first rest f stays bad is stops = inr (record {
    none = fault_front left f bad;
    stays = stays;
    ended = is ∙ ap (λ (o : Option Malformed). with_fault side o old) (sym bad);
    stops = stops;
  })
