-- Lines and messages taken from the start of a stream, one and then many; bytes that are passed on unchanged.
use Rattle.std.proofs.Common.{ℕ, zero, suc, ◌≡◌, ◌+◌, ◌-◌, ◌*◌, ◌≤◌, ◌<◌, Bool, true, false, cond, List, [], ◌∷◌, ◌++◌, length, take, Option, Some, None, refl, ap, ap₂, ◌∙◌, sym, subst, arith, length-append, inl, inr}
use Rattle.std.specs.Prelude.{◌==◌, is_none, is_some, nat_lt, not}
use Rattle.dbus_names.specs.Names.{is_empty}
use Rattle.dbus_header.specs.Message.{Message, spell}
use Rattle.dbus_header.specs.Malformed.{front, fault}
use Rattle.dbus_header.specs.declared.Malformed.{Malformed}
use Rattle.dbus_framing.specs.Framing.{Takes}
use Rattle.policy_args.specs.Policy.{Policy}
use Rattle.policy_view.specs.History.{finished}
use Rattle.policy_view.specs.declared.Side.{Side}
use Rattle.policy_view.specs.declared.Side.TheVariants.{Client, Bus}
use Rattle.policy_view.specs.declared.End.{End}
use Rattle.policy_view.specs.declared.End.TheVariants.{Memory}
use Rattle.proxy_core.specs.Streams.{StreamView, Phase, InLines, InMessages, pushed}
use Rattle.proxy_core.specs.Sessions.{SessionView, stream_of}
use Rattle.proxy_core.specs.Messages.{ended_by, with_watched_message, KeepsSides}
use Rattle.proxy_core.specs.Steps.{with_stream, with_left, with_fault, and_runs, with_front, with_raw, raw_step, step_at, step_of, more_if, drained, with_more, with_bytes, end_unless, closed_if, room_of, with_piece, with_pushed, Grows, KeepsWaiting, TookMessage, IsStopped, WentOn, IsRefused, Took, Stepped, Did, own_to_come, weight, IsLight}
use Rattle.proxy_core.proofs.Keeping.{grows_as, grows_none, grows_then, bus_grows, client_grows, watched_kept}
use Rattle.proxy_core.proofs.Weights.{watched_light}
use Rattle.proxy_core.proofs.LineSteps.{line_grows, line_runs, did_light}

-- ---- the rest of a side's stream

abbrev pub left_of : Side → SessionView → List ℕ
left_of side view = (stream_of side view).left

same_left : (side : Side) (view : SessionView) → with_left side (left_of side view) view ≡ view
same_left Client view = refl
same_left Bus view = refl

left_mode : (side : Side) (left : List ℕ) (view : SessionView) → (with_left side left view).mode ≡ view.mode
left_mode Client left view = refl
left_mode Bus left view = refl

left_watches : (side : Side) (left : List ℕ) (view : SessionView) → (with_left side left view).watches ≡ view.watches
left_watches Client left view = refl
left_watches Bus left view = refl

left_grows : (side : Side) (left : List ℕ) (view new : SessionView) → Grows (with_left side left view) new → Grows view new
left_grows Client left view new g = grows_as g refl refl
left_grows Bus left view new g = grows_as g refl refl

-- ---- memory that was refused

sides_wait : (old new : SessionView) → KeepsSides old new → KeepsWaiting old new
sides_wait old new k = record {
  mode = k.mode;
  bus_side = k.bus_side;
  client_side = k.client_side;
  notes = k.notes;
  numbered = k.numbered;
  watches = k.watches;
  visible = k.visible;
}

-- of views in which the same bytes wait
waits_as : (old mid new : SessionView) → KeepsWaiting mid new → KeepsWaiting old mid → KeepsWaiting old new
waits_as old mid new k l = record {
  mode = k.mode ∙ l.mode;
  bus_side = k.bus_side ∙ l.bus_side;
  client_side = k.client_side ∙ l.client_side;
  notes = k.notes ∙ l.notes;
  numbered = k.numbered ∙ l.numbered;
  watches = k.watches ∙ l.watches;
  visible = k.visible ∙ l.visible;
}

left_waits : (side : Side) (left : List ℕ) (view : SessionView) → KeepsWaiting view (with_left side left view)
left_waits Client left view = record { mode = refl; bus_side = refl; client_side = refl; notes = refl; numbered = refl; watches = refl; visible = refl }
left_waits Bus left view = record { mode = refl; bus_side = refl; client_side = refl; notes = refl; numbered = refl; watches = refl; visible = refl }

ended_waits : (end : End) (view : SessionView) → KeepsWaiting view (ended_by end view)
ended_waits end view = record { mode = refl; bus_side = refl; client_side = refl; notes = refl; numbered = refl; watches = refl; visible = refl }

waiting_grows : (old new : SessionView) → KeepsWaiting old new → Grows old new
waiting_grows old new k = grows_as (grows_none old) refl (cc (k.bus_side, k.client_side, k.notes, k.visible))

-- before anything was done
stopped_first : (old new : SessionView) → old.ended ≡ None → new ≡ ended_by Memory old → IsStopped old new
stopped_first old new runs is = record { running = runs; ended = ap (λ (v : SessionView). v.ended) is; kept = subst (λ (v : SessionView). KeepsWaiting old v) (sym is) (ended_waits Memory old) }

-- a message's bytes are no longer left
left_weighs : (policy : Policy) (side : Side) (left : List ℕ) (n : ℕ) (view : SessionView) → length (left_of side view) ≡ n + length left → weight policy (with_left side left view) + 19 * n ≡ weight policy view
left_weighs policy Client left n view e = by _ _ _ _ _ e
  where
    by : (sides whole left other own : ℕ) → whole ≡ n + left → sides + 19 * (left + other) + own + 19 * n ≡ sides + 19 * (whole + other) + own
    by sides whole left other own e = omega arith
left_weighs policy Bus left n view e = by _ _ _ _ _ e
  where
    by : (sides whole left other own : ℕ) → whole ≡ n + left → sides + 19 * (other + left) + own + 19 * n ≡ sides + 19 * (other + whole) + own
    by sides whole left other own e = omega arith

pub no_more : (new mid n : ℕ) → new ≡ mid → new ≤ mid + n
no_more new mid n e = omega arith

-- ---- raw bytes

raw_grows : (side : Side) (bytes : List ℕ) (view : SessionView) → Grows view (with_raw side bytes view)
raw_grows Client bytes view = bus_grows view bytes
raw_grows Bus bytes view = client_grows view bytes

left_raw_grows : (side : Side) (view : SessionView) → Grows view (raw_step side view).0
left_raw_grows side view = left_grows side [] view (with_raw side (left_of side view) (with_left side [] view)) (raw_grows side (left_of side view) (with_left side [] view))

-- they weigh less when they wait than when they came
raw_weighs : (policy : Policy) (side : Side) (view : SessionView) → weight policy (raw_step side view).0 ≤ weight policy view
raw_weighs policy Client view = by _ _ _ _ _ _ (length-append view.bus_side view.client.left)
  where
    by : (bus_then bus client left other own : ℕ) → bus_then ≡ bus + left → bus_then + client + 19 * (0 + other) + own ≤ bus + client + 19 * (left + other) + own
    by bus_then bus client left other own e = omega arith
raw_weighs policy Bus view = by _ _ _ _ _ _ (length-append view.client_side view.bus.left)
  where
    by : (client_then bus client left other own : ℕ) → client_then ≡ client + left → bus + client_then + 19 * (other + 0) + own ≤ bus + client + 19 * (other + left) + own
    by client_then bus client left other own e = omega arith

-- with nothing left less weighs
left_lighter : (policy : Policy) (side : Side) (view : SessionView) → weight policy (with_left side [] view) ≤ weight policy view
left_lighter policy Client view = by _ _ _ _
  where
    by : (sides left other own : ℕ) → sides + 19 * (0 + other) + own ≤ sides + 19 * (left + other) + own
    by sides left other own = omega arith
left_lighter policy Bus view = by _ _ _ _
  where
    by : (sides left other own : ℕ) → sides + 19 * (other + 0) + own ≤ sides + 19 * (other + left) + own
    by sides left other own = omega arith

-- ---- the first message

module _ (policy : Policy) (side : Side) where
  abbrev after : Message → List ℕ → SessionView → SessionView
  after m left view = with_watched_message policy side m (with_left side left view)

  fault_grows : (o : Option Malformed) (view : SessionView) → Grows view (with_fault side o view)
  fault_grows None view = grows_none view
  fault_grows (Some f) view = grows_as (grows_none view) refl refl

  front_grows : (o : Option (Message × List ℕ)) (view : SessionView) → Grows view (with_front policy side o view).0
  front_grows None view = fault_grows (fault (left_of side view)) view
  front_grows (Some x) view = left_grows side x.1 view (after x.0 x.1 view) (watched_kept policy side x.0 (with_left side x.1 view)).grows

  behind_grows : (filter : Bool) (view : SessionView) → Grows view (cond filter (with_front policy side (front (left_of side view)) view) (raw_step side view)).0
  behind_grows true view = front_grows (front (left_of side view)) view
  behind_grows false view = left_raw_grows side view

  at_grows : (p : Phase) (view : SessionView) → Grows view (step_at policy side p view).0
  at_grows (InLines place told) view = line_grows side place told policy view
  at_grows InMessages view = behind_grows view.mode.filter view

  step_grows : (view : SessionView) → Grows view (step_of policy side view).0
  step_grows view = at_grows (stream_of side view).phase view

  none_ended : (o : Option End) → is_none o ≡ true → o ≡ None
  none_ended None e = refl
  none_ended (Some end) e = absurd cc

  either_runs : (o : Option (Message × List ℕ)) (view : SessionView) → (with_front policy side o view).1 ≡ true → (with_front policy side o view).0.ended ≡ None
  either_runs None view e = absurd cc
  either_runs (Some x) view e = none_ended (after x.0 x.1 view).ended e

  behind_runs : (filter : Bool) (view : SessionView) → (cond filter (with_front policy side (front (left_of side view)) view) (raw_step side view)).1 ≡ true
      → (cond filter (with_front policy side (front (left_of side view)) view) (raw_step side view)).0.ended ≡ None
  behind_runs true view e = either_runs (front (left_of side view)) view e
  behind_runs false view e = absurd cc

  at_runs : (p : Phase) (view : SessionView) → view.ended ≡ None → (step_at policy side p view).1 ≡ true → (step_at policy side p view).0.ended ≡ None
  at_runs (InLines place told) view runs e = line_runs side place told policy view runs e
  at_runs InMessages view runs e = behind_runs view.mode.filter view e

  pub step_runs : (view : SessionView) → view.ended ≡ None → (step_of policy side view).1 ≡ true → (step_of policy side view).0.ended ≡ None
  step_runs view runs e = at_runs (stream_of side view).phase view runs e

  -- after the lines
  behind_step : (view : SessionView) (filter : Bool) → (stream_of side view).phase ≡ InMessages → view.mode.filter ≡ filter
      → step_of policy side view ≡ cond filter (with_front policy side (front (left_of side view)) view) (raw_step side view)
  behind_step view filter e f = ap (λ (p : Phase). step_at policy side p view) e ∙ ap (λ (b : Bool). cond b (with_front policy side (front (left_of side view)) view) (raw_step side view)) f

  -- while messages come that are filtered
  pub record InMessagesNow (view : SessionView) : Type 0 where
    pub phase : (stream_of side view).phase ≡ InMessages
    pub filters : view.mode.filter ≡ true

  pub message_step : (view : SessionView) → InMessagesNow view → step_of policy side view ≡ with_front policy side (front (left_of side view)) view
  message_step view p = behind_step view true p.phase p.filters

  step_is : (view : SessionView) (m : Message) (left : List ℕ) → InMessagesNow view → front (left_of side view) ≡ Some (m, left) → step_of policy side view ≡ and_runs (after m left view)
  step_is view m left p e = message_step view p ∙ ap (λ (o : Option (Message × List ℕ)). with_front policy side o view) e

  -- a whole message is taken
  pub whole_step : (old mid new : SessionView) (frame left : List ℕ) (m : Message) → old.ended ≡ None → InMessagesNow old → Takes (left_of side old) frame left m → mid ≡ with_left side left old
      → TookMessage (with_watched_message policy side m mid) mid new → Stepped (step_of policy side old) old new (is_none new.ended)
  whole_step old mid new frame left m runs p t is (inl done) =
      let new_is : new ≡ after m left old = done ∙ ap (λ (v : SessionView). with_watched_message policy side m v) is in
      inl (new_is ∙ ap (λ (x : SessionView × Bool). x.0) (sym (step_is old m left p t.in_front)), ap (λ (v : SessionView). is_none v.ended) new_is ∙ ap (λ (x : SessionView × Bool). x.1) (sym (step_is old m left p t.in_front)))
  whole_step old mid new frame left m runs p t is (inr refused) =
      inr (
        record {
          running = runs;
          ended = refused.ended;
          kept = waits_as old mid new (sides_wait mid new refused.kept) (subst (λ (v : SessionView). KeepsWaiting old v) (sym is) (left_waits side left old));
        },
        ap is_none refused.ended,
      )

  -- nothing changed that weighs
  sides_weigh : (old new : SessionView) → KeepsSides old new → weight policy new ≡ weight policy old
  sides_weigh old new k =
      by (ap length k.bus_side) (ap length k.client_side) (ap (λ (x : StreamView). length x.left) k.client) (ap (λ (x : StreamView). length x.left) k.bus) (ap (own_to_come policy) k.greeted)
    where
      by : {a b c d e p q r s t : ℕ} → a ≡ p → b ≡ q → c ≡ r → d ≡ s → e ≡ t → a + b + 19 * (c + d) + e ≡ p + q + 19 * (r + s) + t
      by e f g h i = omega arith

  weighs_less : (old mid new : SessionView) (left : List ℕ) (n : ℕ) → mid ≡ with_left side left old → length (left_of side old) ≡ n + length left → weight policy new ≤ weight policy mid + 19 * n → weight policy new ≤ weight policy old + 19 * 0
  weighs_less old mid new left n is parts less = by (ap (weight policy) is) (left_weighs policy side left n old parts) less
    where
      by : {new mid cut old : ℕ} → mid ≡ cut → cut + 19 * n ≡ old → new ≤ mid + 19 * n → new ≤ old + 19 * 0
      by e f g = omega arith

  -- and at most nineteen bytes are put out for each of its own, beside the own calls that were to be sent
  pub whole_light : (old mid new : SessionView) (frame left : List ℕ) (m : Message) → Takes (left_of side old) frame left m → mid ≡ with_left side left old
      → TookMessage (with_watched_message policy side m mid) mid new → IsLight policy 0 old new
  whole_light old mid new frame left m t is took =
      let parts : length (left_of side old) ≡ length (spell m) + length left = ap length (t.parts ∙ ap (λ (xs : List ℕ). xs ++ left) t.spelled) ∙ length-append (spell m) left in
      let mode : mid.mode ≡ old.mode = ap (λ (v : SessionView). v.mode) is ∙ left_mode side left old in
      let watches : mid.watches ≡ old.watches = ap (λ (v : SessionView). v.watches) is ∙ left_watches side left old in
      elim took [
        | inl done ↦
            subst (λ (v : SessionView). IsLight policy 0 old v) (sym done)
            (record {
              mode = (watched_kept policy side m mid).mode ∙ mode;
              watches = (watched_kept policy side m mid).watches ∙ watches;
              weighs = weighs_less old mid (with_watched_message policy side m mid) left (length (spell m)) is parts (watched_light policy side m mid t.valid);
            })
        | inr refused ↦
            let same : weight policy new ≡ weight policy mid = sides_weigh mid new refused.kept in
            record {
              mode = refused.kept.mode ∙ mode;
              watches = refused.kept.watches ∙ watches;
              weighs = weighs_less old mid new left (length (spell m)) is parts (no_more _ _ (19 * length (spell m)) same);
            }
      ]

  -- ---- memory that was refused before anything was done

  pub refused_step : (old mid new : SessionView) → old.ended ≡ None → mid ≡ old → new ≡ ended_by Memory mid → Stepped (step_of policy side old) old new false
  refused_step old mid new runs same e = inr (stopped_first old new runs (e ∙ ap (ended_by Memory) same), refl)

  -- ---- one message after the other

  drained_grows : (n : ℕ) (view : SessionView) → Grows view (drained policy side n view)
  drained_grows zero view = grows_none view
  drained_grows (suc n) view = by (step_of policy side view).1 (drained_grows n (step_of policy side view).0)
    where
      by : (b : Bool) → Grows (step_of policy side view).0 (drained policy side n (step_of policy side view).0) → Grows view (more_if ((step_of policy side view).0, b) (drained policy side n))
      by true more = grows_then view (step_of policy side view).0 (drained policy side n (step_of policy side view).0) (step_grows view) more
      by false more = step_grows view

  abbrev step : SessionView → SessionView × Bool
  step view = step_of policy side view

  -- if more may follow
  pub record GoesOn (n : ℕ) (view new : SessionView) : Type 0 where
    pub same : drained policy side (n - 1) new ≡ drained policy side n view
    pub runs : new.ended ≡ None
    pub step_is : step_of policy side view ≡ (new, true)

  pub goes_on : (n : ℕ) (view new : SessionView) (more : Bool) → 0 < n → view.ended ≡ None → Stepped (step_of policy side view) view new more → more ≡ true → GoesOn n view new
  goes_on zero view new more pos runs s e = absurd (omega (arith, pos))
  goes_on (suc n) view new more pos runs (inl done) e =
      let goes : (step_of policy side view).1 ≡ true = sym done.1 ∙ e in
      let less : suc n - 1 ≡ n = omega arith in
      record {
        same = ap (λ (k : ℕ). drained policy side k new) less ∙ ap (drained policy side n) done.0 ∙ ap (λ (b : Bool). more_if ((step_of policy side view).0, b) (drained policy side n)) (sym goes);
        runs = ap (λ (v : SessionView). v.ended) done.0 ∙ step_runs view runs goes;
        step_is = ap₂ (λ (v : SessionView) (b : Bool). (v, b)) (sym done.0) goes;
      }
  goes_on (suc n) view new more pos runs (inr refused) e = absurd (let h : true ≡ false = sym e ∙ refused.1 in cc)

  -- if it doesn't
  pub stops : (n : ℕ) (first view new : SessionView) (expected : SessionView) (more : Bool) → 0 < n → (k : ℕ) × WentOn policy side k first view → drained policy side n view ≡ expected
      → Stepped (step_of policy side view) view new more → more ≡ false → Took policy side expected first new
  stops zero first view new expected more pos went is s e = absurd (omega (arith, pos))
  stops (suc n) first view new expected more pos went is (inl done) e =
      let halts : (step_of policy side view).1 ≡ false = sym done.1 ∙ e in
      inl (done.0 ∙ ap (λ (b : Bool). more_if ((step_of policy side view).0, b) (drained policy side n)) (sym halts) ∙ is)
  stops (suc n) first view new expected more pos went is (inr refused) e = inr (record { steps = went.0; mid = view; went = went.1; stopped = refused.0 })

  -- more of them
  went_on : (n : ℕ) (first mid view : SessionView) → (k : ℕ) × WentOn policy side k first mid → WentOn policy side n mid view → (k : ℕ) × WentOn policy side k first view
  went_on zero first mid view before is = (before.0, subst (λ (v : SessionView). WentOn policy side before.0 first v) (sym is) before.1)
  went_on (suc n) first mid view before (last, went, step) = let w = went_on n first mid last before went in (suc w.0, (last, w.1, step))

  pub took_on : (first view new expected whole : SessionView) → (k : ℕ) × WentOn policy side k first view → expected ≡ whole → Took policy side expected view new → Took policy side whole first new
  took_on first view new expected whole before is (inl done) = inl (done ∙ is)
  took_on first view new expected whole before is (inr r) =
      let w = went_on r.steps first view r.mid before r.went in
      inr (record { steps = w.0; mid = r.mid; went = w.1; stopped = r.stopped })

  -- what waits after these starts with what waited
  pub went_grows : (n : ℕ) (first view : SessionView) → WentOn policy side n first view → Grows first view
  went_grows zero first view is = subst (λ (v : SessionView). Grows first v) (sym is) (grows_none first)
  went_grows (suc n) first view (mid, went, is) =
      grows_then first mid view (went_grows n first mid went) (subst (λ (x : SessionView × Bool). Grows mid x.0) is (step_grows mid))

  refused_grows : (first new : SessionView) → IsRefused policy side first new → Grows first new
  refused_grows first new r = grows_then first r.mid new (went_grows r.steps first r.mid r.went) (waiting_grows r.mid new r.stopped.kept)

  -- the first of them, and then the others
  went_front : (n : ℕ) (first view : SessionView) → WentOn policy side (suc n) first view → (next : SessionView) × (step_of policy side first ≡ (next, true)) × WentOn policy side n next view
  went_front zero first view (mid, is, step) = (view, ap (step_of policy side) (sym is) ∙ step, refl)
  went_front (suc n) first view (mid, went, step) = let f = went_front n first mid went in (f.0, f.1, (mid, f.2, step))

  -- as many steps, one after the other
  pub went_drained : (n : ℕ) (first view : SessionView) → WentOn policy side n first view → drained policy side n first ≡ view
  went_drained zero first view is = sym is
  went_drained (suc n) first view went =
      let f = went_front n first view went in
      ap (λ (x : SessionView × Bool). more_if x (drained policy side n)) f.1 ∙ went_drained n f.0 view f.2

-- ---- all that is left goes on

module _ (policy : Policy) (side : Side) (old mid new : SessionView) (bytes : List ℕ) (goes : Bool) (mid_is : mid ≡ with_left side [] old) (bytes_are : bytes ≡ left_of side old) (did : Did (with_raw side bytes mid) mid new goes) where
  target_is : with_raw side bytes mid ≡ (raw_step side old).0
  target_is = ap (λ (v : SessionView). with_raw side bytes v) mid_is ∙ ap (λ (xs : List ℕ). with_raw side xs (with_left side [] old)) bytes_are

  pub raw_stepped : old.ended ≡ None → (stream_of side old).phase ≡ InMessages → old.mode.filter ≡ false → Stepped (step_of policy side old) old new false
  raw_stepped runs phase filters = subst (λ (x : SessionView × Bool). Stepped x old new false) (sym (behind_step policy side old false phase filters)) (by did)
    where
      by : Did (with_raw side bytes mid) mid new goes → Stepped (raw_step side old) old new false
      by (inl done) = inl (done.0 ∙ target_is, refl)
      by (inr cut) = inr (
        record {
          running = runs;
          ended = cut.0.ended;
          kept = waits_as old mid new cut.0.kept (subst (λ (v : SessionView). KeepsWaiting old v) (sym mid_is) (left_waits side [] old));
        },
        refl,
      )

  pub raw_light : IsLight policy 0 old new
  raw_light =
      did_light policy old mid new (with_raw side bytes mid) goes did (ap (λ (v : SessionView). v.mode) mid_is ∙ left_mode side [] old)
      (raw_mode side ∙ ap (λ (v : SessionView). v.mode) mid_is ∙ left_mode side [] old)
      (ap (λ (v : SessionView). v.watches) mid_is ∙ left_watches side [] old)
      (raw_watches side ∙ ap (λ (v : SessionView). v.watches) mid_is ∙ left_watches side [] old)
      (subst (λ (v : SessionView). weight policy v ≤ weight policy old) (sym mid_is) (left_lighter policy side old))
      (subst (λ (v : SessionView). weight policy v ≤ weight policy old) (sym target_is) (raw_weighs policy side old))
    where
      raw_mode : (s : Side) → (with_raw s bytes mid).mode ≡ mid.mode
      raw_mode Client = refl
      raw_mode Bus = refl

      raw_watches : (s : Side) → (with_raw s bytes mid).watches ≡ mid.watches
      raw_watches Client = refl
      raw_watches Bus = refl

-- ---- whether the session runs

pub runs_by : (o p : Option End) (b : Bool) → is_some o ≡ not b → o ≡ p → b ≡ is_none p
runs_by None p b e f = flip b e ∙ ap is_none f
  where
    flip : (b : Bool) → false ≡ not b → b ≡ true
    flip true e = refl
    flip false e = e
runs_by (Some x) p b e f = flip b e ∙ ap is_none f
  where
    flip : (b : Bool) → true ≡ not b → b ≡ false
    flip true e = e
    flip false e = refl

pub stepped_as : (expected : SessionView × Bool) (old new : SessionView) (a b : Bool) → a ≡ b → Stepped expected old new b → Stepped expected old new a
stepped_as expected old new a b e s = subst (λ (c : Bool). Stepped expected old new c) (sym e) s

-- ---- bytes that come

pushed_grows : (side : Side) (s : StreamView) (view new : SessionView) → Grows (with_stream side s view) new → Grows view new
pushed_grows Client s view new g = grows_as g refl refl
pushed_grows Bus s view new g = grows_as g refl refl

pushed_left : (side : Side) (s : StreamView) (view : SessionView) → left_of side (with_stream side s view) ≡ s.left
pushed_left Client s view = refl
pushed_left Bus s view = refl

pushed_ended : (side : Side) (s : StreamView) (view : SessionView) → (with_stream side s view).ended ≡ view.ended
pushed_ended Client s view = refl
pushed_ended Bus s view = refl

pushed_mode : (side : Side) (s : StreamView) (view : SessionView) → (with_stream side s view).mode ≡ view.mode
pushed_mode Client s view = refl
pushed_mode Bus s view = refl

pushed_watches : (side : Side) (s : StreamView) (view : SessionView) → (with_stream side s view).watches ≡ view.watches
pushed_watches Client s view = refl
pushed_watches Bus s view = refl

not_empty_by : (bytes : List ℕ) → (length bytes == 0) ≡ false → is_empty bytes ≡ false
not_empty_by [] e = absurd cc
not_empty_by (byte ∷ bytes) e = refl

module _ (policy : Policy) (side : Side) (bytes : List ℕ) where
  more_grows : (view : SessionView) → Grows view (with_more policy side bytes view)
  more_grows view =
      pushed_grows side (pushed bytes (stream_of side view)) view (with_more policy side bytes view) (drained_grows policy side (length (left_of side view ++ bytes) + 2) (with_pushed side bytes view))

  bytes_grow : (none : Bool) (view : SessionView) → Grows view (cond none view (with_more policy side bytes view))
  bytes_grow true view = grows_none view
  bytes_grow false view = more_grows view

  -- memory was refused before anything was processed
  pub bytes_refused : (old mid new : SessionView) → old.ended ≡ None → mid ≡ old → new ≡ ended_by Memory mid → Took policy side (with_bytes policy side bytes old) (with_pushed side bytes old) new
  bytes_refused old mid new runs same e = inr (record {
    steps = 0;
    mid = with_pushed side bytes old;
    went = refl;
    stopped = record {
      running = pushed_ended side (pushed bytes (stream_of side old)) old ∙ runs;
      ended = ap (λ (v : SessionView). v.ended) e;
      kept = subst (λ (v : SessionView). KeepsWaiting (with_pushed side bytes old) v) (sym (e ∙ ap (ended_by Memory) same)) (unpushed side (pushed bytes (stream_of side old)) old);
    };
  })
    where
      unpushed : (s : Side) (x : StreamView) (v : SessionView) → KeepsWaiting (with_stream s x v) (ended_by Memory v)
      unpushed Client x v = record { mode = refl; bus_side = refl; client_side = refl; notes = refl; numbered = refl; watches = refl; visible = refl }
      unpushed Bus x v = record { mode = refl; bus_side = refl; client_side = refl; notes = refl; numbered = refl; watches = refl; visible = refl }

  -- and those that came are taken
  pub bytes_taken : (old mid new : SessionView) (most : ℕ) → (length bytes == 0) ≡ false → mid ≡ with_pushed side bytes old → most ≡ length (left_of side mid) + 2
      → Took policy side (drained policy side most mid) mid new → Took policy side (with_bytes policy side bytes old) (with_pushed side bytes old) new
  bytes_taken old mid new most some is enough took = by took
    where
      most_is : most ≡ length (left_of side old ++ bytes) + 2
      most_is = enough ∙ ap (λ (v : SessionView). length (left_of side v) + 2) is ∙ ap (λ (xs : List ℕ). length xs + 2) (pushed_left side (pushed bytes (stream_of side old)) old)

      all : drained policy side most mid ≡ with_bytes policy side bytes old
      all =
          ap (λ (v : SessionView). drained policy side most v) is
          ∙ ap (λ (n : ℕ). drained policy side n (with_pushed side bytes old)) most_is
          ∙ ap (λ (b : Bool). cond b old (with_more policy side bytes old)) (sym (not_empty_by bytes some))

      by : Took policy side (drained policy side most mid) mid new → Took policy side (with_bytes policy side bytes old) (with_pushed side bytes old) new
      by (inl done) = inl (done ∙ all)
      by (inr refused) = inr (subst (λ (v : SessionView). IsRefused policy side v new) is refused)

-- ---- a piece

unless_grows : (o : Option End) (end : End) (old view : SessionView) → Grows old view → Grows old (end_unless o end view)
unless_grows None end old view g = grows_as g refl refl
unless_grows (Some before) end old view g = g

closed_grows : (over : Bool) (side : Side) (old view : SessionView) → Grows old view → Grows old (closed_if over side view)
closed_grows true side old view g = unless_grows view.ended (finished side) old view g
closed_grows false side old view g = g

-- it only adds to what waits, even if memory was refused in between
pub piece_grows : (policy : Policy) (side : Side) (piece : List ℕ) (old new : SessionView) → Took policy side (with_piece policy side piece old) (with_pushed side (take (room_of side old) piece) old) new → Grows old new
piece_grows policy side piece old new (inl done) =
    let bytes : List ℕ = take (room_of side old) piece in
    subst (λ (v : SessionView). Grows old v) (sym done)
    (closed_grows (nat_lt (room_of side old) (length piece)) side old (with_bytes policy side bytes old) (bytes_grow policy side bytes (is_empty bytes) old))
piece_grows policy side piece old new (inr refused) =
    pushed_grows side (pushed (take (room_of side old) piece) (stream_of side old)) old new
    (refused_grows policy side (with_pushed side (take (room_of side old) piece) old) new refused)

pub light_same : (policy : Policy) (view : SessionView) → IsLight policy 0 view view
light_same policy view = record { mode = refl; watches = refl; weighs = no_more _ _ (19 * 0) refl }

-- one after the other
pub light_then : (policy : Policy) (a b c : SessionView) → IsLight policy 0 a b → IsLight policy 0 b c → IsLight policy 0 a c
light_then policy a b c p q = record { mode = q.mode ∙ p.mode; watches = q.watches ∙ p.watches; weighs = omega (arith, p.weighs, q.weighs) }
