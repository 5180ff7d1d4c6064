-- A session that was served stands for the journal with what its turn added, and its log is exact.
use Rattle.std.proofs.Common.{ℕ, ◌≡◌, ◌≤◌, ◌<◌, length, ◌⊎◌, inl, inr, Bool, true, false, ◌||◌, is_some, List, [], ◌∷◌, ◌++◌, Option, Some, None, if◌then◌else◌, refl, ap, ap₂, ◌∙◌, sym, subst, append-nil, append_assoc}
use Rattle.explain_log.specs.Lines.{log}
use Rattle.link_traits.specs.Journals.{Journal, written}
use Rattle.link_traits.specs.Views.{NetView, SinkView}
use Rattle.link_traits.specs.Answers.{client_link, bus_link}
use Rattle.link_traits.specs.Told.{Rose}
use Rattle.link_traits.specs.declared.links.Side.{Side}
use Rattle.link_traits.specs.declared.links.Link.{Link}
use Rattle.policy_args.specs.Policy.{Policy}
use Rattle.policy_view.specs.declared.End.{End}
use Rattle.policy_view.specs.declared.End.TheVariants.{LogFault}
use Rattle.policy_view.specs.declared.Mode.{Mode}
use Rattle.policy_view.specs.Closings.{closing}
use Rattle.policy_view.specs.History.{Event, Stopped, end_of, history}
use Rattle.policy_view.specs.Notes.{Note, notes, notes_made}
use Rattle.proxy_core.specs.Sessions.{SessionView, Taken, StandsFor, IsFront, is_memory}
use Rattle.policy_view.proofs.Growth.{only_grows}
use Rattle.proxy_core.proofs.Fronts.{notes_ended, notes_front}
use Rattle.proxy_core.proofs.Standing.{holds_all}
use Rattle.policy_view.proofs.Closings.{open_has_none, there_is_closing, closes_later}
use Rattle.proxy_loop.specs.declared.serving.Running.{Running}
use Rattle.proxy_loop.specs.Sessions.{Holds, IsWithStop, events_of, taken_of}
use Rattle.proxy_loop.specs.Works.{Moves, more_taken}
use Rattle.proxy_loop.specs.Logging.{stop_events}
use Rattle.proxy_loop.specs.Runs.{WrittenUnless, ReadsAndLogs, HoldsFirstOf, WhyCut, AreLines, Logged, ClosesIn, ServedStands, log_of}
use Rattle.proxy_loop.proofs.Holding.{wrote_append, events_append}
use Rattle.proxy_loop.proofs.Stopping.{AllStops, stops_append, both_stop}
use Rattle.proxy_loop.proofs.Logged.{log-append}
use Rattle.proxy_loop.proofs.Prefixes.{taken_front, stops_given}
use Rattle.proxy_loop.proofs.Refused.{HeldFirst, held_first}

pub still_some : (old new : Option End) → ((end : End) → old ≡ Some end → new ≡ Some end) → is_some old ≡ true → is_some new ≡ true
still_some None new h e = cc
still_some (Some end) new h e = ap (λ (o : Option End). is_some o) (h end refl)

pub still_none : (old new : Option End) → ((end : End) → old ≡ Some end → new ≡ Some end) → new ≡ None → old ≡ None
still_none None new h e = refl
still_none (Some end) new h e = let s : new ≡ Some end = h end refl in cc

with_stop_grow : (put : Bool) (more events told : List Event) → (put ≡ true → AllStops more) → IsWithStop put events told → IsWithStop put (more ++ events) (more ++ told)
with_stop_grow false more events told stops e = ap (λ (l : List Event). more ++ l) e
with_stop_grow true more events told stops s = (
  more ++ s.0,
  s.1,
  ap (λ (l : List Event). more ++ l) s.2 ∙ sym (append_assoc more s.0 s.1),
  ap (λ (l : List Event). more ++ l) s.3 ∙ sym (append_assoc more s.0 (Stopped LogFault ∷ s.1)),
  stops_append more s.0 (stops refl) s.4,
)

-- a session that goes by some entries stands for the journal with them
pub holds_moved : (policy : Policy) (n : ℕ) (old new : SessionView) (added was : Journal) → Moves policy n old new added →
    ((end : End) → old.ended ≡ Some end → new.ended ≡ Some end) → new.mode ≡ old.mode → (is_some old.ended ≡ true → AllStops (events_of n added)) → Holds policy n old was → Holds policy n new (added ++ was)
holds_moved policy n old new added was moves kept mode stops h = record {
  put = h.put;
  events = events_of n added ++ h.events;
  notes = h.notes;
  told = subst (λ (l : List Event). IsWithStop h.put (events_of n added ++ h.events) l) (sym (events_append n added was))
      (with_stop_grow h.put (events_of n added) h.events (events_of n was) (λ e. stops (h.over e)) h.told);
  over = λ e. still_some old.ended new.ended kept (h.over e);
  logs = λ e. ap (λ (m : Mode). m.notes) mode ∙ h.logs e;
  stands = subst (λ (t : Taken). StandsFor policy new (events_of n added ++ h.events) t)
      (ap₂ (λ (x y : List ℕ). record { bus_side = x; client_side = y; notes = h.notes; visible = []; held = 0 }) (sym (wrote_append (bus_link n) added was)) (sym (wrote_append (client_link n) added was)))
      (moves.each h.events (taken_of n h.notes was) h.stands);
}

not_put : (put : Bool) (ended : Option End) → (put ≡ true → is_some ended ≡ true) → ended ≡ None → put ≡ false
not_put false ended h e = refl
not_put true ended h e = let t : is_some ended ≡ true = h refl in let f : is_some ended ≡ false = ap (λ (o : Option End). is_some o) e in cc

not_idle : (idle failed : Bool) → (idle ≡ true → failed ≡ false) → failed ≡ true → idle ≡ false
not_idle false failed h e = refl
not_idle true failed h e = let n : failed ≡ false = h refl in cc

runs_by : (ended : Option End) (full : Bool) → is_some ended || full ≡ false → ended ≡ None
runs_by None full e = refl
runs_by (Some end) full e = cc

pub idle_by : (ended : Option End) (full : Bool) → is_some ended ≡ true → is_some ended || full ≡ true
idle_by None full e = cc
idle_by (Some end) full e = refl

some_memory : (ended : Option End) → is_memory ended ≡ true → is_some ended ≡ true
some_memory None m = cc
some_memory (Some end) m = refl

no_stop_in : (put : Bool) (events told : List Event) → put ≡ false → IsWithStop put events told → events ≡ told
no_stop_in false events told e s = s
no_stop_in true events told e s = cc

made_all : (mode : Mode) (policy : Policy) (events : List Event) → mode.notes ≡ true → notes_made mode policy (history policy mode events) ≡ notes policy (history policy mode events)
made_all mode policy events e = ap (λ (b : Bool). if b then notes policy (history policy mode events) else []) e

-- all notes of a session that runs, if none is left
exact_notes : (policy : Policy) (n : ℕ) (session : SessionView) (journal : Journal) (h : Holds policy n session journal) →
    session.ended ≡ None → session.mode.notes ≡ true → session.notes ≡ [] → notes policy (history policy session.mode (events_of n journal)) ≡ h.notes
exact_notes policy n session journal h e k none =
    let same : h.events ≡ events_of n journal = no_stop_in h.put h.events (events_of n journal) (not_put h.put session.ended h.over e) h.told in
    let items : h.notes ++ session.notes ≡ notes_made session.mode policy (history policy session.mode h.events) = (h.stands.holds (ap is_memory e)).noted in
    let plain : h.notes ++ [] ≡ notes policy (history policy session.mode h.events) =
    ap (λ (l : List Note). h.notes ++ l) (sym none) ∙ items ∙ made_all session.mode policy h.events k in
    ap (λ (es : List Event). notes policy (history policy session.mode es)) (sym same) ∙ sym plain ∙ append-nil h.notes

-- what was taken is the beginning of all notes
first_notes : (policy : Policy) (n : ℕ) (session : SessionView) (journal : Journal) (h : Holds policy n session journal) → session.mode.notes ≡ true →
    IsFront h.notes (notes policy (history policy session.mode (events_of n journal)))
first_notes policy n session journal h k =
    taken_front policy session.mode (notes policy) (notes_ended policy) h.put h.events (events_of n journal)
    h.notes session.notes h.told
    (subst (λ (l : List Note). IsFront (h.notes ++ session.notes) l) (made_all session.mode policy h.events k) (notes_front policy session h.events (taken_of n h.notes journal) h.stands))

module _ (policy : Policy) (logs : Bool) (n : ℕ) (side : Side) (full : Bool) (s0 s1 s3 : SessionView) (r1 r2 : Running) (v1 v2 : NetView) (l0 l1 : SinkView)
    (reads : ReadsAndLogs policy logs n side (is_some s1.ended || full) r1 r2 v1 v2 l0 l1)
    (was early late : Journal) (before : Moves policy n s0 reads.fed early) (after : Moves policy n r2.session s3 late)
    (first_end : (end : End) → s0.ended ≡ Some end → s1.ended ≡ Some end) (read_end : (end : End) → s1.ended ≡ Some end → reads.fed.ended ≡ Some end)
    (last_end : (end : End) → r2.session.ended ≡ Some end → s3.ended ≡ Some end) (h : Holds policy n s0 was) (mode : s3.mode ≡ s0.mode) (keeps_log : s0.mode.notes ≡ logs)
    (early_stops : is_some s0.ended ≡ true → AllStops (events_of n early)) (late_stops : AllStops (events_of n late)) where
  all_end : (end : End) → s0.ended ≡ Some end → s3.ended ≡ Some end
  all_end end e = last_end end (reads.end end (read_end end (first_end end e)))

  events_now : List Event
  events_now = events_of n late ++ (stop_events reads.failed ++ (events_of n early ++ h.events))

  regrouped_now : (events_of n late ++ (stop_events reads.failed ++ events_of n early)) ++ h.events ≡ events_now
  unfolding events_now
  regrouped_now = append_assoc (events_of n late) (stop_events reads.failed ++ events_of n early) h.events
      ∙ ap (λ (l : List Event). events_of n late ++ l) (append_assoc (stop_events reads.failed) (events_of n early) h.events)

  told_now : events_of n ((late ++ early) ++ was) ≡ events_of n late ++ (events_of n early ++ events_of n was)
  told_now = events_append n (late ++ early) was ∙ ap (λ (l : List Event). l ++ events_of n was) (events_append n late early)
      ∙ append_assoc (events_of n late) (events_of n early) (events_of n was)

  words_now : (link : Link) → (written link was ++ written link early) ++ written link late ≡ written link ((late ++ early) ++ was)
  words_now link = append_assoc (written link was) (written link early) (written link late)
      ∙ ap (λ (l : List ℕ). written link was ++ l) (sym (wrote_append link late early)) ∙ sym (wrote_append link (late ++ early) was)

  -- it stands on, and holds as many items as it held
  stands_held : (held : ℕ) → StandsFor policy s0 h.events (record (taken_of n h.notes was) { held = held }) →
      StandsFor policy s3 (events_of n late ++ (stop_events reads.failed ++ (events_of n early ++ h.events))) (record (taken_of n (h.notes ++ reads.taken) ((late ++ early) ++ was)) { held = held })
  stands_held held stands =
      subst (λ (t : Taken). StandsFor policy s3 (events_of n late ++ (stop_events reads.failed ++ (events_of n early ++ h.events))) t)
      (ap₂ (λ (x y : List ℕ). record { bus_side = x; client_side = y; notes = h.notes ++ reads.taken; visible = []; held = held }) (words_now (bus_link n)) (words_now (client_link n)))
      (after.each (stop_events reads.failed ++ (events_of n early ++ h.events)) (record (more_taken n early (record (taken_of n h.notes was) { held = held })) { notes = h.notes ++ reads.taken })
      (reads.stands policy (events_of n early ++ h.events) (more_taken n early (record (taken_of n h.notes was) { held = held })) (before.each h.events (record (taken_of n h.notes was) { held = held }) stands)))

  stands_now : StandsFor policy s3 (events_of n late ++ (stop_events reads.failed ++ (events_of n early ++ h.events))) (taken_of n (h.notes ++ reads.taken) ((late ++ early) ++ was))
  stands_now = stands_held 0 h.stands

  holds_by : (failed : Bool) → reads.failed ≡ failed →
      (p : Bool) × IsWithStop p (events_of n late ++ (stop_events failed ++ (events_of n early ++ h.events))) (events_of n ((late ++ early) ++ was)) × (p ≡ true → is_some s3.ended ≡ true)
      × (p ≡ true → s3.mode.notes ≡ true)
  holds_by false e = (
    h.put,
    subst (λ (l : List Event). IsWithStop h.put (events_of n late ++ (events_of n early ++ h.events)) l) (sym told_now)
        (with_stop_grow h.put (events_of n late) (events_of n early ++ h.events) (events_of n early ++ events_of n was) (λ e. late_stops)
        (with_stop_grow h.put (events_of n early) h.events (events_of n was) (λ e. early_stops (h.over e)) h.told)),
    λ p. still_some s0.ended s3.ended all_end (h.over p),
    λ p. ap (λ (m : Mode). m.notes) mode ∙ h.logs p,
  )
  holds_by true e =
      let runs : s1.ended ≡ None = runs_by s1.ended full (not_idle (is_some s1.ended || full) reads.failed reads.still e) in
      let ran : s0.ended ≡ None = still_none s0.ended s1.ended first_end runs in
      let same : h.events ≡ events_of n was = no_stop_in h.put h.events (events_of n was) (not_put h.put s0.ended h.over ran) h.told in (
        true,
        (
          events_of n late,
          events_of n early ++ h.events,
          told_now ∙ ap (λ (l : List Event). events_of n late ++ (events_of n early ++ l)) (sym same),
          refl,
          late_stops,
        ),
        λ p. still_some r2.session.ended s3.ended last_end (reads.stopped e),
        λ p. ap (λ (m : Mode). m.notes) mode ∙ keeps_log ∙ reads.logged e,
      )

  pub holds_now : Holds policy n s3 ((late ++ early) ++ was)
  holds_now = let w = holds_by reads.failed refl in record {
    put = w.0;
    events = events_of n late ++ (stop_events reads.failed ++ (events_of n early ++ h.events));
    notes = h.notes ++ reads.taken;
    told = w.1;
    over = w.2;
    logs = w.3;
    stands = stands_now;
  }

  -- the events so far had no End
  open_before : s0.ended ≡ None → closing policy s3.mode h.events ≡ None
  open_before ran = open_has_none policy s3.mode h.events
      (ap (λ (m : Mode). end_of (history policy m h.events)) mode ∙ sym (h.stands.holds (ap is_memory ran)).end_is ∙ ran)

  closes_now : s0.ended ≡ None → (end : End) → s3.ended ≡ Some end → is_memory s3.ended ≡ false → ClosesIn policy n s3 end was ((late ++ early) ++ was)
  unfolding events_now
  closes_now ran end e whole =
      let w = holds_by reads.failed refl in
      let same : h.events ≡ events_of n was = no_stop_in h.put h.events (events_of n was) (not_put h.put s0.ended h.over ran) h.told in
      let at = there_is_closing policy s3.mode events_now end (sym (stands_now.holds whole).end_is ∙ e) in
      record {
        put = w.0;
        events = events_now;
        told = w.1;
        at = at.0;
        closes = at.1;
        here = subst (λ (es : List Event). length es < at.0) same
            (closes_later policy s3.mode (events_of n late ++ (stop_events reads.failed ++ events_of n early)) h.events end at.0 (open_before ran)
            (ap (λ (es : List Event). closing policy s3.mode es) regrouped_now ∙ at.1));
      }

  more_lines : (xs : List Note) → log n ((h.notes ++ reads.taken) ++ xs) ≡ log n h.notes ++ (reads.lines ++ (reads.rest ++ log n xs))
  more_lines xs = log-append n (h.notes ++ reads.taken) xs
      ∙ ap (λ (l : List ℕ). l ++ log n xs) (log-append n h.notes reads.taken ∙ ap (λ (l : List ℕ). log n h.notes ++ l) reads.is)
      ∙ append_assoc (log n h.notes) (reads.lines ++ reads.rest) (log n xs)
      ∙ ap (λ (l : List ℕ). log n h.notes ++ l) (append_assoc reads.lines reads.rest (log n xs))

  module _ (logged : logs ≡ true) (kept : s0.mode.notes ≡ true) (none_before : s0.ended ≡ None → s0.notes ≡ [])
      (same_before : r1.session.notes ≡ s0.notes) (same_after : s3.notes ≡ r2.session.notes) where
    keeps : s3.mode.notes ≡ true
    keeps = ap (λ (m : Mode). m.notes) mode ∙ kept

    all_before : s0.ended ≡ None → log_of policy s3.mode n was ≡ log n h.notes
    unfolding log_of
    all_before e = ap (λ (m : Mode). log n (notes policy (history policy m (events_of n was)))) mode
        ∙ ap (log n) (exact_notes policy n s0 was h e kept (none_before e))

    first_now : IsFront (h.notes ++ reads.taken) (notes policy (history policy s3.mode (events_of n ((late ++ early) ++ was))))
    unfolding holds_now
    first_now = first_notes policy n s3 ((late ++ early) ++ was) holds_now keeps

    all_after : log_of policy s3.mode n ((late ++ early) ++ was) ≡ log n h.notes ++ (reads.lines ++ (reads.rest ++ log n first_now.rest))
    unfolding log_of
    all_after = ap (log n) (sym first_now.is) ∙ more_lines first_now.rest

    given_late : (events : List Event) → notes policy (history policy s3.mode (events_of n late ++ events)) ≡ notes policy (history policy s3.mode events)
    given_late events = stops_given policy s3.mode (notes policy) (notes_ended policy) (events_of n late) events late_stops

    given_stopped : (failed : Bool) (events : List Event) → notes policy (history policy s3.mode (stop_events failed ++ events)) ≡ notes policy (history policy s3.mode events)
    given_stopped false events = refl
    given_stopped true events = stops_given policy s3.mode (notes policy) (notes_ended policy) (Stopped LogFault ∷ []) events refl

    -- a session that wasn't refused memory knows all of its notes
    exact_after : s0.ended ≡ None → is_memory s3.ended ≡ false → log_of policy s3.mode n ((late ++ early) ++ was) ≡ log n h.notes ++ (reads.lines ++ (reads.rest ++ log n s3.notes))
    unfolding log_of events_now events_of
    exact_after ran whole =
        let same : h.events ≡ events_of n was = no_stop_in h.put h.events (events_of n was) (not_put h.put s0.ended h.over ran) h.told in
        let noted : (h.notes ++ reads.taken) ++ s3.notes ≡ notes_made s3.mode policy (history policy s3.mode events_now) = (stands_now.holds whole).noted in
        ap (log n) (
        ap (λ (es : List Event). notes policy (history policy s3.mode es)) told_now
        ∙ given_late (events_of n early ++ events_of n was)
        ∙ ap (λ (es : List Event). notes policy (history policy s3.mode (events_of n early ++ es))) (sym same)
        ∙ sym (given_stopped reads.failed (events_of n early ++ h.events))
        ∙ sym (given_late (stop_events reads.failed ++ (events_of n early ++ h.events)))
        ∙ sym (noted ∙ made_all s3.mode policy events_now keeps)
        )
        ∙ more_lines s3.notes

    -- after an End nothing is read, and there is no new note
    unchanged : is_some s0.ended ≡ true → log_of policy s3.mode n ((late ++ early) ++ was) ≡ log_of policy s3.mode n was
    unfolding log_of
    unchanged e =
        ap (λ (es : List Event). log n (notes policy (history policy s3.mode es))) (events_append n (late ++ early) was)
        ∙ ap (log n) (stops_given policy s3.mode (notes policy) (notes_ended policy) (events_of n (late ++ early)) (events_of n was)
        (both_stop n late early late_stops (early_stops e)))

    -- memory was refused in this turn: the session holds the first items, and all from before the turn
    held_now : s0.ended ≡ None → is_memory s3.ended ≡ true → HeldFirst policy n s3 ((late ++ early) ++ was) (h.notes ++ reads.taken) (length (history policy s3.mode h.events))
    unfolding events_now
    held_now ran memory =
        let w = holds_by reads.failed refl in
        let grown = (only_grows policy s3.mode (events_of n late ++ (stop_events reads.failed ++ events_of n early)) h.events).items in
        held_first policy n s3 ((late ++ early) ++ was) w.0 events_now (h.notes ++ reads.taken) (history policy s3.mode h.events) w.1
        (grown.0, ap (history policy s3.mode) (sym regrouped_now) ∙ grown.1)
        (ap (λ (m : Mode). end_of (history policy m h.events)) mode ∙ sym (h.stands.holds (ap is_memory ran)).end_is ∙ ran)
        (stands_held (length (history policy s3.mode h.events))
        (subst (λ (m : Mode). StandsFor policy s0 h.events (record (taken_of n h.notes was) { held = length (history policy m h.events) })) (sym mode)
        (holds_all policy s0 h.events (taken_of n h.notes was) ran h.stands))) memory

    -- the log has its lines
    first_logged : (ran : s0.ended ≡ None) → (memory : is_memory s3.ended ≡ true) → reads.rest ≡ [] → s3.notes ≡ [] → HoldsFirstOf policy n s3 was ((late ++ early) ++ was) reads.lines
    first_logged ran memory whole none =
        let f = held_now ran memory in
        let same : h.events ≡ events_of n was = no_stop_in h.put h.events (events_of n was) (not_put h.put s0.ended h.over ran) h.told in
        record {
          memory = memory;
          done = f.done;
          before = subst (λ (es : List Event). length (history policy s3.mode es) ≤ f.done) same f.before;
          within = f.within;
          logged = ap (log n) (sym (f.noted keeps)) ∙ more_lines s3.notes
              ∙ ap₂ (λ (xs : List ℕ) (ys : List Note). log n h.notes ++ (reads.lines ++ (xs ++ log n ys))) whole none
              ∙ ap (λ (l : List ℕ). log n h.notes ++ l) (append-nil reads.lines)
              ∙ ap (λ (l : List ℕ). l ++ reads.lines) (sym (all_before ran));
          for_bus = f.bus;
          for_client = f.client;
        }

    cut_by : (failed : Bool) → reads.failed ≡ failed → s0.ended ≡ None →
        (reads.rest ++ log n s3.notes ≡ []) ⊎ ((is_some s3.ended ≡ true) × WhyCut policy n s3 was ((late ++ early) ++ was) reads.lines l0 l1)
    cut_by false e ran =
        let whole : reads.rest ≡ [] = subst (λ (b : Bool). WrittenUnless b reads.rest l0 l1) e reads.written in
        let none : s3.notes ≡ [] = same_after ∙ reads.all logged e (same_before ∙ none_before ran) in
        inl (ap₂ (λ (xs : List ℕ) (ys : List Note). xs ++ log n ys) whole none)
    cut_by true e ran = inr (
      still_some r2.session.ended s3.ended last_end (reads.stopped e),
      inr (subst (λ (b : Bool). WrittenUnless b reads.rest l0 l1) e reads.written),
    )

    whole_by : (failed : Bool) → reads.failed ≡ failed → Rose l0.faults l1.faults ⊎ AreLines n reads.lines
    whole_by false e =
        let all : reads.rest ≡ [] = subst (λ (b : Bool). WrittenUnless b reads.rest l0 l1) e reads.written in
        inr (reads.taken, sym (reads.is ∙ ap (λ (l : List ℕ). reads.lines ++ l) all ∙ append-nil reads.lines))
    whole_by true e = inl (subst (λ (b : Bool). WrittenUnless b reads.rest l0 l1) e reads.written)

    pub logged_now : (o0 : Option End) → s0.ended ≡ o0 → Logged policy n s3 was ((late ++ early) ++ was) l0 l1
    logged_now None e = by_memory (is_memory s3.ended) refl
      where
        by_memory : (b : Bool) → is_memory s3.ended ≡ b → Logged policy n s3 was ((late ++ early) ++ was) l0 l1
        by_memory true m = record {
          lines = reads.lines;
          rest = reads.rest ++ log n first_now.rest;
          appends = reads.appends;
          is = all_after ∙ ap (λ (l : List ℕ). l ++ (reads.lines ++ (reads.rest ++ log n first_now.rest))) (sym (all_before e));
          cut = inr (some_memory s3.ended m, why_by reads.failed refl);
          whole = whole_by reads.failed refl;
        }
          where
            why_by : (failed : Bool) → reads.failed ≡ failed → WhyCut policy n s3 was ((late ++ early) ++ was) reads.lines l0 l1
            why_by false f =
                let whole : reads.rest ≡ [] = subst (λ (b : Bool). WrittenUnless b reads.rest l0 l1) f reads.written in
                let none : s3.notes ≡ [] = same_after ∙ reads.all logged f (same_before ∙ none_before e) in
                inl (first_logged e m whole none)
            why_by true f = inr (subst (λ (b : Bool). WrittenUnless b reads.rest l0 l1) f reads.written)
        by_memory false m = record {
          lines = reads.lines;
          rest = reads.rest ++ log n s3.notes;
          appends = reads.appends;
          is = exact_after e m ∙ ap (λ (l : List ℕ). l ++ (reads.lines ++ (reads.rest ++ log n s3.notes))) (sym (all_before e));
          cut = cut_by reads.failed refl e;
          whole = whole_by reads.failed refl;
        }
    logged_now (Some end) e =
        let ended : is_some s0.ended ≡ true = ap (λ (o : Option End). is_some o) e in
        let none : reads.lines ≡ [] = reads.unread (idle_by s1.ended full (still_some s0.ended s1.ended first_end ended)) in
        record {
          lines = reads.lines;
          rest = [];
          appends = reads.appends;
          is = unchanged ended ∙ sym (append-nil (log_of policy s3.mode n was)) ∙ ap (λ (l : List ℕ). log_of policy s3.mode n was ++ (l ++ [])) (sym none);
          cut = inl refl;
          whole = inr ([], none);
        }

  pub served_stands : (s0.mode.notes ≡ true → s0.ended ≡ None → s0.notes ≡ []) → r1.session.notes ≡ s0.notes → s3.notes ≡ r2.session.notes →
      ServedStands policy logs n s0 s3 was ((late ++ early) ++ was) l0 l1
  served_stands none_before same_before same_after = record {
    holds = holds_now;
    closes = closes_now;
    logged = λ e. let kept : s0.mode.notes ≡ true = keeps_log ∙ e in logged_now e kept (none_before kept) same_before same_after s0.ended refl;
  }
