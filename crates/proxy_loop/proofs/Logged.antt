-- Lines that are logged, one after the other.
use Rattle.std.proofs.Common.{ℕ, ◌≡◌, ◌≤◌, Bool, true, false, List, [], ◌∷◌, ◌++◌, Option, Some, None, Result, Ok, Err, OnOk, OnErr, refl, ap, ◌∙◌, sym, subst, append-nil, append_assoc, arith, is_err}
use Rattle.std.proofs.lemmas.Grind.{flat_map-append}
use Rattle.explain_log.specs.Buffers.{GoesOut}
use Rattle.explain_log.specs.Lines.{log_line, log}
use Rattle.link_traits.specs.Told.{Rose}
use Rattle.link_traits.proofs.Parts.{added-none, then_all}
use Rattle.link_traits.specs.Views.{Appends, SinkView}
use Rattle.policy_args.specs.Policy.{Policy}
use Rattle.policy_view.specs.Notes.{Note}
use Rattle.policy_view.specs.History.{Event}
use Rattle.policy_view.specs.declared.End.{End}
use Rattle.policy_view.specs.declared.End.TheVariants.{LogFault}
use Rattle.proxy_core.specs.Sessions.{SessionView, Taken, StandsFor}
use Rattle.proxy_core.specs.Messages.{ended_by}
use Rattle.proxy_loop.specs.Logging.{stopped_at, LogsSoFar, Logs}
use Rattle.proxy_loop.proofs.Holding.{Stops, rose_sooner}

pub on_ok : {A E : Type 0} (r : Result A E) (P : Type 0) → is_err r ≡ false → OnOk r P → P
on_ok (Ok x) P e h = h
on_ok (Err x) P e h = cc

pub on_err : {A E : Type 0} (r : Result A E) (P : Type 0) → is_err r ≡ true → OnErr r P → P
on_err (Ok x) P e h = cc
on_err (Err x) P e h = h

pub appends_none : (a : SinkView) → Appends a a []
appends_none a = sym (added-none a.told)

pub appends_then : (a b c : SinkView) (xs ys : List ℕ) → Appends a b xs → Appends b c ys → Appends a c (xs ++ ys)
appends_then a b c xs ys p q = then_all a.told b.told c.told xs ys p q

-- what a stop makes of a session
pub stopped_view : (old new : SessionView) (own result : End) → Stops old new own result → new ≡ stopped_at old.ended own old
stopped_view old new own result stops = by_end old.ended refl
  where
    by_end : (o : Option End) → old.ended ≡ o → new ≡ stopped_at o own old
    by_end None e = stops.answer ∙ ap (λ (x : End). ended_by x old) (stops.first e)
    by_end (Some x) e = stops.answer ∙ ap (λ (o : Option End). record old { ended = o }) (ap (λ (y : End). Some y) (stops.last x e) ∙ sym e)

pub log-append : (n : ℕ) (xs ys : List Note) → log n (xs ++ ys) ≡ log n xs ++ log n ys
log-append n xs ys = flat_map-append (log_line n) xs ys

log-one : (n : ℕ) (note : Note) → log n (note ∷ []) ≡ log_line n note
log-one n note = append-nil (log_line n note)

log-more : (n : ℕ) (xs : List Note) (note : Note) → log n (xs ++ note ∷ []) ≡ log n xs ++ log_line n note
log-more n xs note = log-append n xs (note ∷ []) ∙ ap (λ (l : List ℕ). log n xs ++ l) (log-one n note)

pub logs_start : (n : ℕ) (session : SessionView) (sink : SinkView) (left : List ℕ) → left ≡ [] → LogsSoFar n session session sink sink left
logs_start n session sink left none = record {
  taken = [];
  split = refl;
  same = refl;
  got = [];
  lines = sym none;
  appends = appends_none sink;
  counts = omega arith;
  stands = λ policy events was s. rw (append-nil was.notes) s;
}

-- one note more
module _ (n : ℕ) (old now next : SessionView) (before between after : SinkView) (joined : List ℕ) (note : Note) (so_far : LogsSoFar n old now before between joined)
    (rest : List Note) (first : now.notes ≡ note ∷ rest) (same : next ≡ record now { notes = rest })
    (stands : (policy : Policy) (events : List Event) (was : Taken) → StandsFor policy now events was → StandsFor policy next events (record was { notes = was.notes ++ note ∷ [] })) where
  notes_left : next.notes ≡ rest
  notes_left = ap (λ (s : SessionView). s.notes) same

  split : old.notes ≡ (so_far.taken ++ note ∷ []) ++ next.notes
  split = so_far.split ∙ ap (λ (l : List Note). so_far.taken ++ l) (first ∙ ap (λ (l : List Note). note ∷ l) (sym notes_left)) ∙ sym (append_assoc so_far.taken (note ∷ []) next.notes)

  from_old : next ≡ record old { notes = next.notes }
  from_old = same ∙ ap (λ (s : SessionView). record s { notes = rest }) so_far.same ∙ ap (λ (l : List Note). record old { notes = l }) (sym notes_left)

  next_stands : (policy : Policy) (events : List Event) (was : Taken) → StandsFor policy old events was →
      StandsFor policy next events (record was { notes = was.notes ++ (so_far.taken ++ note ∷ []) })
  next_stands policy events was s =
      subst (λ (l : List Note). StandsFor policy next events (record was { notes = l })) (append_assoc was.notes so_far.taken (note ∷ []))
      (stands policy events (record was { notes = was.notes ++ so_far.taken }) (so_far.stands policy events was s))

  -- the lines so far, by what is written of those that were joined
  lines_as : (got others : List ℕ) → joined ++ log_line n note ≡ got ++ others → log n (so_far.taken ++ note ∷ []) ≡ (so_far.got ++ got) ++ others
  lines_as got others e =
      log-more n so_far.taken note
      ∙ ap (λ (l : List ℕ). l ++ log_line n note) so_far.lines
      ∙ append_assoc so_far.got joined (log_line n note)
      ∙ ap (λ (l : List ℕ). so_far.got ++ l) e
      ∙ sym (append_assoc so_far.got got others)

  pub one_logged : (left : List ℕ) → GoesOut (joined ++ log_line n note) left between.told after.told → between.faults ≤ after.faults → LogsSoFar n old next before after left
  one_logged left w counts = record {
    taken = so_far.taken ++ note ∷ [];
    split = split;
    same = from_old;
    got = so_far.got ++ w.got;
    lines = lines_as w.got left w.split;
    appends = appends_then before between after so_far.got w.got so_far.appends w.is;
    counts = omega (arith, so_far.counts, counts);
    stands = next_stands;
  }

  pub one_stops : (left : List ℕ) (new : SessionView) (result : End) → GoesOut (joined ++ log_line n note) left between.told after.told → between.faults ≤ after.faults →
      Rose between.faults after.faults → Stops next new LogFault result → Logs n old new before after
  one_stops left new result w counts rose stops = record {
    taken = so_far.taken ++ note ∷ [];
    left = next.notes;
    split = split;
    got = so_far.got ++ w.got;
    rest = left;
    lines = lines_as w.got left w.split;
    appends = appends_then before between after so_far.got w.got so_far.appends w.is;
    counts = omega (arith, so_far.counts, counts);
    failed = true;
    ends = (rose_sooner before.faults between.faults after.faults so_far.counts rose, stopped_view next new LogFault result stops ∙ ap (λ (s : SessionView). stopped_at s.ended LogFault s) from_old);
    stands = λ policy events was s. stops.stands policy events (record was { notes = was.notes ++ (so_far.taken ++ note ∷ []) }) (next_stands policy events was s);
  }

-- no note is left
module _ (n : ℕ) (old now next : SessionView) (before between after : SinkView) (joined : List ℕ) (so_far : LogsSoFar n old now before between joined)
    (none : now.notes ≡ []) (same : next ≡ now) where
  all_taken : old.notes ≡ so_far.taken ++ []
  all_taken = so_far.split ∙ ap (λ (l : List Note). so_far.taken ++ l) none

  ends_from : next ≡ record old { notes = [] }
  ends_from = same ∙ so_far.same ∙ ap (λ (l : List Note). record old { notes = l }) none

  last_stands : (policy : Policy) (events : List Event) (was : Taken) → StandsFor policy old events was → StandsFor policy next events (record was { notes = was.notes ++ so_far.taken })
  last_stands policy events was s = subst (λ (v : SessionView). StandsFor policy v events (record was { notes = was.notes ++ so_far.taken })) (sym same) (so_far.stands policy events was s)

  lines_end : (got others : List ℕ) → joined ≡ got ++ others → log n so_far.taken ≡ (so_far.got ++ got) ++ others
  lines_end got others e = so_far.lines ∙ ap (λ (l : List ℕ). so_far.got ++ l) e ∙ sym (append_assoc so_far.got got others)

  -- .. and what was joined is written
  pub all_logged : Appends between after joined → between.faults ≤ after.faults → Logs n old next before after
  all_logged written counts = record {
    taken = so_far.taken;
    left = [];
    split = all_taken;
    got = so_far.got ++ joined;
    rest = [];
    lines = lines_end joined [] (sym (append-nil joined));
    appends = appends_then before between after so_far.got joined so_far.appends written;
    counts = omega (arith, so_far.counts, counts);
    failed = false;
    ends = (refl, refl, ends_from);
    stands = last_stands;
  }

  -- .. or a prefix of it
  pub last_stops : (left : List ℕ) (new : SessionView) (result : End) → GoesOut joined left between.told after.told → between.faults ≤ after.faults →
      Rose between.faults after.faults → Stops next new LogFault result → Logs n old new before after
  last_stops left new result w counts rose stops = record {
    taken = so_far.taken;
    left = [];
    split = all_taken;
    got = so_far.got ++ w.got;
    rest = left;
    lines = lines_end w.got left w.split;
    appends = appends_then before between after so_far.got w.got so_far.appends w.is;
    counts = omega (arith, so_far.counts, counts);
    failed = true;
    ends = (rose_sooner before.faults between.faults after.faults so_far.counts rose, stopped_view next new LogFault result stops ∙ ap (λ (s : SessionView). stopped_at s.ended LogFault s) ends_from);
    stands = λ policy events was s. stops.stands policy events (record was { notes = was.notes ++ so_far.taken }) (last_stands policy events was s);
  }
