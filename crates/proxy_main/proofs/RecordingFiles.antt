-- Recordings that are read one after the other after a policy file, and two policy files.
use Rattle.std.proofs.Common.{◌≡◌, ◌≤◌, ◌-◌, ℕ, List, [], ◌∷◌, ◌++◌, Bor, Option, Some, Result, Ok, Err, IfErr, IfSome, OnOk, ap, arith, drop, get_or, length, map, append_assoc, bytes_eq, refl, subst, sym, take, ◌∙◌}
use Rattle.std.proofs.lemmas.List.{take_all}
use Rattle.policy_args.specs.Words.{PolicyOptions}
use Rattle.recording.specs.Recording.{Recording}
use Rattle.proxy_main.specs.declared.Stop.{Stop}
use Rattle.proxy_main.specs.declared.Stop.TheVariants as stop
use Rattle.proxy_main.specs.Words.{Audit, Within}
use Rattle.proxy_main.specs.Answers.{Answer, Contained, Untold, Agrees, IsSettled, answer_to, audited, checked_policy, checked_recording, then_contain, then_recordings, without}
use Rattle.proxy_main.specs.Loads.{LoadStops, StopsBy}
use Rattle.proxy_main.specs.FilesRead.{IsOfPolicy, IsOfInput, NeededUntil, ReadUntil, StopsAt, behind, recordings_up_to_bad, up_to_bad}
use Rattle.proxy_main.specs.ManyFiles.{AreGood, IsTold, OneStops, StopsIn}
use Rattle.proxy_main.proofs.Loading.{agrees-then, of_file, read_err, read_ok, untold-first, untold-second, without-path}
use Rattle.proxy_main.proofs.Needed.{before_needed, good, last, needed_until, this_needed}
use Rattle.proxy_main.proofs.ReadFiles.{later_stops, none_named, policy_stops, recording_stops}

-- ---- recordings

pub none-good : (told : List ℕ → Option (List ℕ)) → AreGood told [] []
none-good told = record { loaded = λ work settled. refl; needed = refl }

pub more-good : (told : List ℕ → Option (List ℕ)) (p : List ℕ) (ps : List (List ℕ)) (x : Recording) (xs : List Recording) → IfSome (told p) (λ bytes. checked_recording bytes ≡ Ok x) → AreGood told ps xs →
    AreGood told (p ∷ ps) (x ∷ xs)
more-good told p ps x xs ok rest = record {
  loaded = λ work. agrees-then _ _ _ (read_ok (told p) checked_recording x (λ recording. then_recordings told ps (λ others. work (recording ∷ others))) ok) (rest.loaded (λ others. work (x ∷ others)));
  needed = ap (λ (more : List (List ℕ)). p ∷ more) (good (told p) checked_recording x (recordings_up_to_bad told ps) ok ∙ rest.needed);
}

module _ (told : List ℕ → Option (List ℕ)) (p : List ℕ) (ps reads new_reads : List (List ℕ)) where
  first_stops : (s : Stop) → LoadStops checked_recording (told p) p s → OneStops told (p ∷ ps) s
  first_stops (stop.Refused refusal) is = (λ work. read_err (told p) checked_recording refusal (λ recording. then_recordings told ps (λ others. work (recording ∷ others))) is.0, is.1)
  first_stops (stop.File path) is =
      λ work. subst (λ q. then_recordings (without q told) (p ∷ ps) work ≡ Untold) (sym is) (untold-first _ checked_recording _ (without-path p told))
  first_stops stop.Output is = absurd is
  first_stops stop.Log is = absurd is
  first_stops stop.Memory is = tt

  pub stops-first : new_reads ≡ reads ++ p ∷ [] → (s : Stop) → LoadStops checked_recording (told p) p s → StopsAt IsOfInput p s → StopsIn told (p ∷ ps) reads new_reads s
  stops-first next s is at = record {
    stops = first_stops s is;
    until = recording_stops 0 [] ps reads reads new_reads p (none_named reads) next s at;
    needed = λ work. this_needed (told p) checked_recording (λ recording. then_recordings told ps (λ others. work (recording ∷ others))) p (recordings_up_to_bad told ps) reads new_reads next s is;
  }

module _ (told : List ℕ → Option (List ℕ)) (p : List ℕ) (ps reads now new_reads : List (List ℕ)) (x : Recording) (ok : IfSome (told p) (λ bytes. checked_recording bytes ≡ Ok x)) (next : now ≡ reads ++ p ∷ []) where
  later_one : (s : Stop) → OneStops told ps s → OneStops told (p ∷ ps) s
  later_one (stop.Refused refusal) h = (
    λ work. agrees-then _ _ _ (read_ok (told p) checked_recording x (λ recording. then_recordings told ps (λ others. work (recording ∷ others))) ok) (h.0 (λ others. work (x ∷ others))),
    h.1,
  )
  later_one (stop.File path) h =
      λ work. untold-second (bytes_eq p path.now) (told p) checked_recording x (λ recording. then_recordings (without path.now told) ps (λ others. work (recording ∷ others))) ok
      (λ y. h (λ others. work (y ∷ others)))
  later_one stop.Output h = absurd h
  later_one stop.Log h = absurd h
  later_one stop.Memory h = tt

  pub stops-later : (s : Stop) → StopsIn told ps now new_reads s → StopsIn told (p ∷ ps) reads new_reads s
  stops-later s h = record {
    stops = later_one s h.stops;
    until = later_stops 0 0 ps reads now new_reads p (λ n some within. absurd (omega (arith, some, within))) next s h.until;
    needed = λ work.
        before_needed (told p) checked_recording x (λ recording. then_recordings told ps (λ others. work (recording ∷ others))) p (recordings_up_to_bad told ps) reads now new_reads ok next s
        (h.needed (λ others. work (x ∷ others)));
  }

-- One recording was read and is good, and others are read after it. What is told of the files then is what was told at
-- the start.
module _ (start mid : List ℕ → Option (List ℕ)) (kept : IsTold mid start) (p : List ℕ) (paths others reads now new_reads : List (List ℕ)) (names : paths ≡ p ∷ others) (x : Recording)
    (ok : IfSome (start p) (λ bytes. checked_recording bytes ≡ Ok x)) where
  as_told : (told : List ℕ → Option (List ℕ)) → IsTold told start → IfSome (told p) (λ bytes. checked_recording bytes ≡ Ok x)
  as_told told same = subst (λ (t : Option (List ℕ)). IfSome t (λ bytes. checked_recording bytes ≡ Ok x)) (sym (same p)) ok

  still : (told : List ℕ → Option (List ℕ)) → IsTold told start → IsTold told mid
  still told same q = same q ∙ sym (kept q)

  pub step_loaded : (r : Result (Unit {0}) Stop) (old pushed new : List Recording) → pushed ≡ old ++ x ∷ [] →
      OnOk r ((told : List ℕ → Option (List ℕ)) → IsTold told mid → (more : List Recording) × (new ≡ pushed ++ more) × AreGood told others more) →
      OnOk r ((told : List ℕ → Option (List ℕ)) → IsTold told start → (more : List Recording) × (new ≡ old ++ more) × AreGood told paths more)
  step_loaded (Ok done) old pushed new put h = λ told same.
      let rest = h told (still told same) in (
        x ∷ rest.0,
        rest.1 ∙ ap (λ (list : List Recording). list ++ rest.0) put ∙ append_assoc old (x ∷ []) rest.0,
        subst (λ (ps : List (List ℕ)). AreGood told ps (x ∷ rest.0)) (sym names) (more-good told p others x rest.0 (as_told told same) rest.2),
      )
  step_loaded (Err s) old pushed new put h = tt

  pub step_stops : (r : Result (Unit {0}) Stop) → now ≡ reads ++ p ∷ [] →
      IfErr r (λ s. (told : List ℕ → Option (List ℕ)) → IsTold told mid → StopsIn told others now new_reads s) →
      IfErr r (λ s. (told : List ℕ → Option (List ℕ)) → IsTold told start → StopsIn told paths reads new_reads s)
  step_stops (Ok done) next h = tt
  step_stops (Err s) next h = λ told same.
      subst (λ (ps : List (List ℕ)). StopsIn told ps reads new_reads s) (sym names) (stops-later told p others reads now new_reads x (as_told told same) next s (h told (still told same)))

pub step_first : (start : List ℕ → Option (List ℕ)) (p : List ℕ) (paths others reads new_reads : List (List ℕ)) → paths ≡ p ∷ others → new_reads ≡ reads ++ p ∷ [] → (s : Stop) →
    LoadStops checked_recording (start p) p s → StopsAt IsOfInput p s → (told : List ℕ → Option (List ℕ)) → IsTold told start → StopsIn told paths reads new_reads s
step_first start p paths others reads new_reads names next s is at told same =
    subst (λ (ps : List (List ℕ)). StopsIn told ps reads new_reads s) (sym names)
    (stops-first told p others reads new_reads next s (subst (λ (t : Option (List ℕ)). LoadStops checked_recording t p s) (sym (same p)) is) at)

-- the first of texts, and the others
pub first_text : (texts : List (Bor (List ℕ))) (d : Bor (List ℕ)) → 1 ≤ length texts →
    map (λ t. t.now) texts ≡ (get_or texts 0 d).now ∷ map (λ t. t.now) (take (length texts - 1) (drop 1 texts))
first_text [] d le = absurd (omega (arith, le))
first_text (t ∷ texts) d le = ap (λ (ts : List (Bor (List ℕ))). t.now ∷ map (λ u. u.now) ts) (sym (take_all (length (t ∷ texts) - 1) texts (omega arith)))

-- ---- an audit: recordings after a policy file

module _ (told : List ℕ → Option (List ℕ)) (p : List ℕ) (ps reads now new_reads : List (List ℕ)) (o : PolicyOptions) (ok : IfSome (told p) (λ bytes. checked_policy bytes ≡ Ok o)) where
  pub audit_loaded : (xs : List Recording) → AreGood told ps xs → Agrees (answer_to told (Some (Audit p ps))) (audited o xs)
  audit_loaded xs rest = agrees-then _ _ _ (read_ok (told p) checked_policy o (λ options. then_recordings told ps (audited options)) ok) (rest.loaded (audited o))

  pub audit_needed : (xs : List Recording) → AreGood told ps xs → new_reads ≡ reads ++ p ∷ ps → new_reads ≡ reads ++ up_to_bad 1 told (p ∷ ps)
  audit_needed xs rest all =
      all ∙ ap (λ (more : List (List ℕ)). reads ++ p ∷ more) (sym (good (told p) checked_policy o (recordings_up_to_bad told ps) ok ∙ rest.needed))

  pub audit_stops : (s : Stop) → OneStops told ps s → StopsBy told (Some (Audit p ps)) s
  audit_stops (stop.Refused refusal) h = (
    agrees-then _ _ _ (read_ok (told p) checked_policy o (λ options. then_recordings told ps (audited options)) ok) (h.0 (audited o)),
    of_file refusal (Some (Audit p ps)) h.1,
  )
  audit_stops (stop.File path) h =
      untold-second (bytes_eq p path.now) (told p) checked_policy o (λ options. then_recordings (without path.now told) ps (audited options)) ok (λ y. h (audited y))
  audit_stops stop.Output h = absurd h
  audit_stops stop.Log h = absurd h
  audit_stops stop.Memory h = tt

  pub audit_until : now ≡ reads ++ p ∷ [] → (s : Stop) → ReadUntil 0 ps now new_reads s → ReadUntil 1 (p ∷ ps) reads new_reads s
  audit_until next s h = later_stops 0 1 ps reads now new_reads p (λ n some within. omega (arith, some, within)) next s h

  pub audit_needed_until : now ≡ reads ++ p ∷ [] → (s : Stop) → ((work : List Recording → Answer) → NeededUntil (IsSettled (then_recordings told ps work)) (recordings_up_to_bad told ps) now new_reads s) →
      NeededUntil (IsSettled (answer_to told (Some (Audit p ps)))) (up_to_bad 1 told (p ∷ ps)) reads new_reads s
  audit_needed_until next s h =
      before_needed (told p) checked_policy o (λ options. then_recordings told ps (audited options)) p (recordings_up_to_bad told ps) reads now new_reads ok next s (h (audited o))

pub audit_stops_policy : (told : List ℕ → Option (List ℕ)) (p : List ℕ) (ps : List (List ℕ)) (s : Stop) → LoadStops checked_policy (told p) p s → StopsBy told (Some (Audit p ps)) s
audit_stops_policy told p ps (stop.Refused refusal) is = (read_err (told p) checked_policy refusal (λ options. then_recordings told ps (audited options)) is.0, of_file refusal (Some (Audit p ps)) is.1)
audit_stops_policy told p ps (stop.File path) is =
    subst (λ q. answer_to (without q told) (Some (Audit p ps)) ≡ Untold) (sym is) (untold-first _ checked_policy _ (without-path p told))
audit_stops_policy told p ps stop.Output is = absurd is
audit_stops_policy told p ps stop.Log is = absurd is
audit_stops_policy told p ps stop.Memory is = tt

-- ---- two policy files

module _ (told : List ℕ → Option (List ℕ)) (a b : List ℕ) where
  pub within_stops_first : (s : Stop) → LoadStops checked_policy (told a) a s → StopsBy told (Some (Within a b)) s
  within_stops_first (stop.Refused refusal) is = (read_err (told a) checked_policy refusal (then_contain told b) is.0, of_file refusal (Some (Within a b)) is.1)
  within_stops_first (stop.File path) is =
      subst (λ q. answer_to (without q told) (Some (Within a b)) ≡ Untold) (sym is) (untold-first _ checked_policy _ (without-path a told))
  within_stops_first stop.Output is = absurd is
  within_stops_first stop.Log is = absurd is
  within_stops_first stop.Memory is = tt

  -- what is told of the other file when it is read, t, is what was told before
  module _ (t : Option (List ℕ)) (same : t ≡ told b) (o : PolicyOptions) (ok : IfSome (told a) (λ bytes. checked_policy bytes ≡ Ok o)) where
    pub within_loaded : (q : PolicyOptions) → IfSome t (λ bytes. checked_policy bytes ≡ Ok q) → Agrees (answer_to told (Some (Within a b))) (Contained o.policy q.policy)
    within_loaded q other =
        agrees-then _ _ _ (read_ok (told a) checked_policy o (then_contain told b) ok)
        (read_ok (told b) checked_policy q (λ options. Contained o.policy options.policy) (subst (λ u. IfSome u (λ bytes. checked_policy bytes ≡ Ok q)) same other))

    pub within_stops_other : (s : Stop) → LoadStops checked_policy t b s → StopsBy told (Some (Within a b)) s
    within_stops_other (stop.Refused refusal) is = (
      agrees-then _ _ _ (read_ok (told a) checked_policy o (then_contain told b) ok)
          (read_err (told b) checked_policy refusal (λ options. Contained o.policy options.policy) (subst (λ u. IfSome u (λ bytes. checked_policy bytes ≡ Err refusal)) same is.0)),
      of_file refusal (Some (Within a b)) is.1,
    )
    within_stops_other (stop.File path) is =
        subst (λ q. answer_to (without q told) (Some (Within a b)) ≡ Untold) (sym is)
        (untold-second (bytes_eq a b) (told a) checked_policy o (then_contain (without b told) b) ok (λ y. untold-first _ checked_policy _ (without-path b told)))
    within_stops_other stop.Output is = absurd is
    within_stops_other stop.Log is = absurd is
    within_stops_other stop.Memory is = tt

    module _ (reads now new_reads : List (List ℕ)) (next : now ≡ reads ++ a ∷ []) (then_other : new_reads ≡ now ++ b ∷ []) where
      pub within_needed : new_reads ≡ reads ++ up_to_bad 2 told (a ∷ b ∷ [])
      within_needed =
          then_other ∙ ap (λ (paths : List (List ℕ)). paths ++ b ∷ []) next ∙ append_assoc reads (a ∷ []) (b ∷ [])
          ∙ ap (λ (more : List (List ℕ)). reads ++ a ∷ more)
          (sym (good (told a) checked_policy o (b ∷ behind (told b) checked_policy []) ok ∙ ap (λ (more : List (List ℕ)). b ∷ more) (last (told b) checked_policy)))

      pub within_until : (s : Stop) → StopsAt IsOfPolicy b s → ReadUntil 2 (a ∷ b ∷ []) reads new_reads s
      within_until s at = later_stops 1 2 (b ∷ []) reads now new_reads a (λ n some within. omega (arith, some, within)) next s (policy_stops 0 [] now new_reads b then_other s at)

      pub within_needed_until : (s : Stop) → NeededUntil (IsSettled (answer_to told (Some (Within a b)))) (up_to_bad 2 told (a ∷ b ∷ [])) reads new_reads s
      within_needed_until s = needed_until (IsSettled (answer_to told (Some (Within a b)))) (up_to_bad 2 told (a ∷ b ∷ [])) reads new_reads within_needed s

  pub within_needed_first : (reads new_reads : List (List ℕ)) → new_reads ≡ reads ++ a ∷ [] → (s : Stop) → LoadStops checked_policy (told a) a s →
      NeededUntil (IsSettled (answer_to told (Some (Within a b)))) (up_to_bad 2 told (a ∷ b ∷ [])) reads new_reads s
  within_needed_first reads new_reads next s is = this_needed (told a) checked_policy (then_contain told b) a (b ∷ behind (told b) checked_policy []) reads new_reads next s is

-- one element more, seen
pub map-more : {A B : Type 0} (f : A → B) (xs : List A) (x : A) → map f (xs ++ x ∷ []) ≡ map f xs ++ f x ∷ []
map-more f [] x = refl
map-more f (y ∷ xs) x = ap (λ ys. f y ∷ ys) (map-more f xs x)
