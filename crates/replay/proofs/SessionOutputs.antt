-- What sessions give out once all events of a recording were played, and the notes that they made.
use Rattle.std.proofs.Common.{◌≡◌, ◌≤◌, ◌<◌, ℕ, List, [], ◌∷◌, ◌++◌, Bool, true, false, if◌then◌else◌, Some, refl, ap, ap₂, sym, ◌∙◌, subst, arith, length, map, not}
use Rattle.std.specs.Prelude.{flat_map, IfOk, Result, Ok, Err}
use Rattle.std.specs.List.{AllByRecursion}
use Rattle.std.specs.Map.{keys_of}
use Rattle.std.proofs.lemmas.Bool.{ne_eqb}
use Rattle.policy_args.specs.Policy.{Policy}
use Rattle.policy_args.specs.Words.{PolicyOptions}
use Rattle.policy_view.specs.History.{history}
use Rattle.policy_view.specs.Notes.{notes}
use Rattle.policy_view.specs.Outputs.{bus_bytes, client_bytes}
use Rattle.policy_view.specs.Past.{History}
use Rattle.policy_view.specs.declared.Mode.{Mode}
use Rattle.proxy_core.specs.Sessions.{SessionView, Holds}
use Rattle.recording.specs.Sessions.{SessionEvent, Sessions}
use Rattle.recording.specs.SessionsSeen.{sessions_size}
use Rattle.replay_output.specs.Output.{history_of, output_of_recording}
use Rattle.replay.specs.SessionsOutput.{noted_in, log_of_sessions, in_session, named_end, named_where_any, notes_brought, only_session, output_of_sessions, outputs, own_events, session_history, session_log, session_mode, session_output, sessions_noted}
use Rattle.replay.specs.SessionsPlayed.{IsShort, PlayedSoFar, Plays, PlaysAt, noted_by, notes_taken}
use Rattle.replay.specs.Waiting.{named_output}
use Rattle.replay.specs.declared.session_notes.SessionNote.{SessionNote}
use Rattle.replay.specs.declared.session_playing.Players.{Players}
use Rattle.replay.proofs.Ascending.{each-entry}

-- ---- what one session gives out

holds-session-output : (policy : Policy) (number : ℕ) (v : SessionView) (h : History) (ns : _) → Holds policy v h (notes_taken ns) → named_output (Some number) v ≡ session_output policy number h
holds-session-output policy number v h ns holds =
    ap (λ t. named_where_any (Some number) 16 t ++ named_where_any (Some number) 17 v.client_side ++ named_end (Some number) v.ended) holds.for_bus
    ∙ ap (λ t. named_where_any (Some number) 16 (bus_bytes policy h) ++ named_where_any (Some number) 17 t ++ named_end (Some number) v.ended) holds.for_client
    ∙ ap (λ t. named_where_any (Some number) 16 (bus_bytes policy h) ++ named_where_any (Some number) 17 (client_bytes policy h) ++ named_end (Some number) t) holds.end_is

own-output : (policy : Policy) (mode : Mode) (events : List SessionEvent) (number : ℕ) (v : SessionView) → Plays policy mode events number v →
    named_output (Some number) v ≡ session_output policy number (session_history policy mode number events)
own-output policy mode events number v plays =
    holds-session-output policy number v _ _ (plays.stands.holds plays.sound)
    ∙ ap (λ m. session_output policy number (history policy m (own_events number events))) plays.mode_is

outputs-by-keys : (policy : Policy) (mode : Mode) (events : List SessionEvent) (es : List (ℕ × SessionView)) → AllByRecursion (λ p. Plays policy mode events p.0 p.1) es →
    flat_map (λ (entry : ℕ × SessionView). named_output (Some entry.0) entry.1) es ≡ flat_map (λ number. session_output policy number (session_history policy mode number events)) (keys_of es)
outputs-by-keys policy mode events [] all = refl
outputs-by-keys policy mode events (e ∷ es) all =
    ap₂ (λ (a b : List ℕ). a ++ b) (own-output policy mode events e.0 e.1 all.0) (outputs-by-keys policy mode events es all.1)

-- ---- all sessions

module _ (policy : Policy) (mode : Mode) (events : List SessionEvent) (players : Players) (played : PlayedSoFar policy mode events players) where
  all-play : AllByRecursion (λ p. Plays policy mode events p.0 p.1) players.running.entries
  all-play = each-entry (λ p. Plays policy mode events p.0 p.1) players.running played.all.ordered (λ k v is. subst (λ o. PlaysAt policy mode events k o) is (played.all.each k))

  pub outputs-are : flat_map (λ (entry : ℕ × SessionView). named_output (Some entry.0) entry.1) players.running.entries ≡ outputs policy mode events
  outputs-are = outputs-by-keys policy mode events players.running.entries all-play
      ∙ ap (flat_map (λ number. session_output policy number (session_history policy mode number events))) played.all.named_are

  -- a record can count what waits
  pub all-short : sessions_size events ≤ 67108864 → AllByRecursion IsShort players.running.entries
  all-short size = go players.running.entries all-play
    where
      go : (es : List (ℕ × SessionView)) → AllByRecursion (λ p. Plays policy mode events p.0 p.1) es → AllByRecursion IsShort es
      go [] all = tt
      go (e ∷ es) all = let light = all.0.light in (omega (arith, light, size), go es all.1)

-- ---- the notes

-- all if they are asked for, and none otherwise
noted-all : (policy : Policy) (auth filter : Bool) (earlier events : List SessionEvent) → let mode : Mode = record { auth = auth; filter = filter; notes = true } in
    noted_by policy mode earlier events ≡ sessions_noted policy mode earlier events
noted-all policy auth filter earlier [] = refl
noted-all policy auth filter earlier (e ∷ events) =
    ap (λ t. map (in_session e.session) (notes_brought policy (record { auth = auth; filter = filter; notes = true }) earlier e) ++ t) (noted-all policy auth filter (earlier ++ e ∷ []) events)

noted-none : (policy : Policy) (auth filter : Bool) (earlier events : List SessionEvent) → noted_by policy (record { auth = auth; filter = filter; notes = false }) earlier events ≡ []
noted-none policy auth filter earlier [] = refl
noted-none policy auth filter earlier (e ∷ events) = noted-none policy auth filter (earlier ++ e ∷ []) events

noted-where-asked : (policy : Policy) (auth filter asked : Bool) (events : List SessionEvent) → let mode : Mode = record { auth = auth; filter = filter; notes = asked } in
    noted_by policy mode [] events ≡ (if asked then sessions_noted policy mode [] events else [])
noted-where-asked policy auth filter true events = noted-all policy auth filter [] events
noted-where-asked policy auth filter false events = noted-none policy auth filter [] events

not-asked : (asked : Bool) (ns : List SessionNote) → (if asked then ns else []) ≡ (if not asked then [] else ns)
not-asked true ns = refl
not-asked false ns = refl

some-where-asked : (asked : Bool) (ns : List SessionNote) → 0 < length (if asked then ns else []) → asked ≡ true
some-where-asked true ns some = refl
some-where-asked false ns some = absurd (omega arith)

-- ---- a recording of version 2

module _ (options : PolicyOptions) (s : Sessions) (players : Players) (played : PlayedSoFar options.policy (session_mode options s.auth) s.events players) where
  noted-is : players.notes.items ≡ (if options.log then sessions_noted options.policy (session_mode options s.auth) [] s.events else [])
  noted-is = played.noted ∙ noted-where-asked options.policy s.auth options.filter options.log s.events

  pub sessions-output-is : ((s.version ≡ 1) → ⊥) → flat_map (λ (entry : ℕ × SessionView). named_output (Some entry.0) entry.1) players.running.entries ≡ output_of_sessions options s
  unfolding output_of_sessions
  sessions-output-is many = outputs-are options.policy (session_mode options s.auth) s.events players played
      ∙ ap (λ (b : Bool). if b then output_of_recording options (only_session s) else outputs options.policy (session_mode options s.auth) s.events) (sym (ne_eqb s.version 1 many))

  pub sessions-noted-is : ((s.version ≡ 1) → ⊥) → players.notes.items ≡ noted_in options s
  unfolding noted_in
  sessions-noted-is many = noted-is ∙ not-asked options.log _
      ∙ ap (λ (b : Bool). if not options.log then [] else (if b then map (in_session 1) (notes options.policy (history_of options (only_session s))) else sessions_noted options.policy (session_mode options s.auth) [] s.events)) (sym (ne_eqb s.version 1 many))

  pub sessions-log-is : ((s.version ≡ 1) → ⊥) → session_log players.notes.items ≡ log_of_sessions options s
  unfolding log_of_sessions
  sessions-log-is many = ap session_log (sessions-noted-is many)

  pub sessions-asked-is : 0 < length players.notes.items → options.log ≡ true
  sessions-asked-is some = some-where-asked options.log (sessions_noted options.policy (session_mode options s.auth) [] s.events) (subst (λ ns. 0 < length ns) noted-is some)

pub if-played : {T E : Type 0} {P Q : T → Type 0} (r : Result T E) → IfOk r P → ((x : T) → P x → Q x) → IfOk r Q
if-played (Ok x) p f = f x p
if-played (Err e) p f = tt

-- what sessions give out one after the other
abbrev pub all_outputs : List (ℕ × SessionView) → List ℕ
all_outputs es = flat_map (λ (entry : ℕ × SessionView). named_output (Some entry.0) entry.1) es
