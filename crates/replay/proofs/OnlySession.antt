-- A recording of version 1 as one of many sessions: it has one session, which has all events.
use Rattle.std.proofs.Common.{◌≡◌, ℕ, List, [], ◌∷◌, true, refl, ap, sym, ◌∙◌, subst, if◌then◌else◌, length, ◌<◌, map, reverse, Bool, false}
use Rattle.std.specs.Prelude.{flat_map, not, ◌==◌}
use Rattle.policy_args.specs.Words.{PolicyOptions}
use Rattle.policy_view.specs.History.{history}
use Rattle.policy_view.specs.Notes.{Note, notes}
use Rattle.proxy_core.specs.Sessions.{Holds, SessionView, nothing}
use Rattle.explain_log.specs.Lines.{log}
use Rattle.recording.specs.Recording as recorded
use Rattle.recording.specs.Recording.{Recording}
use Rattle.recording.specs.Sessions.{SessionEvent, Sessions, one_session_event, migrated}
use Rattle.recording.specs.SessionsSeen.{IsReadable}
use Rattle.replay_output.specs.Output.{history_of, event_of, events_of, log_of_recording, output_of_recording}
use Rattle.replay.specs.SessionsOutput.{in_session, noted_in, event_by, happened, log_of_sessions, only_session, output_of_sessions, outputs, session_log, session_mode, sessions_noted, session_events}
use Rattle.replay.specs.Waiting.{output_of}
use Rattle.replay.proofs.Logs.{asked-is}
use Rattle.replay.proofs.SessionLogs.{session-log-of}
use Rattle.replay.proofs.Sides.{output-is}

its-events : (es : List recorded.Event) → map (λ (e : SessionEvent). event_by e.what) (map one_session_event es) ≡ map event_of (flat_map (λ (e : SessionEvent). happened e.what) (map one_session_event es))
its-events [] = refl
its-events (e ∷ es) = ap (λ t. event_of e ∷ t) (its-events es)

only-events : (s : Sessions) → IsReadable s → s.version ≡ 1 → session_events s.events ≡ events_of (only_session s).events
only-events s readable one =
    let (r, is) = readable.one_session one in
    ap (λ (x : Sessions). session_events x.events) is ∙ ap reverse (its-events r.events) ∙ ap (λ (x : Sessions). events_of (only_session x).events) (sym is)

one-where-asked : (asked : Bool) (ns : List Note) → map (in_session 1) (if asked then ns else []) ≡ (if not asked then [] else map (in_session 1) ns)
one-where-asked true ns = refl
one-where-asked false ns = refl

module _ (options : PolicyOptions) (s : Sessions) (readable : IsReadable s) (one : s.version ≡ 1) (v : SessionView) (mode : v.mode ≡ session_mode options s.auth)
    (holds : Holds options.policy v (history options.policy v.mode (session_events s.events)) nothing) where
  own-holds : Holds options.policy v (history options.policy v.mode (events_of (only_session s).events)) nothing
  own-holds = subst (λ es. Holds options.policy v (history options.policy v.mode es) nothing) (only-events s readable one) holds

  pub only-output-is : output_of v ≡ output_of_sessions options s
  unfolding output_of_sessions
  only-output-is = output-is options (only_session s) v mode own-holds
      ∙ ap (λ (n : ℕ). if n == 1 then output_of_recording options (only_session s) else outputs options.policy (session_mode options s.auth) s.events) (sym one)

  pub only-noted-is : map (in_session 1) v.notes ≡ noted_in options s
  unfolding noted_in
  only-noted-is = ap (map (in_session 1)) own-holds.noted
      ∙ ap (λ m. map (in_session 1) (if m.notes then notes options.policy (history options.policy m (events_of (only_session s).events)) else [])) mode
      ∙ one-where-asked options.log (notes options.policy (history_of options (only_session s)))
      ∙ ap (λ (n : ℕ). if not options.log then [] else (if n == 1 then map (in_session 1) (notes options.policy (history_of options (only_session s))) else sessions_noted options.policy (session_mode options s.auth) [] s.events)) (sym one)

  pub only-log-is : log 1 v.notes ≡ log_of_sessions options s
  unfolding log_of_sessions
  only-log-is = session-log-of v.notes ∙ ap session_log only-noted-is

  pub only-asked-is : 0 < length v.notes → options.log ≡ true
  only-asked-is some = asked-is options (only_session s) v mode own-holds some

-- ---- a migrated recording

happened-all : (es : List recorded.Event) → flat_map (λ (e : SessionEvent). happened e.what) (map one_session_event es) ≡ es
happened-all [] = refl
happened-all (e ∷ es) = ap (λ t. e ∷ t) (happened-all es)

only-is : (r : Recording) → only_session (migrated r) ≡ r
only-is r = ap (λ es. record { auth = r.auth; events = es }) (happened-all r.events)

pub version-1-output : (options : PolicyOptions) (r : Recording) → output_of_sessions options (migrated r) ≡ output_of_recording options r
unfolding output_of_sessions
version-1-output options r = ap (output_of_recording options) (only-is r)

log-where-asked : (asked : Bool) (ns : List Note) → session_log (if not asked then [] else map (in_session 1) ns) ≡ (if asked then log 1 ns else [])
log-where-asked true ns = sym (session-log-of ns)
log-where-asked false ns = refl

pub version-1-log : (options : PolicyOptions) (r : Recording) → log_of_sessions options (migrated r) ≡ log_of_recording options r
unfolding log_of_sessions noted_in log_of_recording
version-1-log options r = log-where-asked options.log _ ∙ ap (λ (x : Recording). if options.log then log 1 (notes options.policy (history_of options x)) else []) (only-is r)
