-- The files of a replay: a policy file, and a recording of one session or of many.
use Rattle.std.proofs.Common.{◌≡◌, ◌<◌, ℕ, length, List, [], ◌∷◌, ◌++◌, Option, Some, None, Result, Ok, Err, IfSome, ap, bytes_eq, sym, subst, ◌∙◌}
use Rattle.policy_args.specs.Words.{PolicyOptions}
use Rattle.recording.specs.declared.BadRecording.{BadRecording}
use Rattle.recording.specs.declared.TheConstants.{RECORDING_LIMIT}
use Rattle.recording.specs.Sessions.{Sessions, sessions_of}
use Rattle.proxy_main.specs.declared.Refusal.TheVariants.{Recording as BadFile}
use Rattle.proxy_main.specs.declared.Stop.{Stop}
use Rattle.proxy_main.specs.declared.Stop.TheVariants as stop
use Rattle.proxy_main.specs.Words.{Replay}
use Rattle.proxy_main.specs.Answers.{Untold, Agrees, answer_to, checked_policy, checked_sessions, or_refused, replayed, then_read, without}
use Rattle.proxy_main.specs.Loads.{LoadStops, StopsBy}
use Rattle.proxy_main.proofs.Loading.{agrees-then, of_file, read_err, read_ok, untold-first, untold-second, without-path}

-- a recording that was read
pub sessions_read : (bytes : List ℕ) (r : Result Sessions BadRecording) → sessions_of bytes ≡ r → checked_sessions bytes ≡ or_refused BadFile r
unfolding checked_sessions
sessions_read bytes r is = ap (or_refused BadFile) is

-- .. or is above its limit
pub sessions_long : (told : Option (List ℕ)) (fault : BadRecording) → ((bytes : List ℕ) → RECORDING_LIMIT < length bytes → sessions_of bytes ≡ Err fault) →
    IfSome told (λ bytes. RECORDING_LIMIT < length bytes) → IfSome told (λ bytes. checked_sessions bytes ≡ Err (BadFile fault))
unfolding checked_sessions
sessions_long None fault is long = tt
sessions_long (Some bytes) fault is long = ap (or_refused BadFile) (is bytes long)

module _ (told : List ℕ → Option (List ℕ)) (p r : List ℕ) where
  pub replay_stops_policy : (s : Stop) → LoadStops checked_policy (told p) p s → StopsBy told (Some (Replay p r)) s
  replay_stops_policy (stop.Refused refusal) is = (read_err (told p) checked_policy refusal (λ o. then_read (told r) checked_sessions (replayed o)) is.0, of_file refusal (Some (Replay p r)) is.1)
  replay_stops_policy (stop.File path) is =
      subst (λ q. answer_to (without q told) (Some (Replay p r)) ≡ Untold) (sym is) (untold-first _ checked_policy _ (without-path p told))
  replay_stops_policy stop.Output is = absurd is
  replay_stops_policy stop.Log is = absurd is
  replay_stops_policy stop.Memory is = tt

  -- what is told of the recording when it is read, t, is what was told before
  module _ (t : Option (List ℕ)) (same : t ≡ told r) (o : PolicyOptions) (ok : IfSome (told p) (λ bytes. checked_policy bytes ≡ Ok o)) where
    pub replay_loaded : (x : Sessions) → IfSome t (λ bytes. checked_sessions bytes ≡ Ok x) → Agrees (answer_to told (Some (Replay p r))) (replayed o x)
    replay_loaded x is =
        agrees-then _ _ _ (read_ok (told p) checked_policy o (λ q. then_read (told r) checked_sessions (replayed q)) ok)
        (read_ok (told r) checked_sessions x (replayed o) (subst (λ u. IfSome u (λ bytes. checked_sessions bytes ≡ Ok x)) same is))

    pub replay_stops_recording : (s : Stop) → LoadStops checked_sessions t r s → StopsBy told (Some (Replay p r)) s
    replay_stops_recording (stop.Refused refusal) is = (
      agrees-then _ _ _ (read_ok (told p) checked_policy o (λ q. then_read (told r) checked_sessions (replayed q)) ok)
          (read_err (told r) checked_sessions refusal (replayed o) (subst (λ u. IfSome u (λ bytes. checked_sessions bytes ≡ Err refusal)) same is.0)),
      of_file refusal (Some (Replay p r)) is.1,
    )
    replay_stops_recording (stop.File path) is =
        subst (λ q. answer_to (without q told) (Some (Replay p r)) ≡ Untold) (sym is)
        (untold-second (bytes_eq p r) (told p) checked_policy o (λ q. then_read (without r told r) checked_sessions (replayed q)) ok (λ y. untold-first _ checked_sessions _ (without-path r told)))
    replay_stops_recording stop.Output is = absurd is
    replay_stops_recording stop.Log is = absurd is
    replay_stops_recording stop.Memory is = tt
