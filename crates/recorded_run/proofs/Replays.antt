-- What a replay writes of a recording of a proxy's net.
use Rattle.std.proofs.Common.{◌≡◌, ◌==◌, ◌∙◌, ◌++◌, [], ◌∷◌, ℕ, Bool, true, false, List, ap, if◌then◌else◌, map, refl, reverse}
use Rattle.std.specs.List.{filter, flat_map}
use Rattle.link_traits.specs.Journals.{Journal}
use Rattle.policy_args.specs.declared.options.Options.{Options}
use Rattle.policy_args.specs.Seen.{options_seen}
use Rattle.policy_view.specs.History.{Event, history}
use Rattle.proxy_loop.specs.Tables.{session_mode}
use Rattle.recording.specs.declared.Side.TheVariants.{Client, Bus}
use Rattle.recording.specs.Recording.{Bytes, Finished}
use Rattle.recording.specs.Sessions.{What, Happened, Stopped, SessionEvent, sessions_named}
use Rattle.record_net.specs.Sessions.{events_in, items_of}
use Rattle.replay.specs.SessionsOutput.{event_by, is_of, output_of_sessions, own_events, session_output}
use Rattle.recorded_run.specs.Events.{event_of, recorded_events, recorded_history}
use Rattle.recorded_run.specs.Recordings.{recording_of}

-- an event is the same to both
event_same : (what : What) → event_by what ≡ event_of what
event_same (Happened (Bytes Client bytes)) = refl
event_same (Happened (Bytes Bus bytes)) = refl
event_same (Happened (Finished Client)) = refl
event_same (Happened (Finished Bus)) = refl
event_same (Stopped number) = refl

own_same : (n : ℕ) (events : List SessionEvent) → map (λ e. event_by e.what) (filter (is_of n) events) ≡ map event_of (events_in n events)
own_same n [] = refl
own_same n (e ∷ events) = by (e.session == n) (own_same n events)
  where
    by : (own : Bool) → map (λ i. event_by i.what) (filter (is_of n) events) ≡ map event_of (events_in n events) →
        map (λ i. event_by i.what) (if own then e ∷ filter (is_of n) events else filter (is_of n) events) ≡ map event_of ((if own then e.what ∷ [] else []) ++ events_in n events)
    by true others = ap (λ (first : Event). first ∷ map (λ i. event_by i.what) (filter (is_of n) events)) (event_same e.what) ∙ ap (λ (rest : List Event). event_of e.what ∷ rest) others
    by false others = others

history_same : (options : Options) (n : ℕ) (events : List SessionEvent) → history options.policy (session_mode options) (own_events n events) ≡ recorded_history options n events
history_same options n events = ap (λ (es : List Event). history options.policy (session_mode options) (reverse es)) (own_same n events)

flat_map-same : (f g : ℕ → List ℕ) → ((n : ℕ) → f n ≡ g n) → (ns : List ℕ) → flat_map f ns ≡ flat_map g ns
flat_map-same f g same [] = refl
flat_map-same f g same (n ∷ ns) = ap (λ (t : List ℕ). t ++ flat_map f ns) (same n) ∙ ap (λ (t : List ℕ). g n ++ t) (flat_map-same f g same ns)

pub replayed_alike : (options : Options) (since : Journal) →
    output_of_sessions (options_seen options) (recording_of since) ≡ flat_map (λ n. session_output options.policy n (recorded_history options n (items_of since))) (sessions_named [] (items_of since))
unfolding output_of_sessions
replayed_alike options since =
    flat_map-same (λ n. session_output options.policy n (history options.policy (session_mode options) (own_events n (items_of since)))) (λ n. session_output options.policy n (recorded_history options n (items_of since)))
    (λ n. ap (session_output options.policy n) (history_same options n (items_of since))) (sessions_named [] (items_of since))
