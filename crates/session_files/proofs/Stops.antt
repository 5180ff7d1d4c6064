-- The events of a session before its first stop, and the history that they make.
use Rattle.std.proofs.Common.{◌≡◌, ℕ, List, [], ◌∷◌, Bool, true, false, refl, ap, ap₂, sym, ◌∙◌, map, reverse}
use Rattle.std.specs.Prelude.{◌||◌, if◌then◌else◌}
use Rattle.std.specs.List.{filter, list_any}
use Rattle.policy_args.specs.Words.{PolicyOptions}
use Rattle.policy_view.specs.History.{Event, history}
use Rattle.recording.specs.Sessions.{Happened, Stopped, SessionEvent, Sessions}
use Rattle.replay_output.specs.Output.{event_of, history_of}
use Rattle.replay.specs.SessionsOutput.{event_by, is_of, session_history, session_mode}
use Rattle.session_files.specs.OneSession.{BeforeStop, HasHistoryBeforeStop, RunsWithoutStop, before_stop, is_stop, session_recording}
use Rattle.session_files.proofs.OwnWhats.{whats}

abbrev up_to_stop : List SessionEvent → List SessionEvent
up_to_stop [] = []
up_to_stop (e ∷ es) = if is_stop e.what then [] else e ∷ up_to_stop es

abbrev events_by : List SessionEvent → List Event
events_by es = map (λ e. event_by e.what) es

-- ---- they stand before the first stop

parted : (own : List SessionEvent) → BeforeStop own (up_to_stop own)
parted [] = record { rest = []; split = refl; runs = refl; stops = tt }
parted (e ∷ es) =
    let behind = parted es in
    elim (is_stop e.what) as (λ b. is_stop e.what ≡ b → BeforeStop (e ∷ es) (if b then [] else e ∷ up_to_stop es)) [
      | true ↦ λ is. record { rest = e ∷ es; split = refl; runs = refl; stops = is }
      | false ↦ λ is. record {
        rest = behind.rest;
        split = ap (λ t. e ∷ t) behind.split;
        runs = ap (λ (b : Bool). b || list_any (λ x. is_stop x.what) (up_to_stop es)) is ∙ behind.runs;
        stops = behind.stops;
      }
    ] refl

-- ---- and make the recording's history

same-events : (own : List SessionEvent) → map event_of (before_stop (whats own)) ≡ events_by (up_to_stop own)
same-events [] = refl
same-events (e ∷ es) =
    let behind = same-events es in
    elim e.what as (λ w. e.what ≡ w → map event_of (before_stop (w ∷ whats es)) ≡ events_by (if is_stop w then [] else e ∷ up_to_stop es)) [
      | Happened event ↦ λ is. ap₂ (λ (x : Event) (xs : List Event). x ∷ xs) (ap event_by (sym is)) behind
      | Stopped end ↦ λ is. refl
    ] refl

pub before-stop : (options : PolicyOptions) (s : Sessions) (session : ℕ) → HasHistoryBeforeStop options s session
before-stop options s session =
    let own = filter (is_of session) s.events in
    record {
      before = up_to_stop own;
      are = parted own;
      same = ap (λ es. history options.policy (session_mode options s.auth) (reverse es)) (same-events own);
    }

-- ---- a session without a stop

stop-there : {A : Type 0} (b : Bool) → (true || b) ≡ false → A
stop-there b e = absurd cc

all-events : (own : List SessionEvent) → list_any is_stop (whats own) ≡ false → map event_of (before_stop (whats own)) ≡ events_by own
all-events [] none = refl
all-events (e ∷ es) none =
    let behind = all-events es in
    elim e.what as (λ w. e.what ≡ w → list_any is_stop (w ∷ whats es) ≡ false → map event_of (before_stop (w ∷ whats es)) ≡ event_by e.what ∷ events_by es) [
      | Happened event ↦ λ is no. ap₂ (λ (x : Event) (xs : List Event). x ∷ xs) (ap event_by (sym is)) (behind no)
      | Stopped end ↦ λ is no. stop-there (list_any is_stop (whats es)) no
    ] refl none

pub whole-history : (options : PolicyOptions) (s : Sessions) (session : ℕ) → RunsWithoutStop s session →
    history_of options (session_recording s session) ≡ session_history options.policy (session_mode options s.auth) session s.events
whole-history options s session runs = ap (λ es. history options.policy (session_mode options s.auth) (reverse es)) (all-events (filter (is_of session) s.events) runs)
