-- The recorded events of a session are those that the journal tells.
use Rattle.std.proofs.Common.{ℕ, nat_eq, ◌≡◌, Bool, true, false, ◌||◌, List, [], ◌∷◌, ◌++◌, map, reverse, if◌then◌else◌, refl, ap, ap₂, sym, ◌∙◌, append-nil}
use Rattle.std.proofs.lemmas.List.{map-append, reverse-append, reverse-reverse}
use Rattle.link_traits.specs.Journals.{Journal, written}
use Rattle.link_traits.specs.Answers.{client_link, bus_link}
use Rattle.link_traits.specs.Entries.{Entry, listened, ready, accepted, connected, read, finished, wrote, not_ready, failed, refused, shut}
use Rattle.link_traits.specs.declared.links.Side.{Side}
use Rattle.link_traits.specs.declared.links.Side.TheVariants as link_side
use Rattle.link_traits.specs.declared.links.Call.{Call}
use Rattle.link_traits.specs.declared.links.Call.TheVariants.{Listen, Accept, Connect, Read, Write}
use Rattle.policy_view.specs.History.{Event, Bytes, Finished, Stopped, history}
use Rattle.proxy_loop.specs.Kinds.{some_of}
use Rattle.proxy_loop.specs.Sessions.{events_by, events_of, failed_events as loop_failed_events, refused_events, side_of as loop_side_of, read_end as loop_read_end, write_end as loop_write_end}
use Rattle.proxy_loop.specs.Servers.{touches, Fresh, WithoutSessions}
use Rattle.proxy_loop.proofs.Holding.{events_append}
use Rattle.proxy_loop.proofs.Others.{Silent, quiet_entry}
use Rattle.recording.specs.Sessions.{What, Stopped as StoppedBy}
use Rattle.record_net.specs.Records.{came, ended, read_end, write_end}
use Rattle.record_net.specs.Sessions.{items_of, events_in, failed_events, session_events_by, session_events}
use Rattle.recorded_run.specs.Events.{event_of, recorded_events, connects, refuses_connect, is_refused}
use Rattle.recorded_run.specs.Recordings.{TellsHistories}

-- ---- one entry

came_is : (side : Side) (bytes : List ℕ) → event_of (came side bytes) ≡ Bytes (loop_side_of side) bytes
came_is link_side.Client bytes = refl
came_is link_side.Bus bytes = refl

ended_is : (side : Side) → event_of (ended side) ≡ Finished (loop_side_of side)
ended_is link_side.Client = refl
ended_is link_side.Bus = refl

read_stop : (side : Side) → event_of (StoppedBy (read_end side)) ≡ Stopped (loop_read_end side)
read_stop link_side.Client = refl
read_stop link_side.Bus = refl

write_stop : (side : Side) → event_of (StoppedBy (write_end side)) ≡ Stopped (loop_write_end side)
write_stop link_side.Client = refl
write_stop link_side.Bus = refl

if_one : (b : Bool) (what : What) (event : Event) → event_of what ≡ event → map event_of (if b then what ∷ [] else []) ≡ (if b then event ∷ [] else [])
if_one true what event e = ap (λ (x : Event). x ∷ []) e
if_one false what event e = refl

call_events : (n : ℕ) (call : Call) → map event_of (failed_events n call) ≡ loop_failed_events n call
call_events n (Read link) = if_one (nat_eq link.session n) _ _ (read_stop link.side)
call_events n (Write link) = if_one (nat_eq link.session n) _ _ (write_stop link.side)
call_events n (Connect session) = if_one (nat_eq session n) _ _ refl
call_events n (Accept listener) = refl
call_events n Listen = refl

refused_none : (n : ℕ) (call : Call) → connects n call ≡ false → [] ≡ refused_events n call
refused_none n (Read link) h = refl
refused_none n (Write link) h = refl
refused_none n (Connect session) h = rw h refl
refused_none n (Accept listener) h = refl
refused_none n Listen h = refl

entry_events : (n : ℕ) (entry : Entry) → refuses_connect n entry ≡ false → map event_of (session_events_by n entry) ≡ events_by n entry
entry_events n (read link bytes) h = if_one (nat_eq link.session n) _ _ (came_is link.side bytes)
entry_events n (finished link) h = if_one (nat_eq link.session n) _ _ (ended_is link.side)
entry_events n (failed call) h = call_events n call
entry_events n (refused call) h = refused_none n call h
entry_events n (listened listener path) h = refl
entry_events n (ready answer) h = refl
entry_events n (accepted listener session) h = refl
entry_events n (connected session path) h = refl
entry_events n (wrote link bytes) h = refl
entry_events n (not_ready call) h = refl
entry_events n (shut link) h = refl

-- ---- a journal

pub or_first : (x y : Bool) → x || y ≡ false → x ≡ false
or_first true y h = cc
or_first false y h = refl

pub or_second : (x y : Bool) → x || y ≡ false → y ≡ false
or_second true y h = cc
or_second false y h = h

journal_events : (n : ℕ) (journal : Journal) → is_refused n journal ≡ false → map event_of (session_events n journal) ≡ events_of n journal
unfolding some_of events_of
journal_events n [] h = refl
journal_events n (entry ∷ before) h =
    map-append event_of (session_events_by n entry) (session_events n before)
    ∙ ap₂ (λ (x y : List Event). x ++ y) (entry_events n entry (or_first (refuses_connect n entry) (is_refused n before) h))
    (journal_events n before (or_second (refuses_connect n entry) (is_refused n before) h))

map_reverse : (whats : List What) → map event_of (reverse whats) ≡ reverse (map event_of whats)
map_reverse [] = refl
map_reverse (what ∷ whats) =
    ap (map event_of) (reverse-append (what ∷ []) whats) ∙ map-append event_of (reverse whats) (what ∷ [])
    ∙ ap (λ (l : List Event). l ++ event_of what ∷ []) (map_reverse whats) ∙ sym (reverse-append (event_of what ∷ []) (map event_of whats))

there_and_back : (whats : List What) → reverse (map event_of (reverse whats)) ≡ map event_of whats
there_and_back whats = ap reverse (map_reverse whats) ∙ reverse-reverse (map event_of whats)

-- ---- a journal without sessions

-- of a session of which nothing is told there is no event, nothing was written to it, and no listener accepted it
pub record Untold (n : ℕ) (journal : Journal) : Type 0 where
  pub events : events_of n journal ≡ []
  pub bus : written (bus_link n) journal ≡ []
  pub client : written (client_link n) journal ≡ []

pub untold : (n : ℕ) (journal : Journal) → Fresh n journal → Untold n journal
unfolding some_of events_of
untold n [] f = record { events = refl; bus = refl; client = refl }
untold n (entry ∷ before) f =
    let silent : Silent n entry = quiet_entry n entry (or_first (touches n entry) (some_of (touches n) before) f) in
    let earlier : Untold n before = untold n before (or_second (touches n entry) (some_of (touches n) before) f) in record {
      events = ap₂ (λ (x y : List Event). x ++ y) silent.events earlier.events;
      bus = ap₂ (λ (x y : List ℕ). x ++ y) earlier.bus silent.bus;
      client = ap₂ (λ (x y : List ℕ). x ++ y) earlier.client silent.client;
    }

-- ---- what is recorded since

-- if a recording tells each session's events in their order
pub histories : ((n : ℕ) (journal : Journal) → events_in n (items_of journal) ≡ reverse (session_events n journal)) →
    (was since : Journal) → WithoutSessions was → TellsHistories was since
histories told was since none n h =
    let same : recorded_events n (items_of since) ≡ events_of n (since ++ was) =
    ap (λ (l : List What). reverse (map event_of l)) (told n since) ∙ there_and_back (session_events n since)
    ∙ journal_events n since h ∙ sym (append-nil (events_of n since))
    ∙ ap (λ (l : List Event). events_of n since ++ l) (sym (untold n was (none.fresh n)).events) ∙ sym (events_append n since was) in
    (same, λ policy mode. ap (λ (events : List Event). history policy mode events) same)
