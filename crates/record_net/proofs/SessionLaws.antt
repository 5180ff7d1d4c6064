-- How the records of a journal relate to the events of its sessions, and what is read of them.
use Rattle.std.proofs.Common.{◌≡◌, ◌≤◌, ℕ, nat_eq, Bool, true, false, List, [], ◌∷◌, ◌++◌, length, Ok, if◌then◌else◌, refl, ap, ap₂, sym, ◌∙◌, subst, append_assoc, append-nil, reverse}
use Rattle.std.specs.List.{flat_map}
use Rattle.std.proofs.lemmas.List.{reverse-append}
use Rattle.std.proofs.lemmas.Grind.{flat_map-append}
use Rattle.link_traits.specs.Journals.{Journal}
use Rattle.link_traits.specs.Entries.{Entry, listened, ready, accepted, connected, read, finished, wrote, not_ready, failed, refused, shut}
use Rattle.link_traits.specs.declared.links.Call.{Call}
use Rattle.link_traits.specs.declared.links.Call.TheVariants.{Listen, Accept, Connect, Read, Write}
use Rattle.link_traits.specs.declared.links.Side.{Side}
use Rattle.link_traits.specs.declared.links.Side.TheVariants.{Client, Bus}
use Rattle.recording.specs.declared.TheConstants.{RECORDING_LIMIT}
use Rattle.recording.specs.Sessions.{What, SessionEvent, Sessions, kind_of, spelled_session_event, spelled_sessions, sessions_of}
use Rattle.recording.specs.SessionsSeen.{EventsFit}
use Rattle.record_net.specs.Records.{came, spelled_record, bytes_kind, record_by, failed_record, records_of, head, recorded}
use Rattle.record_net.specs.Sessions.{failed_items, items_by, items_of, events_in, failed_events, session_events_by, session_events}

call_record : (call : Call) → failed_record call ≡ flat_map spelled_session_event (failed_items call)
call_record (Read link) = sym (append-nil (failed_record (Read link)))
call_record (Write link) = sym (append-nil (failed_record (Write link)))
call_record (Connect session) = sym (append-nil (failed_record (Connect session)))
call_record (Accept listener) = refl
call_record Listen = refl

-- the kind doesn't depend on the received bytes
kind_is : (side : Side) (bytes : List ℕ) → bytes_kind side ≡ kind_of (came side bytes)
kind_is Client bytes = refl
kind_is Bus bytes = refl

entry_record : (entry : Entry) → record_by entry ≡ flat_map spelled_session_event (items_by entry)
entry_record (read link bytes) =
    ap (λ (kind : ℕ). spelled_record kind link.session bytes) (kind_is link.side bytes)
    ∙ sym (append-nil (spelled_record (kind_of (came link.side bytes)) link.session bytes))
entry_record (finished link) = sym (append-nil (record_by (finished link)))
entry_record (failed call) = call_record call
entry_record (listened listener path) = refl
entry_record (ready answer) = refl
entry_record (accepted listener session) = refl
entry_record (connected session path) = refl
entry_record (wrote link bytes) = refl
entry_record (not_ready call) = refl
entry_record (refused call) = refl
entry_record (shut link) = refl

-- the records are the spelling of the items
pub records_spelled : (journal : Journal) → records_of journal ≡ flat_map spelled_session_event (items_of journal)
records_spelled [] = refl
records_spelled (entry ∷ before) =
    ap₂ (λ (x : List ℕ) (y : List ℕ). x ++ y) (records_spelled before) (entry_record entry)
    ∙ sym (flat_map-append spelled_session_event (items_of before) (items_by entry))

-- ---- reading

abbrev told_by : Journal → Sessions
told_by journal = record { version = 2; auth = true; events = items_of journal }

pub recorded_spelled : (journal : Journal) → recorded journal ≡ spelled_sessions (told_by journal)
unfolding spelled_sessions
recorded_spelled journal = ap (λ (l : List ℕ). head ++ l) (records_spelled journal)

-- if what is spelled is read again
pub recorded_read : ((s : Sessions) → s.version ≡ 2 → EventsFit s.events → length (spelled_sessions s) ≤ RECORDING_LIMIT → sessions_of (spelled_sessions s) ≡ Ok s) →
    (journal : Journal) → EventsFit (items_of journal) → length (recorded journal) ≤ RECORDING_LIMIT → sessions_of (recorded journal) ≡ Ok (told_by journal)
recorded_read again journal fit short =
    let is = recorded_spelled journal in
    ap sessions_of is ∙ again (told_by journal) refl fit (subst (λ (bytes : List ℕ). length bytes ≤ RECORDING_LIMIT) is short)

-- ---- the events of a session

events_in-append : (n : ℕ) (xs ys : List SessionEvent) → events_in n (xs ++ ys) ≡ events_in n xs ++ events_in n ys
events_in-append n [] ys = refl
events_in-append n (x ∷ xs) ys =
    let own : List What = if nat_eq x.session n then x.what ∷ [] else [] in
    ap (λ (l : List What). own ++ l) (events_in-append n xs ys) ∙ sym (append_assoc own (events_in n xs) (events_in n ys))

one : (b : Bool) (what : What) → (if b then what ∷ [] else []) ++ [] ≡ reverse (if b then what ∷ [] else [])
one true what = refl
one false what = refl

call_events : (n : ℕ) (call : Call) → events_in n (failed_items call) ≡ reverse (failed_events n call)
call_events n (Read link) = one (nat_eq link.session n) _
call_events n (Write link) = one (nat_eq link.session n) _
call_events n (Connect session) = one (nat_eq session n) _
call_events n (Accept listener) = refl
call_events n Listen = refl

entry_events : (n : ℕ) (entry : Entry) → events_in n (items_by entry) ≡ reverse (session_events_by n entry)
entry_events n (read link bytes) = one (nat_eq link.session n) _
entry_events n (finished link) = one (nat_eq link.session n) _
entry_events n (failed call) = call_events n call
entry_events n (listened listener path) = refl
entry_events n (ready answer) = refl
entry_events n (accepted listener session) = refl
entry_events n (connected session path) = refl
entry_events n (wrote link bytes) = refl
entry_events n (not_ready call) = refl
entry_events n (refused call) = refl
entry_events n (shut link) = refl

-- the events of a session in the items are those in the journal
pub events_told : (n : ℕ) (journal : Journal) → events_in n (items_of journal) ≡ reverse (session_events n journal)
events_told n [] = refl
events_told n (entry ∷ before) =
    events_in-append n (items_of before) (items_by entry)
    ∙ ap₂ (λ (x : List What) (y : List What). x ++ y) (events_told n before) (entry_events n entry)
    ∙ sym (reverse-append (session_events_by n entry) (session_events n before))
