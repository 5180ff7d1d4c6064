-- What a recording has of each session.
use Rattle.std.specs.Prelude.{ℕ, nat_eq, List, [], ◌∷◌, ◌++◌, if◌then◌else◌}
use Rattle.link_traits.specs.Journals.{Journal}
use Rattle.link_traits.specs.Entries.{Entry, listened, ready, accepted, connected, read, finished, wrote, not_ready, failed, refused, shut}
use Rattle.link_traits.specs.declared.links.Call.{Call}
use Rattle.link_traits.specs.declared.links.Call.TheVariants.{Listen, Accept, Connect, Read, Write}
use Rattle.recording.specs.Sessions.{What, Stopped, SessionEvent}
use Rattle.record_net.specs.Records.{came, ended, read_end, write_end, connect_end}

-- ---- what a recording of a journal has

abbrev pub item : ℕ → What → SessionEvent
item session what = record { session = session; what = what }

abbrev pub failed_items : Call → List SessionEvent
failed_items (Read link) = item link.session (Stopped (read_end link.side)) ∷ []
failed_items (Write link) = item link.session (Stopped (write_end link.side)) ∷ []
failed_items (Connect session) = item session (Stopped connect_end) ∷ []
failed_items (Accept listener) = []
failed_items Listen = []

abbrev pub items_by : Entry → List SessionEvent
items_by (read link bytes) = item link.session (came link.side bytes) ∷ []
items_by (finished link) = item link.session (ended link.side) ∷ []
items_by (failed call) = failed_items call
items_by (listened listener path) = []
items_by (ready answer) = []
items_by (accepted listener session) = []
items_by (connected session path) = []
items_by (wrote link bytes) = []
items_by (not_ready call) = []
items_by (refused call) = []
items_by (shut link) = []

-- the oldest first
abbrev pub items_of : Journal → List SessionEvent
items_of [] = []
items_of (entry ∷ before) = items_of before ++ items_by entry

-- what happened in session n, in the order of the items
abbrev pub events_in : ℕ → List SessionEvent → List What
events_in n [] = []
events_in n (i ∷ items) = (if nat_eq i.session n then i.what ∷ [] else []) ++ events_in n items

-- ---- the events of one session in a journal

abbrev pub failed_events : ℕ → Call → List What
failed_events n (Read link) = if nat_eq link.session n then Stopped (read_end link.side) ∷ [] else []
failed_events n (Write link) = if nat_eq link.session n then Stopped (write_end link.side) ∷ [] else []
failed_events n (Connect session) = if nat_eq session n then Stopped connect_end ∷ [] else []
failed_events n (Accept listener) = []
failed_events n Listen = []

abbrev pub session_events_by : ℕ → Entry → List What
session_events_by n (read link bytes) = if nat_eq link.session n then came link.side bytes ∷ [] else []
session_events_by n (finished link) = if nat_eq link.session n then ended link.side ∷ [] else []
session_events_by n (failed call) = failed_events n call
session_events_by n (listened listener path) = []
session_events_by n (ready answer) = []
session_events_by n (accepted listener session) = []
session_events_by n (connected session path) = []
session_events_by n (wrote link bytes) = []
session_events_by n (not_ready call) = []
session_events_by n (refused call) = []
session_events_by n (shut link) = []

-- the events of session n, the newest first
abbrev pub session_events : ℕ → Journal → List What
session_events n [] = []
session_events n (entry ∷ before) = session_events_by n entry ++ session_events n before
