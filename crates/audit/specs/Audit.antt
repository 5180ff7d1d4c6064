-- The denials that recordings meet under a policy, counted, and the entries that none of their items names.
use Rattle.std.specs.Prelude.{ℕ, ◌+◌, ◌==◌, Bool, false, ◌&&◌, List, [], ◌∷◌, ◌++◌, length, map, flat_map, count_by, codes, decimal, Option, Some, None, is_some, if◌then◌else◌}
use Rattle.std.specs.List.{list_any}
use Rattle.dbus_names.specs.Names.{is_well_known}
use Rattle.dbus_names.specs.Texts.{Text}
use Rattle.dbus_header.specs.Message.{Message, destination, interface, first_text}
use Rattle.name_patterns.specs.Patterns.{covers}
use Rattle.policy_args.specs.Policy.{Policy, entry_word}
use Rattle.policy_args.specs.Words.{PolicyOptions}
use Rattle.policy_args.specs.declared.entry.Entry.{Entry}
use Rattle.dbus_header.specs.Contents.{message_in}
use Rattle.policy_view.specs.Notes.{Note}
use Rattle.policy_view.specs.Sent.{is_bus_or_absent}
use Rattle.policy_view.specs.Shown.{is_owner_change}
use Rattle.policy_view.specs.declared.Decision.{Decision}
use Rattle.policy_view.specs.declared.Decision.TheVariants.{Judged, Shown}
use Rattle.policy_view.specs.declared.Verdict.TheVariants.{Pass, Ping, Drop}
use Rattle.policy_view.specs.declared.Showing.TheVariants.{Whole}
use Rattle.policy_view.specs.declared.Reason.{Reason}
use Rattle.policy_view.specs.declared.Reason.TheVariants.{NotVisible, OnlySee, NoRule, BusMember, BusInterface, ArgNotVisible, ArgNotTalk, ArgNotOwn, Eavesdrop, NotOutstanding, UnknownType, BadArgument, SenderNotTalk, NameHidden, NotExpected, OwnAnswer, UnknownField}
use Rattle.explain_log.specs.Lines.{joined, reason_entry, reason_name}
use Rattle.recording.specs.Recording.{Recording}
use Rattle.replay.specs.PlayedNotes.{notes_under}

-- ---- denials

-- why a message of the client isn't passed: a ping goes to the bus in its place, or nothing does
abbrev pub denied_by : Decision → Option Reason
denied_by (Judged (Ping what reason)) = Some reason
denied_by (Judged (Drop reason)) = Some reason
denied_by (Judged Pass) = None
denied_by (Shown showing) = None

abbrev pub denial : Note → Option Reason
denial note = denied_by note.decision

abbrev pub is_denial : Note → Bool
is_denial note = is_some (denial note)

-- the reasons in their order; each that rests on an entry is one reason for all entries
abbrev pub reasons : List Reason
reasons =
    NotVisible ∷ OnlySee 0 ∷ NoRule 0 ∷ BusMember ∷ BusInterface ∷ ArgNotVisible ∷ ArgNotTalk ∷ ArgNotOwn ∷ Eavesdrop
    ∷ NotOutstanding ∷ UnknownType ∷ BadArgument ∷ SenderNotTalk ∷ NameHidden ∷ NotExpected ∷ OwnAnswer ∷ UnknownField ∷ []

-- the place of a reason among them
abbrev pub reason_place : Reason → ℕ
reason_place NotVisible = 0
reason_place (OnlySee entry) = 1
reason_place (NoRule entry) = 2
reason_place BusMember = 3
reason_place BusInterface = 4
reason_place ArgNotVisible = 5
reason_place ArgNotTalk = 6
reason_place ArgNotOwn = 7
reason_place Eavesdrop = 8
reason_place NotOutstanding = 9
reason_place UnknownType = 10
reason_place BadArgument = 11
reason_place SenderNotTalk = 12
reason_place NameHidden = 13
reason_place NotExpected = 14
reason_place OwnAnswer = 15
reason_place UnknownField = 16

abbrev pub passes : (Reason → Bool) → Option Reason → Bool
passes test None = false
passes test (Some reason) = test reason

-- how many of the notes are denials with a reason that passes the test
abbrev pub denials : (Reason → Bool) → List Note → ℕ
denials test notes = count_by (λ note. passes test (denial note)) notes

abbrev pub is_at : ℕ → Reason → Bool
is_at place reason = reason_place reason == place

abbrev pub rests_on : ℕ → Reason → Bool
rests_on entry reason = reason_entry reason == entry

-- ---- the names that items name

abbrev pub where_well_known : Option Text → List Text
where_well_known None = []
where_well_known (Some name) = if is_well_known name then name ∷ [] else []

-- a call to the bus, by its own interface or by none
abbrev pub is_bus_call : Message → Bool
is_bus_call m = m.kind == 1 && is_bus_or_absent (destination m) && is_bus_or_absent (interface m)

abbrev pub listed : Option Text → List Text
listed None = []
listed (Some text) = text ∷ []

-- a client's message: its well-known destination, and the first text of a call to the bus, whatever that is
abbrev pub named_by_client : Message → List Text
named_by_client m = where_well_known (destination m) ++ (if is_bus_call m then listed (first_text m) else [])

-- a message of the bus: the name of which the owner changed
abbrev pub named_by_bus : Message → List Text
named_by_bus m = if m.kind == 4 && is_owner_change m then listed (first_text m) else []

-- what is passed or shown names, and nothing else does
abbrev pub named_on : Message → Decision → List Text
named_on m (Judged Pass) = named_by_client m
named_on m (Shown Whole) = named_by_bus m
named_on m _ = []

abbrev pub named_by : Note → List Text
named_by note = named_on (message_in note.frame) note.decision

abbrev pub named : List Note → List Text
named notes = flat_map named_by notes

abbrev pub is_named : List Text → Entry → Bool
is_named names entry = list_any (covers entry.pattern) names

-- ---- lines

abbrev pub recording_line : ℕ → ℕ → ℕ → Text
recording_line k items denied =
    joined (codes "recording") (decimal k ∷ codes "items" ∷ decimal items ∷ codes "denied" ∷ decimal denied ∷ [])

abbrev pub reason_line : Reason → ℕ → Text
reason_line reason n = joined (codes "reason") (reason_name reason ∷ decimal n ∷ [])

abbrev pub denied_line : ℕ → ℕ → Text
denied_line number n = joined (codes "entry") (decimal number ∷ codes "denied" ∷ decimal n ∷ [])

abbrev pub unnamed_line : ℕ → Entry → Text
unnamed_line number entry = joined (codes "unnamed") (decimal number ∷ entry_word entry ∷ [])

-- a line where its count isn't 0
abbrev pub where_any : ℕ → Text → Text
where_any n line = if n == 0 then [] else line

abbrev pub unless_named : Bool → Text → Text
unless_named is_named line = if is_named then [] else line

-- ---- the text

-- a line for each recording, the first with this number
abbrev pub recording_lines : ℕ → List (List Note) → Text
recording_lines k [] = []
recording_lines k (notes ∷ recordings) = recording_line k (length notes) (count_by is_denial notes) ++ recording_lines (k + 1) recordings

-- a line for each of the reasons that isn't counted 0
abbrev pub reason_lines : (Reason → ℕ) → List Reason → Text
reason_lines count [] = []
reason_lines count (reason ∷ reasons) = where_any (count reason) (reason_line reason (count reason)) ++ reason_lines count reasons

-- a line for each of the entries whose number isn't counted 0, the first with this number
abbrev pub denied_lines : (ℕ → ℕ) → ℕ → List Entry → Text
denied_lines count number [] = []
denied_lines count number (entry ∷ entries) = where_any (count number) (denied_line number (count number)) ++ denied_lines count (number + 1) entries

-- a line for each of the entries that covers none of the names, the first with this number
abbrev pub unnamed_lines : List Text → ℕ → List Entry → Text
unnamed_lines names number [] = []
unnamed_lines names number (entry ∷ entries) =
    unless_named (is_named names entry) (unnamed_line number entry) ++ unnamed_lines names (number + 1) entries

-- of a policy and the notes of each recording
unfoldable pub audit_text : Policy → List (List Note) → Text
audit_text policy recordings =
    let all = flat_map (λ notes. notes) recordings in
    recording_lines 1 recordings
    ++ reason_lines (λ reason. denials (is_at (reason_place reason)) all) reasons
    ++ denied_lines (λ number. denials (rests_on number) all) 1 policy.entries
    ++ unnamed_lines (named all) 1 policy.entries

-- what is told of recordings that are played under the options
unfoldable pub audit_of : PolicyOptions → List Recording → Text
audit_of options recordings = audit_text options.policy (map (notes_under options) recordings)
