-- The journal that the notes of a net's calls and their bytes represent, and how a transcript grows.
use Rattle.std.specs.Prelude.{ℕ, ◌+◌, ◌-◌, Bool, false, ◌==◌, ◌||◌, if◌then◌else◌, List, [], ◌∷◌, length, take, drop}
use Rattle.link_traits.specs.Entries.{Entry, listened, ready, accepted, connected, read, finished, wrote, not_ready, failed, refused, shut}
use Rattle.link_traits.specs.Journals.{Journal}
use Rattle.memory_links.specs.declared.transcripts.Note.{Note}
use Rattle.memory_links.specs.declared.transcripts.Note.TheVariants.{Listened, Ready, Accepted, Connected, Read, Finished, Wrote, NotReady, Failed, Refused, Shut}
use Rattle.memory_links.specs.declared.transcripts.Noted.{Noted}

-- the entry of a note with its bytes
abbrev pub entry_of : Note → List ℕ → Entry
entry_of (Listened listener) bytes = listened listener bytes
entry_of (Ready answer) bytes = ready answer
entry_of (Accepted listener session) bytes = accepted listener session
entry_of (Connected session) bytes = connected session bytes
entry_of (Read link) bytes = read link bytes
entry_of (Finished link) bytes = finished link
entry_of (Wrote link) bytes = wrote link bytes
entry_of (NotReady call) bytes = not_ready call
entry_of (Failed call) bytes = failed call
entry_of (Refused call) bytes = refused call
entry_of (Shut link) bytes = shut link

-- the path of an entry, or the bytes that were read or written
abbrev pub bytes_of : Entry → List ℕ
bytes_of (listened listener path) = path
bytes_of (ready answer) = []
bytes_of (accepted listener session) = []
bytes_of (connected session path) = path
bytes_of (read link bytes) = bytes
bytes_of (finished link) = []
bytes_of (wrote link bytes) = bytes
bytes_of (not_ready call) = []
bytes_of (failed call) = []
bytes_of (refused call) = []
bytes_of (shut link) = []

-- the number of bytes of the notes
abbrev pub bytes_in : List Noted → ℕ
bytes_in [] = 0
bytes_in (noted ∷ notes) = noted.length + bytes_in notes

-- the entries of the notes, the oldest first
abbrev pub entries_of : List Noted → List ℕ → Journal
entries_of [] bytes = []
entries_of (noted ∷ notes) bytes = entry_of noted.note (take noted.length bytes) ∷ entries_of notes (drop noted.length bytes)

-- whether the journal is still kept, its entries with the newest first, and the room for entries and bytes
pub record TranscriptView : Type 0 where
  pub tells : Bool
  pub entries : List Entry
  pub entries_left : ℕ
  pub bytes_left : ℕ

-- whether there is no room for an entry, or for a byte
abbrev pub is_spent : TranscriptView → Bool
is_spent transcript = (transcript.entries_left == 0) || (transcript.bytes_left == 0)

-- the journal is no longer kept
abbrev pub ceased : TranscriptView → TranscriptView
ceased transcript = record transcript { tells = false }

-- one more entry, which takes room for itself and for its bytes
abbrev pub with_entry : Entry → TranscriptView → TranscriptView
with_entry entry transcript = record {
  tells = transcript.tells;
  entries = entry ∷ transcript.entries;
  entries_left = transcript.entries_left - 1;
  bytes_left = transcript.bytes_left - length (bytes_of entry);
}

-- one more entry if there is room for one; else the journal is no longer kept
abbrev pub entered : Entry → TranscriptView → TranscriptView
entered entry transcript = if transcript.entries_left == 0 then ceased transcript else with_entry entry transcript

-- one more entry if the room isn't spent; else the journal is no longer kept
abbrev pub entered_unless_spent : Entry → TranscriptView → TranscriptView
entered_unless_spent entry transcript = if is_spent transcript then ceased transcript else with_entry entry transcript
