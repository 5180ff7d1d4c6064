-- The records of a net's journal, in a recording of version 2.
use Rattle.std.specs.Prelude.{ℕ, true, List, [], ◌∷◌, ◌++◌, length}
use Rattle.link_traits.specs.Journals.{Journal}
use Rattle.link_traits.specs.Entries.{Entry, listened, ready, accepted, connected, read, finished, wrote, not_ready, failed, refused, shut}
use Rattle.link_traits.specs.declared.links.Side.{Side}
use Rattle.link_traits.specs.declared.links.Side.TheVariants.{Client, Bus}
use Rattle.link_traits.specs.declared.links.Call.{Call}
use Rattle.link_traits.specs.declared.links.Call.TheVariants.{Listen, Accept, Connect, Read, Write}
use Rattle.recording.specs.declared.Side.{Side as RecordedSide}
use Rattle.recording.specs.declared.Side.TheVariants as recorded_side
use Rattle.recording.specs.Recording.{Bytes, Finished, magic, auth_byte}
use Rattle.recording.specs.Sessions.{What, Happened, Stopped, record_head, kind_of}

-- a link's side, as a recording has it
abbrev pub side_of : Side → RecordedSide
side_of Client = recorded_side.Client
side_of Bus = recorded_side.Bus

-- received bytes of a side, as a recording has them
abbrev pub came : Side → List ℕ → What
came side bytes = Happened (Bytes (side_of side) bytes)

-- .. and a side's end
abbrev pub ended : Side → What
ended side = Happened (Finished (side_of side))

-- a record of some bytes
abbrev pub spelled_record : ℕ → ℕ → List ℕ → List ℕ
spelled_record kind session bytes = record_head kind session (length bytes) ++ bytes

-- the kind of received bytes of a side, whatever the bytes
abbrev pub bytes_kind : Side → ℕ
bytes_kind side = kind_of (came side [])

-- the kind of a side's end
abbrev pub finished_kind : Side → ℕ
finished_kind side = kind_of (ended side)

-- the kind of a failed call, whose one byte is the number of its End
abbrev pub failed_kind : ℕ
failed_kind = kind_of (Stopped 0)

abbrev pub read_end : Side → ℕ
read_end Client = 7
read_end Bus = 9

abbrev pub write_end : Side → ℕ
write_end Client = 8
write_end Bus = 10

abbrev pub connect_end : ℕ
connect_end = 11

-- the record of a failed call, if it is a call of a session
abbrev pub failed_record : Call → List ℕ
failed_record (Read link) = spelled_record failed_kind link.session (read_end link.side ∷ [])
failed_record (Write link) = spelled_record failed_kind link.session (write_end link.side ∷ [])
failed_record (Connect session) = spelled_record failed_kind session (connect_end ∷ [])
failed_record (Accept listener) = []
failed_record Listen = []

-- the record of one entry, if it has one
abbrev pub record_by : Entry → List ℕ
record_by (read link bytes) = spelled_record (bytes_kind link.side) link.session bytes
record_by (finished link) = spelled_record (finished_kind link.side) link.session []
record_by (failed call) = failed_record call
record_by (listened listener path) = []
record_by (ready answer) = []
record_by (accepted listener session) = []
record_by (connected session path) = []
record_by (wrote link bytes) = []
record_by (not_ready call) = []
record_by (refused call) = []
record_by (shut link) = []

-- the records of a journal, the oldest first
abbrev pub records_of : Journal → List ℕ
records_of [] = []
records_of (entry ∷ before) = records_of before ++ record_by entry

-- the first bytes of a recording: its magic, version 2, and that the streams begin with the lines of authentication
abbrev pub head : List ℕ
head = magic ++ 2 ∷ auth_byte true ∷ []

-- a recording of a journal
abbrev pub recorded : Journal → List ℕ
recorded journal = head ++ records_of journal
