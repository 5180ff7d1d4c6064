-- The sessions of a recording, a line for each.
use Rattle.std.specs.Prelude.{ℕ, ◌==◌, List, [], ◌∷◌, flat_map, length, Option, Some, None, codes, decimal, if◌then◌else◌}
use Rattle.std.specs.List.{sum_by}
use Rattle.dbus_names.specs.Texts.{Text}
use Rattle.explain_log.specs.Lines.{joined, number_word}
use Rattle.recording.specs.declared.Side.TheVariants.{Client, Bus}
use Rattle.recording.specs.Recording.{Bytes, Finished}
use Rattle.recording.specs.Sessions.{What, Happened, Stopped, Sessions, sessions_named}
use Rattle.session_files.specs.OneSession.{happened_in}

-- the sessions of a recording, in ascending order
abbrev pub sessions_in : Sessions → List ℕ
sessions_in s = if s.version == 1 then 1 ∷ [] else sessions_named [] s.events

-- how many bytes came from the client
abbrev pub client_len : What → ℕ
client_len (Happened (Bytes Client bytes)) = length bytes
client_len (Happened (Bytes Bus bytes)) = 0
client_len (Happened (Finished side)) = 0
client_len (Stopped end) = 0

-- how many bytes came from the bus
abbrev pub bus_len : What → ℕ
bus_len (Happened (Bytes Client bytes)) = 0
bus_len (Happened (Bytes Bus bytes)) = length bytes
bus_len (Happened (Finished side)) = 0
bus_len (Stopped end) = 0

-- the number of the End that it gives a session: 3 for the client's end, 4 for the bus's, and for a failed call the
-- number of its record
abbrev pub end_number : What → Option ℕ
end_number (Happened (Bytes side bytes)) = None
end_number (Happened (Finished Client)) = Some 3
end_number (Happened (Finished Bus)) = Some 4
end_number (Stopped end) = Some end

abbrev pub or_else : Option ℕ → Option ℕ → Option ℕ
or_else None other = other
or_else (Some n) other = Some n

-- the number of the first End
abbrev pub first_end : List What → Option ℕ
first_end [] = None
first_end (what ∷ rest) = or_else (end_number what) (first_end rest)

-- of a session the bytes of either side, the number of its records, and the first End, or a dash
abbrev pub session_line : ℕ → List What → Text
session_line session whats = joined (codes "session") (
    decimal session ∷ codes "client" ∷ decimal (sum_by client_len whats) ∷ codes "bus" ∷ decimal (sum_by bus_len whats)
    ∷ codes "events" ∷ decimal (length whats) ∷ codes "end" ∷ number_word (first_end whats) ∷ [])

abbrev pub listing_of : Sessions → Text
listing_of s = flat_map (λ session. session_line session (happened_in session s.events)) (sessions_in s)
