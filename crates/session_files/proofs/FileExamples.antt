-- Worked examples of the files of sessions and of the list of sessions, against bytes and lines written by hand.
use Rattle.std.specs.Prelude.{◌≡◌, ℕ, List, [], ◌∷◌, ◌++◌, false, true, codes, refl, map, Some, None, Ok}
use Rattle.std.specs.Fmt.{digits}
use Rattle.recording.specs.declared.Side.TheVariants.{Client, Bus}
use Rattle.recording.specs.Recording.{Bytes, Finished, events_at, head_of, record_len, recording_of, spelled_recording}
use Rattle.recording.specs.Sessions.{Happened, Stopped, Sessions, file_head_of, record_session, session_events_at, session_record_len, sessions_of}
use Rattle.session_files.specs.Listing.{listing_of}
use Rattle.session_files.specs.OneSession.{session_file_of}

abbrev line : List ℕ → List ℕ
line t = t ++ 10 ∷ []

-- a file of version 2: session 3's client sends AB, session 2's bus sends C, the bus of session 3 fails, and then the
-- client of session 3 and the bus of session 2 end
file : List ℕ
file = codes "DBPR" ++ 2 ∷ 1
    ∷ 0 ∷ 3 ∷ 0 ∷ 0 ∷ 0 ∷ 2 ∷ 0 ∷ 0 ∷ 0 ∷ 65 ∷ 66
    ∷ 1 ∷ 2 ∷ 0 ∷ 0 ∷ 0 ∷ 1 ∷ 0 ∷ 0 ∷ 0 ∷ 67
    ∷ 4 ∷ 3 ∷ 0 ∷ 0 ∷ 0 ∷ 1 ∷ 0 ∷ 0 ∷ 0 ∷ 9
    ∷ 2 ∷ 3 ∷ 0 ∷ 0 ∷ 0 ∷ 0 ∷ 0 ∷ 0 ∷ 0
    ∷ 3 ∷ 2 ∷ 0 ∷ 0 ∷ 0 ∷ 0 ∷ 0 ∷ 0 ∷ 0 ∷ []

two : Sessions
two = record {
  version = 2;
  auth = true;
  events = record { session = 3; what = Happened (Bytes Client (codes "AB")) } ∷ record { session = 2; what = Happened (Bytes Bus (codes "C")) } ∷ record { session = 3; what = Stopped 9 }
      ∷ record { session = 3; what = Happened (Finished Client) } ∷ record { session = 2; what = Happened (Finished Bus) } ∷ [];
}

read : sessions_of file ≡ Ok two
unfolding file two sessions_of file_head_of session_events_at record_session session_record_len
read = refl

-- the file of session 3 ends where the bus failed, and there is no session 1
files : map (session_file_of two) (1 ∷ 2 ∷ 3 ∷ [])
    ≡ None
    ∷ Some (codes "DBPR" ++ 1 ∷ 1 ∷ 1 ∷ 1 ∷ 0 ∷ 0 ∷ 0 ∷ 67 ∷ 3 ∷ 0 ∷ 0 ∷ 0 ∷ 0 ∷ [])
    ∷ Some (codes "DBPR" ++ 1 ∷ 1 ∷ 0 ∷ 2 ∷ 0 ∷ 0 ∷ 0 ∷ 65 ∷ 66 ∷ [])
    ∷ []
unfolding two spelled_recording
files = refl

listed : listing_of two ≡ line (codes "session 2 client 0 bus 1 events 2 end 4") ++ line (codes "session 3 client 2 bus 0 events 3 end 9")
unfolding two digits
listed = refl

-- a file of version 1 in which nothing happened has session 1
nothing : Sessions
nothing = record { version = 1; auth = false; events = [] }

nothing_read : sessions_of (codes "DBPR" ++ 1 ∷ 0 ∷ []) ≡ Ok nothing
unfolding nothing sessions_of file_head_of recording_of head_of events_at record_len
nothing_read = refl

nothing_listed : listing_of nothing ≡ line (codes "session 1 client 0 bus 0 events 0 end -")
unfolding nothing digits
nothing_listed = refl

nothing_files : map (session_file_of nothing) (0 ∷ 1 ∷ 2 ∷ []) ≡ None ∷ Some (codes "DBPR" ++ 1 ∷ 0 ∷ []) ∷ None ∷ []
unfolding nothing spelled_recording
nothing_files = refl
