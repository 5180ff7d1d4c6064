-- What one session of a recording, and the list of its sessions, come to.
use Rattle.std.proofs.Common.{◌≡◌, ◌<◌, ◌∙◌, ℕ, List, [], Option, Some, None, Result, Ok, Err, IfOk, IfSome, ap, refl, subst, sym}
use Rattle.std.proofs.lemmas.List.Elements.{All-from_get_or}
use Rattle.byte_lists.specs.Bytes.{AreBytes}
use Rattle.recording.specs.Gives.{GivesUnlessMemory}
use Rattle.recording.specs.Sessions.{Sessions, sessions_of}
use Rattle.recording.specs.SessionsSeen.{sessions_seen}
use Rattle.recording.specs.declared.RecordingRefusal.{RecordingRefusal}
use Rattle.recording.specs.declared.sessions.Sessions.{Sessions as DeclaredSessions}
use Rattle.session_files.specs.Listing.{listing_of}
use Rattle.session_files.specs.OneSession.{IsOfFile, session_file_of}
use Rattle.proxy_main.specs.declared.Refusal.TheVariants.{NoSuchSession}
use Rattle.proxy_main.specs.declared.Stop.{Stop}
use Rattle.proxy_main.specs.declared.Stop.TheVariants as stop
use Rattle.proxy_main.specs.Words.{Command, ListSessions, Session}
use Rattle.proxy_main.specs.Answers.{Agrees, Answer, IsSettled, IsWork, Refused, Untold, Wrote, answer_to, checked_sessions, extracted, extracting, listed, without}
use Rattle.proxy_main.specs.Loads.{IsSession, LoadStops, StopsBy}
use Rattle.proxy_main.proofs.Loading.{of_file, read_err, read_ok, untold-first, without-path}

-- ---- a file that was read

pub given_of_file : (result : Result DeclaredSessions RecordingRefusal) (bytes : List ℕ) → AreBytes bytes → GivesUnlessMemory sessions_seen result (sessions_of bytes) → IfOk result (λ s. IsOfFile (sessions_seen s))
given_of_file (Ok s) bytes are e = record { file = bytes; bytes = All-from_get_or (λ b. b < 256) bytes 0 (λ i lt. are i); read = e }
given_of_file (Err refusal) bytes are e = tt

-- ---- the recording was read, or is why a run stops

module _ (told : List ℕ → Option (List ℕ)) (r : List ℕ) where
  pub session_loaded : (number : ℕ) (s : Sessions) → IfSome (told r) (λ bytes. checked_sessions bytes ≡ Ok s) → Agrees (answer_to told (Some (Session r number))) (extracting number s)
  session_loaded number s is = read_ok (told r) checked_sessions s (extracting number) is

  pub list_loaded : (s : Sessions) → IfSome (told r) (λ bytes. checked_sessions bytes ≡ Ok s) → Agrees (answer_to told (Some (ListSessions r))) (listed s)
  list_loaded s is = read_ok (told r) checked_sessions s listed is

  pub session_stops : (number : ℕ) (s : Stop) → LoadStops checked_sessions (told r) r s → StopsBy told (Some (Session r number)) s
  session_stops number (stop.Refused refusal) is = (read_err (told r) checked_sessions refusal (extracting number) is.0, of_file refusal (Some (Session r number)) is.1)
  session_stops number (stop.File path) is = subst (λ q. answer_to (without q told) (Some (Session r number)) ≡ Untold) (sym is) (untold-first _ checked_sessions (extracting number) (without-path r told))
  session_stops number stop.Output is = absurd is
  session_stops number stop.Log is = absurd is
  session_stops number stop.Memory is = tt

  pub list_stops : (s : Stop) → LoadStops checked_sessions (told r) r s → StopsBy told (Some (ListSessions r)) s
  list_stops (stop.Refused refusal) is = (read_err (told r) checked_sessions refusal listed is.0, of_file refusal (Some (ListSessions r)) is.1)
  list_stops (stop.File path) is = subst (λ q. answer_to (without q told) (Some (ListSessions r)) ≡ Untold) (sym is) (untold-first _ checked_sessions listed (without-path r told))
  list_stops stop.Output is = absurd is
  list_stops stop.Log is = absurd is
  list_stops stop.Memory is = tt

-- ---- what is written

pub session_found : (number : ℕ) (s : Sessions) (bytes : List ℕ) → session_file_of s number ≡ Some bytes → extracting number s ≡ Wrote bytes []
unfolding extracting
session_found number s bytes is = ap extracted is

pub session_missing : (number : ℕ) (s : Sessions) → session_file_of s number ≡ None → extracting number s ≡ Refused NoSuchSession
unfolding extracting
session_missing number s is = ap extracted is

pub list_written : (s : Sessions) (bytes : List ℕ) → bytes ≡ listing_of s → listed s ≡ Wrote bytes []
unfolding listed
list_written s bytes is = ap (λ (b : List ℕ). Wrote b []) (sym is)

-- an answer that is written is work
pub written_work : (told : List ℕ → Option (List ℕ)) (command : Option Command) (answer : Answer) (bytes : List ℕ) → Agrees (answer_to told command) answer → answer ≡ Wrote bytes [] → IsSettled (answer_to told command) →
    IsWork (answer_to told command)
written_work told command answer bytes agrees is settled = subst IsWork (sym (agrees settled ∙ is)) tt

pub missing_stops : (told : List ℕ → Option (List ℕ)) (command : Option Command) (number : ℕ) (s : Sessions) → Agrees (answer_to told command) (extracting number s) → session_file_of s number ≡ None → IsSession command →
    StopsBy told command (stop.Refused NoSuchSession)
missing_stops told command number s agrees none is = (λ settled. agrees settled ∙ session_missing number s none, is)
