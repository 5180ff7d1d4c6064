-- Which calls of the system one call of the net made.
use Rattle.std.specs.Prelude.{ℕ, ◌≡◌, ◌≢◌, ◌≤◌, ◌<◌, ◌+◌, ◌-◌, ◌^◌, ◌⊎◌, Bool, true, false, List, [], ◌∷◌, ◌++◌, length, take, Option, Some, None, Result, Ok, Err}
use Rattle.std.specs.declared.io.ErrorKind.{ErrorKind}
use Rattle.std.specs.declared.io.ErrorKind.TheVariants.{WouldBlock, ConnectionReset, Interrupted}
use Rattle.link_traits.specs.declared.links.Got.{Got}
use Rattle.link_traits.specs.declared.links.Got.TheVariants.{Bytes as GotBytes, Finished, NotReady as ReadNotReady, Failed as ReadFailed}
use Rattle.link_traits.specs.declared.links.Took.{Took}
use Rattle.link_traits.specs.declared.links.Took.TheVariants.{Bytes as TookBytes, NotReady as WriteNotReady, Failed as WriteFailed}
use Rattle.link_traits.specs.declared.links.NetFault.{NetFault}
use Rattle.link_traits.specs.declared.links.NetFault.TheVariants.{Failed as FaultFailed, Memory as FaultMemory}
use Rattle.link_traits.specs.declared.links.Ready.{Ready}
use Rattle.link_traits.specs.declared.links.Ready.TheVariants.{Listener as IsListener, Link as IsLink, Quiet, Failed as WaitFailed}
use Rattle.link_traits.specs.declared.links.Accepted.{Accepted}
use Rattle.link_traits.specs.declared.links.Accepted.TheVariants.{New, NotReady as AcceptNotReady, Failed as AcceptFailed, Memory}
use Rattle.link_traits.specs.Answers.{client_link}
use Rattle.link_traits.specs.Entries.{Entry}
use Rattle.link_traits.specs.Numbers.{number_of}
use Rattle.std.specs.Option.{option_map}
use Rattle.std.specs.String.{string_bytes}
use Rattle.std.specs.Time.{instant_nanos}
use Rattle.std.specs.declared.time.Instant.{Instant}
use Rattle.proxy_net.specs.Answers.{answers_in}
use Rattle.proxy_net.specs.SystemCalls.{SystemCall, bind, await_clients, accept, connect, watch, read, write, close, wait, identify, remove, open_starter, notify_starter, answered, has_failed_wait}
use Rattle.proxy_net.specs.Files.{has_identity, is_replaceable, removal}
use Rattle.proxy_net.specs.Registering.{listeners_from}
use Rattle.proxy_net.specs.Starters.{after_calls}
use Rattle.proxy_net.specs.Streams.{IsReadFault, IsPeerGone, IsWriteFault}
use Rattle.proxy_net.specs.declared.bound_files.BoundFile.{BoundFile}
use Rattle.proxy_net.specs.declared.bound_files.FileIdentity.{FileIdentity}
use Rattle.proxy_net.specs.declared.bound_files.FoundFile.{FoundFile}
use Rattle.proxy_net.specs.declared.reports.Report.{Report}
use Rattle.proxy_net.specs.declared.net.Turn.{Turn}
use Rattle.proxy_net.specs.declared.net.Turn.TheVariants.{Named, Ended, Failed as TurnFailed, Again}
use Rattle.proxy_net.specs.declared.starters.Starter.{Starter}
use Rattle.proxy_net.specs.declared.starters.Starter.TheVariants.{Absent, Waiting, Told, Gone}
use Rattle.proxy_net.specs.declared.link_sockets.Retry.{Retry}
use Rattle.proxy_net.specs.declared.link_sockets.LinkSocket.{LinkSocket}
use Rattle.proxy_net.specs.declared.link_sockets.Connection.{Connection}
use Rattle.proxy_net.specs.declared.link_sockets.Connection.TheVariants.{Open, Pending, Failed}
use Rattle.proxy_net.specs.declared.link_sockets.Connected.{Connected}
use Rattle.proxy_net.specs.declared.link_sockets.Connected.TheVariants.{To as ToStream, NotDue, WouldBlock as NoRoom, Before, Failed as Refused}
use Rattle.proxy_net.specs.declared.listeners.Arrival.{Arrival}
use Rattle.proxy_net.specs.declared.listeners.Arrival.TheVariants.{Client, NotReady as NobodyCame, Failed as ArrivalFailed}
use Rattle.proxy_net.specs.declared.streams.StreamRead.{StreamRead}
use Rattle.proxy_net.specs.declared.streams.StreamRead.TheVariants.{Bytes, End, Nothing, Fault}
use Rattle.proxy_net.specs.declared.streams.StreamWrite.{StreamWrite}
use Rattle.proxy_net.specs.declared.streams.StreamWrite.TheVariants.{Bytes as WriteBytes, Full, PeerClosed, Again, Fault as WriteFault}
use Rattle.proxy_net.specs.declared.link_sockets.LinkWrite.{LinkWrite}
use Rattle.proxy_net.specs.declared.link_sockets.LinkWrite.TheVariants.{Bytes as LinkBytes, NotReady as LinkNotReady, PeerClosed as LinkClosed, Failed as LinkFailed}

-- if the journal is still told, it was told before, and calls of this kind were added
pub record Steps (P : List SystemCall → Type 0) (old new : Option (List SystemCall)) : Type 0 where
  pub told : (after : List SystemCall) → new ≡ Some after → (before : List SystemCall) × (calls : List SystemCall) × (old ≡ Some before) × (after ≡ calls ++ before) × P calls

-- calls among which the net answered nothing
abbrev pub IsSilent : List SystemCall → Type 0
IsSilent calls = answers_in calls ≡ []

-- reads of the socket of a number, each of which a signal interrupted
abbrev pub AreInterrupted : ℕ → List SystemCall → Type 0
AreInterrupted number [] = Unit {0}
AreInterrupted number (call ∷ before) = (call ≡ read number (Err Interrupted)) × AreInterrupted number before

-- A read of the socket of a number to which the system answered this. A read that a signal interrupts is made again,
-- and no other one.
pub record IsReadCall (number : ℕ) (answer : Result (List ℕ) ErrorKind) (calls : List SystemCall) : Type 0 where
  pub interrupted : List SystemCall
  pub are : calls ≡ read number answer ∷ interrupted
  pub again : AreInterrupted number interrupted

-- A read that failed: the system refused it, or a signal interrupted it each time. It is made 2^64 - 1 times at most.
abbrev pub IsFailedRead : ℕ → List SystemCall → Type 0
IsFailedRead number calls = ((kind : ErrorKind) × IsReadFault kind × IsReadCall number (Err kind) calls) ⊎ (AreInterrupted number calls × (2 ^ 64 - 1 ≤ length calls))

-- A read that found the end: the system gave no byte though there was room for one, or reset the stream.
abbrev pub IsReadEnd : ℕ → List ℕ → List SystemCall → Type 0
IsReadEnd number into calls = (IsReadCall number (Ok []) calls × (0 < length into)) ⊎ IsReadCall number (Err ConnectionReset) calls

-- What a stream answers to a read: the bytes are those that the system gave, of that socket. It ends if the system gave
-- no byte though there was room for one, or reset it.
abbrev pub IsStreamRead : ℕ → List ℕ → StreamRead → List SystemCall → Type 0
IsStreamRead number into (Bytes n) calls = IsReadCall number (Ok (take n into)) calls
IsStreamRead number into End calls = IsReadEnd number into calls
IsStreamRead number into Nothing calls = IsReadCall number (Err WouldBlock) calls
IsStreamRead number into Fault calls = IsFailedRead number calls

-- A read of a link: what the stream answers if the link has one. A link that has none isn't ready or fails, and the
-- system isn't asked.
abbrev pub IsRead : Bool → ℕ → List ℕ → Got → List SystemCall → Type 0
IsRead true number into (GotBytes n) calls = IsReadCall number (Ok (take n into)) calls
IsRead true number into Finished calls = IsReadEnd number into calls
IsRead true number into ReadNotReady calls = IsReadCall number (Err WouldBlock) calls
IsRead true number into ReadFailed calls = IsFailedRead number calls
IsRead false number into (GotBytes n) calls = ⊥
IsRead false number into Finished calls = ⊥
IsRead false number into ReadNotReady calls = calls ≡ []
IsRead false number into ReadFailed calls = calls ≡ []

-- the system was asked for bytes of a socket, and had none yet
abbrev pub IsPolled : ℕ → List SystemCall → Type 0
IsPolled number calls = IsReadCall number (Err WouldBlock) calls

-- what a link answers if its stream answers this
abbrev pub got_of : StreamRead → Got
got_of (Bytes n) = GotBytes n
got_of End = Finished
got_of Nothing = ReadNotReady
got_of Fault = ReadFailed

-- a write that was refused for this may be made again: there is no room, a signal interrupted it, or the peer closed
abbrev pub IsUntaken : ErrorKind → Type 0
IsUntaken kind = (kind ≡ WouldBlock) ⊎ ((kind ≡ Interrupted) ⊎ IsPeerGone kind)

-- a write that was refused for this may fail
abbrev pub IsLost : ErrorKind → Type 0
IsLost kind = (kind ≢ WouldBlock) × (kind ≢ Interrupted)

-- A write to a socket: the bytes that are counted are those that the system took, for that socket. A socket that has no
-- room is watched until there is room.
abbrev pub IsWrite : ℕ → List ℕ → Took → List SystemCall → Type 0
IsWrite number piece (TookBytes n) calls = calls ≡ write number (Ok (take n piece)) ∷ []
IsWrite number piece WriteNotReady calls = (calls ≡ []) ⊎ (((kind : ErrorKind) × IsUntaken kind × (calls ≡ write number (Err kind) ∷ [])) ⊎ (calls ≡ watch number true None ∷ write number (Err WouldBlock) ∷ []))
IsWrite number piece WriteFailed calls = (calls ≡ []) ⊎ ((calls ≡ write number (Ok []) ∷ []) ⊎ (((kind : ErrorKind) × IsLost kind × (calls ≡ write number (Err kind) ∷ []))
    ⊎ ((kind : ErrorKind) × (calls ≡ watch number true (Some kind) ∷ write number (Err WouldBlock) ∷ []))))

-- the system was asked at least once
abbrev pub IsAsked : List SystemCall → Type 0
IsAsked calls = 1 ≤ length calls

-- what a stream answers to a write
abbrev pub IsStreamWrite : ℕ → List ℕ → StreamWrite → List SystemCall → Type 0
IsStreamWrite number piece (WriteBytes n) calls = calls ≡ write number (Ok (take n piece)) ∷ []
IsStreamWrite number piece Full calls = calls ≡ write number (Err WouldBlock) ∷ []
IsStreamWrite number piece PeerClosed calls = (kind : ErrorKind) × IsPeerGone kind × (calls ≡ write number (Err kind) ∷ [])
IsStreamWrite number piece Again calls = calls ≡ write number (Err Interrupted) ∷ []
IsStreamWrite number piece WriteFault calls = (calls ≡ write number (Ok []) ∷ []) ⊎ ((kind : ErrorKind) × IsWriteFault kind × (calls ≡ write number (Err kind) ∷ []))

-- what a link answers to a write. Of one whose peer closed nothing was taken.
abbrev pub IsLinkWrite : ℕ → List ℕ → LinkWrite → List SystemCall → Type 0
IsLinkWrite number piece (LinkBytes n) calls = IsWrite number piece (TookBytes n) calls
IsLinkWrite number piece LinkNotReady calls = IsWrite number piece WriteNotReady calls
IsLinkWrite number piece LinkClosed calls = (kind : ErrorKind) × IsPeerGone kind × (calls ≡ write number (Err kind) ∷ [])
IsLinkWrite number piece LinkFailed calls = IsWrite number piece WriteFailed calls

-- a connect that was refused for this may be made again: there was no room, or a signal interrupted it
abbrev pub IsNoRoom : ErrorKind → Type 0
IsNoRoom kind = (kind ≡ WouldBlock) ⊎ (kind ≡ Interrupted)

-- one connect of the link of a number to a path: it is made, or put off since the system would have waited
abbrev pub IsConnected : ℕ → List ℕ → List SystemCall → Type 0
IsConnected number path calls = (calls ≡ connect number path None ∷ []) ⊎ ((calls ≡ connect number path (Some WouldBlock) ∷ []) ⊎ (calls ≡ connect number path (Some Interrupted) ∷ []))

-- .. by whether the link has a stream by it: it has one exactly if the system made the connect
abbrev pub IsMade : Bool → ℕ → List ℕ → List SystemCall → Type 0
IsMade true number path calls = calls ≡ connect number path None ∷ []
IsMade false number path calls = (kind : ErrorKind) × IsNoRoom kind × (calls ≡ connect number path (Some kind) ∷ [])

-- a connect that isn't to be made later: nothing was asked, or it was refused for something else than want of room
abbrev pub IsUnmade : ℕ → List ℕ → List SystemCall → Type 0
IsUnmade number path calls = (calls ≡ []) ⊎ ((kind : ErrorKind) × (IsNoRoom kind → ⊥) × (calls ≡ connect number path (Some kind) ∷ []))

-- A connect of the link of a number: to that path, once at most. It fails for an error of the system, and without a
-- call only if the path is empty or there is a link of that number (`taken`). Memory is refused before the call, or
-- after one that was made or put off.
abbrev pub IsConnect : ℕ → List ℕ → Bool → Result (Unit {0}) NetFault → List SystemCall → Type 0
IsConnect number path taken (Ok _) calls = IsConnected number path calls
IsConnect number path taken (Err FaultFailed) calls = ((calls ≡ []) × ((path ≡ []) ⊎ (taken ≡ true))) ⊎ ((kind : ErrorKind) × (calls ≡ connect number path (Some kind) ∷ []))
IsConnect number path taken (Err FaultMemory) calls = (calls ≡ []) ⊎ IsConnected number path calls

-- a link of a number is shut: its socket is closed, if it has one
abbrev pub IsShut : Bool → ℕ → List SystemCall → Type 0
IsShut true number calls = calls ≡ close number ∷ []
IsShut false number calls = calls ≡ []

-- the stream of a link is watched, if it has one
abbrev pub IsWatched : Bool → ℕ → Bool → Bool → List SystemCall → Type 0
IsWatched true number writable true calls = calls ≡ watch number writable None ∷ []
IsWatched true number writable false calls = (kind : ErrorKind) × (calls ≡ watch number writable (Some kind) ∷ [])
IsWatched false number writable true calls = calls ≡ []
IsWatched false number writable false calls = ⊥

-- room to write is awaited, unless it is awaited already or there is no stream
abbrev pub IsRoomAwaited : Bool → ℕ → LinkWrite → List SystemCall → Type 0
IsRoomAwaited true number LinkNotReady calls = calls ≡ watch number true None ∷ []
IsRoomAwaited true number LinkFailed calls = (kind : ErrorKind) × (calls ≡ watch number true (Some kind) ∷ [])
IsRoomAwaited true number (LinkBytes n) calls = ⊥
IsRoomAwaited true number LinkClosed calls = ⊥
IsRoomAwaited false number LinkNotReady calls = calls ≡ []
IsRoomAwaited false number LinkFailed calls = ⊥
IsRoomAwaited false number (LinkBytes n) calls = ⊥
IsRoomAwaited false number LinkClosed calls = ⊥

-- what a link's stream answers to a write, or a link that has none
abbrev pub IsConnectionWrite : ℕ → List ℕ → StreamWrite → List SystemCall → Type 0
IsConnectionWrite number piece (WriteBytes n) calls = calls ≡ write number (Ok (take n piece)) ∷ []
IsConnectionWrite number piece Full calls = calls ≡ write number (Err WouldBlock) ∷ []
IsConnectionWrite number piece PeerClosed calls = (kind : ErrorKind) × IsPeerGone kind × (calls ≡ write number (Err kind) ∷ [])
IsConnectionWrite number piece Again calls = (calls ≡ []) ⊎ (calls ≡ write number (Err Interrupted) ∷ [])
IsConnectionWrite number piece WriteFault calls = (calls ≡ []) ⊎ ((calls ≡ write number (Ok []) ∷ []) ⊎ ((kind : ErrorKind) × IsWriteFault kind × (calls ≡ write number (Err kind) ∷ [])))

-- a try to connect to this path again, as the link of this number, or no try yet
abbrev pub IsRetryOf : ℕ → List ℕ → List SystemCall → Type 0
IsRetryOf number path calls = (calls ≡ []) ⊎ ((fault : Option ErrorKind) × (calls ≡ connect number path fault ∷ []))

-- .. of a link's connection, which alone has a path while it isn't connected yet
abbrev pub IsRetryIn : {T : Type 0} → Connection T → List SystemCall → Type 0
IsRetryIn (Open stream) calls = calls ≡ []
IsRetryIn (Pending retry) calls = IsRetryOf retry.token (string_bytes retry.path) calls
IsRetryIn Failed calls = calls ≡ []

-- What a try to connect to a path again answers, if the time is known: it is made unless it isn't due. It is given up
-- only if it was refused for something else, or its time is over.
abbrev pub IsRetryBy : {T : Type 0} → Retry → Instant → Connected T → List SystemCall → Type 0
IsRetryBy retry now (ToStream stream) calls = calls ≡ connect retry.token (string_bytes retry.path) None ∷ []
IsRetryBy retry now NotDue calls = (calls ≡ []) × (instant_nanos now < instant_nanos retry.due)
IsRetryBy retry now NoRoom calls = (kind : ErrorKind) × IsNoRoom kind × (calls ≡ connect retry.token (string_bytes retry.path) (Some kind) ∷ [])
IsRetryBy retry now Before calls = ⊥
IsRetryBy retry now Refused calls = (kind : ErrorKind) × (IsNoRoom kind → instant_nanos retry.until ≤ instant_nanos now) × (calls ≡ connect retry.token (string_bytes retry.path) (Some kind) ∷ [])

-- .. of a link's connection. It fails without a call if the clock can't be read.
abbrev pub IsRetryAs : {T : Type 0} → Connection T → Option Instant → Connected T → List SystemCall → Type 0
IsRetryAs (Open stream) now result calls = calls ≡ []
IsRetryAs (Pending retry) (Some now) result calls = IsRetryBy retry now result calls
IsRetryAs (Pending retry) None result calls = (calls ≡ []) × (result ≡ Refused)
IsRetryAs Failed now result calls = calls ≡ []

-- .. and what it makes of the connection: it has a stream if the system connected it, is tried again later if it wasn't
-- due or there was no room, and fails if it is given up
abbrev pub IsAttempt : {T : Type 0} → Connection T → Option Instant → Connection T → List SystemCall → Type 0
IsAttempt (Open stream) now new calls = calls ≡ []
IsAttempt Failed now new calls = calls ≡ []
IsAttempt (Pending retry) None (Open stream) calls = ⊥
IsAttempt (Pending retry) None (Pending later) calls = ⊥
IsAttempt (Pending retry) None Failed calls = calls ≡ []
IsAttempt (Pending retry) (Some now) (Open stream) calls = IsRetryBy retry now (ToStream stream) calls
IsAttempt {T} (Pending retry) (Some now) (Pending later) calls = IsRetryBy {T = T} retry now NotDue calls ⊎ IsRetryBy {T = T} retry now NoRoom calls
IsAttempt {T} (Pending retry) (Some now) Failed calls = IsRetryBy {T = T} retry now Refused calls

-- .. and of a link. One that isn't there isn't tried.
abbrev pub IsAttemptOf : {T : Type 0} → Option (LinkSocket T) → Option Instant → Option (LinkSocket T) → List SystemCall → Type 0
IsAttemptOf None now new calls = calls ≡ []
IsAttemptOf (Some old) now None calls = ⊥
IsAttemptOf (Some old) now (Some new) calls = IsAttempt old.connection now new.connection calls

-- calls of this kind, and then the net's answer
abbrev pub IsAnswered : Entry → (List SystemCall → Type 0) → List SystemCall → Type 0
IsAnswered entry P calls = (asked : List SystemCall) × (calls ≡ answered entry ∷ asked) × P asked

-- what a link's stream is asked when the system reports it: it is watched for reading alone, or nothing is asked
abbrev pub IsNoted : ℕ → List SystemCall → Type 0
IsNoted number calls = (calls ≡ []) ⊎ ((fault : Option ErrorKind) × (calls ≡ watch number false fault ∷ []))

-- One call that is made for reports: a link of one of these numbers is watched for reading alone, or a connect to one
-- of these paths is tried again.
abbrev pub IsNoteCall : (ℕ → Type 0) → (ℕ → List ℕ → Type 0) → SystemCall → Type 0
IsNoteCall Own To (watch number true fault) = ⊥
IsNoteCall Own To (watch number false fault) = Own number
IsNoteCall Own To (connect number path fault) = To number path
IsNoteCall Own To (wait reports nanos fault) = ⊥
IsNoteCall Own To (bind number path fault) = ⊥
IsNoteCall Own To (await_clients number fault) = ⊥
IsNoteCall Own To (accept listener number fault) = ⊥
IsNoteCall Own To (read number answer) = ⊥
IsNoteCall Own To (write number answer) = ⊥
IsNoteCall Own To (close number) = ⊥
IsNoteCall Own To (identify path found) = ⊥
IsNoteCall Own To (remove path) = ⊥
IsNoteCall Own To (open_starter descriptor fault) = ⊥
IsNoteCall Own To (notify_starter fault) = ⊥
IsNoteCall Own To (answered entry) = ⊥

abbrev pub AreNoteCalls : (ℕ → Type 0) → (ℕ → List ℕ → Type 0) → List SystemCall → Type 0
AreNoteCalls Own To [] = Unit {0}
AreNoteCalls Own To (call ∷ before) = IsNoteCall Own To call × AreNoteCalls Own To before

-- one call that a wait makes: it waits, or notes what was reported
abbrev pub IsWaitCall : (ℕ → Type 0) → (ℕ → List ℕ → Type 0) → SystemCall → Type 0
IsWaitCall Own To call = (IsNoteCall Own To call) ⊎ ((reports : List Report) × (nanos : Option ℕ) × (fault : Option ErrorKind) × (call ≡ wait reports nanos fault))

abbrev pub AreWaitCalls : (ℕ → Type 0) → (ℕ → List ℕ → Type 0) → List SystemCall → Type 0
AreWaitCalls Own To [] = Unit {0}
AreWaitCalls Own To (call ∷ before) = IsWaitCall Own To call × AreWaitCalls Own To before

-- Whether a wait of the net failed, by the waits of the system: none of these failed, or the last one did. A system
-- that reports nothing that is to be named isn't asked more than 2^64 - 1 times.
abbrev pub IsFailure : Bool → List SystemCall → Type 0
IsFailure false calls = has_failed_wait calls ≡ false
IsFailure true calls = (has_failed_wait (take 1 calls) ≡ true) ⊎ (2 ^ 64 - 1 ≤ length calls)

-- Calls of a wait. The starter is known so before them and so after them, and the wait failed or not.
pub record AreWaits (Own : ℕ → Type 0) (To : ℕ → List ℕ → Type 0) (before after : Starter) (failed : Bool) (calls : List SystemCall) : Type 0 where
  pub each : AreWaitCalls Own To calls
  pub starter : after ≡ after_calls calls before
  pub failure : IsFailure failed calls

-- The calls of one turn: none if something is named, and else a wait and what is asked for its reports.
abbrev pub IsTurn : (ℕ → Type 0) → (ℕ → List ℕ → Type 0) → Starter → Starter → Turn → List SystemCall → Type 0
IsTurn Own To before after (Named ready) calls = (calls ≡ []) × (after ≡ before)
IsTurn Own To before after Ended calls = AreWaits Own To before after false calls
IsTurn Own To before after TurnFailed calls = AreWaits Own To before after true calls × (has_failed_wait (take 1 calls) ≡ true)
IsTurn Own To before after Again calls = AreWaits Own To before after false calls × (1 ≤ length calls)

-- the byte for the starter is written if it waits for it, and nothing else is asked
abbrev pub IsNotice : Starter → List SystemCall → Type 0
IsNotice Waiting calls = (fault : Option ErrorKind) × (calls ≡ notify_starter fault ∷ [])
IsNotice Absent calls = calls ≡ []
IsNotice Told calls = calls ≡ []
IsNotice Gone calls = calls ≡ []

-- .. and the starter is known so then
pub record IsNoticed (before after : Starter) (calls : List SystemCall) : Type 0 where
  pub notice : IsNotice before calls
  pub starter : after ≡ after_calls calls before

abbrev pub is_failed : Ready → Bool
is_failed (IsListener listener) = false
is_failed (IsLink link) = false
is_failed Quiet = false
is_failed WaitFailed = true

-- A wait of the net: the byte for the starter is written at first, if the starter waits for it.
pub record IsWait (Own : ℕ → Type 0) (To : ℕ → List ℕ → Type 0) (before after : Starter) (failed : Bool) (calls : List SystemCall) : Type 0 where
  pub notice : List SystemCall
  pub waits : List SystemCall
  pub are : calls ≡ waits ++ notice
  pub noticed : IsNotice before notice
  pub waited : AreWaits Own To (after_calls notice before) after failed waits

-- the pipe of a starter is opened, unless there is a starter already
abbrev pub IsOpened : Bool → ℕ → Result (Unit {0}) NetFault → List SystemCall → Type 0
IsOpened false descriptor (Ok _) calls = calls ≡ open_starter descriptor None ∷ []
IsOpened false descriptor (Err FaultFailed) calls = (kind : ErrorKind) × (calls ≡ open_starter descriptor (Some kind) ∷ [])
IsOpened false descriptor (Err FaultMemory) calls = ⊥
IsOpened true descriptor (Ok _) calls = ⊥
IsOpened true descriptor (Err FaultFailed) calls = calls ≡ []
IsOpened true descriptor (Err FaultMemory) calls = ⊥

-- A prepare: the pipe of the starter is opened, if one is named, and nothing else is asked. With no starter it
-- succeeds.
abbrev pub IsPrepare : Bool → Option ℕ → Result (Unit {0}) NetFault → List SystemCall → Type 0
IsPrepare present None (Ok _) calls = calls ≡ []
IsPrepare present None (Err fault) calls = ⊥
IsPrepare present (Some descriptor) result calls = IsOpened present descriptor result calls

-- the file that was made at a path is removed: what is there is looked at, and removed if it is that file
abbrev pub IsRemoval : List ℕ → FileIdentity → List SystemCall → Type 0
IsRemoval path made calls = (found : Option FoundFile) × (calls ≡ removal (has_identity made found) path ++ identify path found ∷ [])

-- the file that a bind made is removed, if it made one
abbrev pub IsFileRemoval : Option BoundFile → List SystemCall → Type 0
IsFileRemoval None calls = calls ≡ []
IsFileRemoval (Some file) calls = IsRemoval (string_bytes file.path) file.identity calls

-- the files that binds made are removed, one after the other, and nothing else is asked
abbrev pub AreRemovals : List (Option BoundFile) → List SystemCall → Type 0
AreRemovals [] calls = calls ≡ []
AreRemovals (file ∷ files) calls = (first : List SystemCall) × (later : List SystemCall) × (calls ≡ later ++ first) × IsFileRemoval file first × AreRemovals files later

-- what is at a path is looked at, if it is to be replaced, and removed if it is a socket or an empty regular file
abbrev pub IsClearing : Bool → List ℕ → List SystemCall → Type 0
IsClearing true path calls = (found : Option FoundFile) × (calls ≡ removal (is_replaceable found) path ++ identify path found ∷ [])
IsClearing false path calls = calls ≡ []

-- a bind to a path, which is cleared before
pub record IsBindCall (number : ℕ) (path : List ℕ) (replaces : Bool) (fault : Option ErrorKind) (calls : List SystemCall) : Type 0 where
  pub cleared : List SystemCall
  pub are : calls ≡ bind number path fault ∷ cleared
  pub clearing : IsClearing replaces path cleared

-- a bind to a path, unless that is empty
abbrev pub IsBind : {L : Type 0} → ℕ → List ℕ → Bool → Option L → List SystemCall → Type 0
IsBind number path replaces (Some _) calls = IsBindCall number path replaces None calls
IsBind number path replaces None calls = ((calls ≡ []) × (path ≡ [])) ⊎ ((kind : ErrorKind) × IsBindCall number path replaces (Some kind) calls)

-- clients of a listener are awaited, or can't be awaited, or memory for the listener was refused then
abbrev pub IsAwait : ℕ → Result ℕ NetFault → List SystemCall → Type 0
IsAwait number (Ok _) calls = calls ≡ await_clients number None ∷ []
IsAwait number (Err FaultFailed) calls = (kind : ErrorKind) × (calls ≡ await_clients number (Some kind) ∷ [])
IsAwait number (Err FaultMemory) calls = calls ≡ await_clients number None ∷ []

-- the file that a bind made is removed, if the system said which it is
abbrev pub IsMadeRemoval : List ℕ → Option FoundFile → List SystemCall → Type 0
IsMadeRemoval path None calls = calls ≡ []
IsMadeRemoval path (Some file) calls = IsRemoval path file.identity calls

-- .. if the listen failed
abbrev pub IsCleanUp : List ℕ → Option FoundFile → Result ℕ NetFault → List SystemCall → Type 0
IsCleanUp path found (Ok _) calls = calls ≡ []
IsCleanUp path found (Err _) calls = IsMadeRemoval path found calls

-- a socket is bound to a path, the file that this made is looked at, and clients are awaited
pub record IsBoundAndAwaited (number : ℕ) (path : List ℕ) (replaces : Bool) (found : Option FoundFile) (fault : Option ErrorKind) (calls : List SystemCall) : Type 0 where
  pub bound : List SystemCall
  pub are : calls ≡ await_clients number fault ∷ identify path found ∷ bound
  pub binding : IsBindCall number path replaces None bound

-- .. and the listener keeps the file that was found
abbrev pub IsFileKept : ℕ → List ℕ → Bool → Option BoundFile → List SystemCall → Type 0
IsFileKept number path replaces kept calls = (found : Option FoundFile) × IsBoundAndAwaited number path replaces found None calls
    × (option_map (λ (file : BoundFile). file.identity) kept ≡ option_map (λ (file : FoundFile). file.identity) found)

-- .. and the file is removed then
pub record IsUndone (number : ℕ) (path : List ℕ) (replaces : Bool) (fault : Option ErrorKind) (calls : List SystemCall) : Type 0 where
  pub found : Option FoundFile
  pub awaited : List SystemCall
  pub removed : List SystemCall
  pub are : calls ≡ removed ++ awaited
  pub awaiting : IsBoundAndAwaited number path replaces found fault awaited
  pub removing : IsMadeRemoval path found removed

-- A listen: what is at the path is removed if it is replaced, a socket is bound to the path, and its clients are
-- awaited. What was made is removed if the listen fails or is refused memory. It fails for an error of the system, for
-- an empty path, and if no number is left for a listener.
abbrev pub IsListen : ℕ → List ℕ → Bool → Result ℕ NetFault → List SystemCall → Type 0
IsListen number path replaces (Ok _) calls = (found : Option FoundFile) × IsBoundAndAwaited number path replaces found None calls
IsListen number path replaces (Err FaultFailed) calls = ((calls ≡ []) × ((path ≡ []) ⊎ (listeners_from + 2 ^ 32 ≤ number)))
    ⊎ (((kind : ErrorKind) × IsBindCall number path replaces (Some kind) calls) ⊎ ((kind : ErrorKind) × IsUndone number path replaces (Some kind) calls))
IsListen number path replaces (Err FaultMemory) calls = (calls ≡ []) ⊎ IsUndone number path replaces None calls

-- nobody waits at the listener of a number: the system would have waited, or a signal interrupted the accept
abbrev pub IsNobody : ℕ → ℕ → List SystemCall → Type 0
IsNobody listener number calls = (calls ≡ accept listener number (Some WouldBlock) ∷ []) ⊎ (calls ≡ accept listener number (Some Interrupted) ∷ [])

-- a client is taken at the listener of a number, as the stream of another number
abbrev pub IsArrival : {T : Type 0} → ℕ → ℕ → Arrival T → List SystemCall → Type 0
IsArrival listener number (Client _) calls = calls ≡ accept listener number None ∷ []
IsArrival listener number NobodyCame calls = IsNobody listener number calls
IsArrival listener number ArrivalFailed calls = (kind : ErrorKind) × (calls ≡ accept listener number (Some kind) ∷ [])

-- .. at the listener of a place, if there are `listeners` of them. It fails without a call only if there is none there.
abbrev pub IsArrivalAt : {T : Type 0} → ℕ → ℕ → ℕ → Arrival T → List SystemCall → Type 0
IsArrivalAt place listeners number (Client stream) calls = IsArrival (listeners_from + place) number (Client stream) calls
IsArrivalAt place listeners number NobodyCame calls = IsNobody (listeners_from + place) number calls
IsArrivalAt place listeners number ArrivalFailed calls = ((calls ≡ []) × (listeners ≤ place)) ⊎ ((kind : ErrorKind) × (calls ≡ accept (listeners_from + place) number (Some kind) ∷ []))

-- the number of the client link of the next session
abbrev pub next_client : ℕ → ℕ
next_client sessions = number_of (client_link (sessions + 1))

-- An accept at the listener of a place, with `listeners` and `sessions` made before: a client is taken there, as the
-- client link of the next session. It fails for an error of the system, and without a call only if there is no such
-- listener or no session number is left. Memory is refused before the call, or after a client was taken.
abbrev pub IsAccept : ℕ → ℕ → ℕ → Accepted → List SystemCall → Type 0
IsAccept place listeners sessions (New session) calls = calls ≡ accept (listeners_from + place) (number_of (client_link session)) None ∷ []
IsAccept place listeners sessions AcceptNotReady calls = IsNobody (listeners_from + place) (next_client sessions) calls
IsAccept place listeners sessions AcceptFailed calls = ((calls ≡ []) × ((listeners ≤ place) ⊎ (2 ^ 32 ≤ sessions + 1)))
    ⊎ ((kind : ErrorKind) × (calls ≡ accept (listeners_from + place) (next_client sessions) (Some kind) ∷ []))
IsAccept place listeners sessions Memory calls = (calls ≡ []) ⊎ (calls ≡ accept (listeners_from + place) (next_client sessions) None ∷ [])
