-- The journal that the notes of a system in memory are.
use Rattle.std.specs.Prelude.{ℕ, Bool, true, false, List, [], ◌∷◌, reverse, Option, Some, None, Result, Ok, Err}
use Rattle.std.specs.declared.io.ErrorKind.{ErrorKind}
use Rattle.proxy_net.specs.Answers.{entry_of}
use Rattle.proxy_net.specs.Delays.{nanos_of}
use Rattle.proxy_net.specs.SystemCalls.{SystemCall, bind, await_clients, accept, connect, watch, read, write, close, wait, identify, remove, open_starter, notify_starter, answered}
use Rattle.proxy_net.specs.declared.reports.Report.{Report}
use Rattle.memory_sockets.specs.declared.notes.Note.{Note}
use Rattle.memory_sockets.specs.declared.notes.Note.TheVariants.{Bind, AwaitClients, Accept, Connect, Watch, Read, Write, Close, Wait, Identify, Remove, OpenStarter, NotifyStarter, Answered}
use Rattle.memory_sockets.specs.declared.notes.Noted.{Noted}
use Rattle.memory_sockets.specs.declared.notes.CallNotes.{CallNotes}

-- these bytes, unless a call was refused
abbrev pub given : Option ErrorKind → List ℕ → Result (List ℕ) ErrorKind
given None bytes = Ok bytes
given (Some kind) bytes = Err kind

-- the call of a note
abbrev pub call_of : Note → List ℕ → List Report → SystemCall
call_of (Bind number fault) path reports = bind number path fault
call_of (AwaitClients number fault) bytes reports = await_clients number fault
call_of (Accept listener number fault) bytes reports = accept listener number fault
call_of (Connect number fault) path reports = connect number path fault
call_of (Watch number writable fault) bytes reports = watch number writable fault
call_of (Read number fault) bytes reports = read number (given fault bytes)
call_of (Write number fault) bytes reports = write number (given fault bytes)
call_of (Close number) bytes reports = close number
call_of (Wait timeout fault) bytes reports = wait reports (nanos_of timeout) fault
call_of (Identify found) path reports = identify path found
call_of Remove path reports = remove path
call_of (OpenStarter descriptor fault) bytes reports = open_starter descriptor fault
call_of (NotifyStarter fault) bytes reports = notify_starter fault
call_of (Answered answer) bytes reports = answered (entry_of answer bytes)

-- the calls of notes, in their order
abbrev pub calls_of : List Noted → List SystemCall
calls_of [] = []
calls_of (noted ∷ later) = call_of noted.note noted.bytes.items noted.reports.items ∷ calls_of later

-- the calls that were noted, the newest first
abbrev pub calls_in : CallNotes → List SystemCall
calls_in notes = reverse (calls_of notes.calls.items)

abbrev pub journal_if : Bool → List SystemCall → Option (List SystemCall)
journal_if true calls = Some calls
journal_if false calls = None

-- the journal, as long as it is told
abbrev pub told_in : CallNotes → Option (List SystemCall)
told_in notes = journal_if notes.tells (calls_in notes)
