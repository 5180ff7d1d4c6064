-- What a system was asked, and what it answered.
use Rattle.std.specs.List.{list_any}
use Rattle.std.specs.Prelude.{ℕ, ◌≡◌, ◌&&◌, nat_eq, bytes_eq, Bool, false, List, [], ◌∷◌, ◌++◌, take, is_some, Option, Some, None, Result, Ok, Err}
use Rattle.std.specs.declared.io.ErrorKind.{ErrorKind}
use Rattle.link_traits.specs.Entries.{Entry}
use Rattle.proxy_net.specs.declared.bound_files.FoundFile.{FoundFile}
use Rattle.proxy_net.specs.declared.reports.Report.{Report}

-- A call, with the number of its socket, its path or its bytes, and the kind of the fault for which it was refused. An
-- accept has the listener's number and that of the stream, an identify what it found, and the opening of the starter's
-- pipe the number of its descriptor. A wait has the nanoseconds for which it waits at most, or none if it waits without
-- end. What a net over the system answered is an entry of its own.
pub data SystemCall : Type 0 where
  bind : ℕ → List ℕ → Option ErrorKind → SystemCall
  await_clients : ℕ → Option ErrorKind → SystemCall
  accept : ℕ → ℕ → Option ErrorKind → SystemCall
  connect : ℕ → List ℕ → Option ErrorKind → SystemCall
  watch : ℕ → Bool → Option ErrorKind → SystemCall
  read : ℕ → Result (List ℕ) ErrorKind → SystemCall
  write : ℕ → Result (List ℕ) ErrorKind → SystemCall
  close : ℕ → SystemCall
  wait : List Report → Option ℕ → Option ErrorKind → SystemCall
  identify : List ℕ → Option FoundFile → SystemCall
  remove : List ℕ → SystemCall
  open_starter : ℕ → Option ErrorKind → SystemCall
  notify_starter : Option ErrorKind → SystemCall
  answered : Entry → SystemCall

-- a bind of the socket of a number to a path, which was made
abbrev pub is_bind : ℕ → List ℕ → SystemCall → Bool
is_bind number path (bind bound at None) = nat_eq bound number && bytes_eq at path
is_bind number path (bind bound at (Some kind)) = false
is_bind number path (await_clients listener fault) = false
is_bind number path (accept listener stream fault) = false
is_bind number path (connect link at fault) = false
is_bind number path (watch link writable fault) = false
is_bind number path (read link answer) = false
is_bind number path (write link answer) = false
is_bind number path (close link) = false
is_bind number path (wait reports nanos fault) = false
is_bind number path (identify at found) = false
is_bind number path (remove at) = false
is_bind number path (open_starter descriptor fault) = false
is_bind number path (notify_starter fault) = false
is_bind number path (answered entry) = false

-- the socket of a number was bound to a path
abbrev pub was_bound : ℕ → List ℕ → List SystemCall → Bool
was_bound number path calls = list_any (is_bind number path) calls

-- the kind of the error, if there is one
abbrev pub fault_of : {T E : Type 0} → (E → ErrorKind) → Result T E → Option ErrorKind
fault_of kind (Ok value) = None
fault_of kind (Err error) = Some (kind error)

-- a wait that was refused
abbrev pub is_failed_wait : SystemCall → Bool
is_failed_wait (wait reports nanos fault) = is_some fault
is_failed_wait (bind number path fault) = false
is_failed_wait (await_clients listener fault) = false
is_failed_wait (accept listener stream fault) = false
is_failed_wait (connect link path fault) = false
is_failed_wait (watch link writable fault) = false
is_failed_wait (read link answer) = false
is_failed_wait (write link answer) = false
is_failed_wait (close link) = false
is_failed_wait (identify path found) = false
is_failed_wait (remove path) = false
is_failed_wait (open_starter descriptor fault) = false
is_failed_wait (notify_starter fault) = false
is_failed_wait (answered entry) = false

-- a wait among these was refused
abbrev pub has_failed_wait : List SystemCall → Bool
has_failed_wait calls = list_any is_failed_wait calls

-- If the journal is still told, it was told before, and these calls were added. A system may cease to tell.
pub record Tells (old new : Option (List SystemCall)) (added : List SystemCall) : Type 0 where
  pub told : (after : List SystemCall) → new ≡ Some after → (before : List SystemCall) × (old ≡ Some before) × (after ≡ added ++ before)

-- A read is told with the bytes that it gave, or the kind of its error.
abbrev pub IsToldRead : {E : Type 0} → (E → ErrorKind) → ℕ → List ℕ → Result ℕ E → Option (List SystemCall) → Option (List SystemCall) → Type 0
IsToldRead kind number into (Ok n) old new = Tells old new (read number (Ok (take n into)) ∷ [])
IsToldRead kind number into (Err error) old new = Tells old new (read number (Err (kind error)) ∷ [])

-- A write is told with the bytes that it took, or the kind of its error.
abbrev pub IsToldWrite : {E : Type 0} → (E → ErrorKind) → ℕ → List ℕ → Result ℕ E → Option (List SystemCall) → Option (List SystemCall) → Type 0
IsToldWrite kind number piece (Ok n) old new = Tells old new (write number (Ok (take n piece)) ∷ [])
IsToldWrite kind number piece (Err error) old new = Tells old new (write number (Err (kind error)) ∷ [])
