-- The listeners and the files of a system in memory.
use Rattle.std.specs.Prelude.{ℕ, ◌≡◌, ◌+◌, ◌-◌, ◌^◌, ◌++◌, ◌&&◌, ◌||◌, not, min, nat_eq, nat_lt, bytes_eq, if◌then◌else◌, Bool, true, false, List, [], ◌∷◌, find, string_bytes, Option, Some, None, Result, Ok, Err}
use Rattle.std.specs.declared.io.ErrorKind.{ErrorKind}
use Rattle.std.specs.declared.io.ErrorKind.TheVariants.{AddrInUse, OutOfMemory}
use Rattle.proxy_net.specs.declared.bound_files.FileKind.{FileKind}
use Rattle.proxy_net.specs.declared.bound_files.FileKind.TheVariants.{Socket}
use Rattle.proxy_net.specs.declared.bound_files.FoundFile.{FoundFile}
use Rattle.memory_sockets.specs.declared.listeners.TheConstants.{OTHER_DEVICE}
use Rattle.memory_sockets.specs.declared.listeners.ListenerInMemory.{ListenerInMemory}
use Rattle.memory_sockets.specs.declared.listeners.FileInMemory.{FileInMemory}
use Rattle.memory_sockets.specs.declared.listeners.Listeners.{Listeners}

-- the file that the bind of a listener made is still there, at this path
abbrev pub is_bound_at : List ℕ → ListenerInMemory → Bool
is_bound_at path listener = listener.has_file && bytes_eq (string_bytes listener.path) path

-- a file that no bind made is there, at this path
abbrev pub is_file_at : List ℕ → FileInMemory → Bool
is_file_at path file = file.is_there && bytes_eq (string_bytes file.path) path

-- a client waits at a listener of this number
abbrev pub has_client : ℕ → ListenerInMemory → Bool
has_client number listener = nat_eq listener.number number && nat_lt 0 listener.waiting

-- the clients of a listener of this number are awaited
abbrev pub awaited : ℕ → ListenerInMemory → ListenerInMemory
awaited number listener = record listener { is_awaited = listener.is_awaited || nat_eq listener.number number }

-- one more client waits at a listener whose file is at this path, up to 2^32 - 1
abbrev pub reached : List ℕ → ListenerInMemory → ListenerInMemory
reached path listener = record listener { waiting = if is_bound_at path listener then min (listener.waiting + 1) (2 ^ 32 - 1) else listener.waiting }

-- a listener's file isn't there any more, if it was at this path
abbrev pub unlinked : List ℕ → ListenerInMemory → ListenerInMemory
unlinked path listener = record listener { has_file = listener.has_file && not (is_bound_at path listener) }

-- a file that no bind made isn't there any more, if it was at this path
abbrev pub removed : List ℕ → FileInMemory → FileInMemory
removed path file = record file { is_there = file.is_there && not (is_file_at path file) }

-- one client less waits at a listener
abbrev pub served : ListenerInMemory → ListenerInMemory
served listener = record listener { waiting = listener.waiting - 1 }

-- one client less waits at the first listener of this number at which one waits
abbrev pub taken : ℕ → List ListenerInMemory → List ListenerInMemory
taken number [] = []
taken number (listener ∷ later) = if has_client number listener then served listener ∷ later else listener ∷ taken number later

-- what is found of the file that a listener's bind made: the device 0 and the listener's number
abbrev pub bound_file : ListenerInMemory → FoundFile
bound_file listener = record { identity = record { device = 0; inode = listener.number }; kind = Socket }

-- what is found of the file at a place among those that no bind made
abbrev pub other_file : ℕ → FileInMemory → FoundFile
other_file place file = record { identity = record { device = OTHER_DEVICE; inode = place }; kind = file.kind }

-- the first of these files that is at a path, of which the first one has this place
abbrev pub found_from : List ℕ → ℕ → List FileInMemory → Option FoundFile
found_from path place [] = None
found_from path place (file ∷ later) = if is_file_at path file then Some (other_file place file) else found_from path (place + 1) later

-- the file of a bind, or else another one
abbrev pub bound_or : Option ListenerInMemory → Option FoundFile → Option FoundFile
bound_or (Some listener) other = Some (bound_file listener)
bound_or None other = other

-- the file at a path
abbrev pub found_in : List ℕ → Listeners → Option FoundFile
found_in path listeners = bound_or (find (is_bound_at path) listeners.listeners.items) (found_from path 0 listeners.files.items)

-- a listener was added that was just bound to a path
pub record IsBound (path : List ℕ) (number : ℕ) (old new : List ListenerInMemory) : Type 0 where
  pub made : ListenerInMemory
  pub are : new ≡ old ++ made ∷ []
  pub path_is : string_bytes made.path ≡ path
  pub fresh : made ≡ record made { number = number; has_file = true; is_awaited = false; waiting = 0 }

-- a file was added at a path
pub record IsAdded (path : List ℕ) (kind : FileKind) (old new : List FileInMemory) : Type 0 where
  pub made : FileInMemory
  pub are : new ≡ old ++ made ∷ []
  pub path_is : string_bytes made.path ≡ path
  pub fresh : made ≡ record made { kind = kind; is_there = true }

-- What a bind answers by the file that is at its path: a path with a file is refused, and another one only if memory
-- is.
abbrev pub IsBindAnswer : Option FoundFile → Result (Unit {0}) ErrorKind → Type 0
IsBindAnswer (Some file) answer = answer ≡ Err AddrInUse
IsBindAnswer None (Ok done) = Unit {0}
IsBindAnswer None (Err kind) = kind ≡ OutOfMemory
