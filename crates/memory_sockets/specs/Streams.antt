-- What is still to be read of the streams of a system in memory, and what was written to them.
use Rattle.std.specs.Prelude.{ℕ, ◌≡◌, ◌≢◌, nat_lt, Bool, true, false, List, [], drop, Option, Some, None}
use Rattle.std.specs.Ordering.{nat_cmp}
use Rattle.std.specs.BTreeMap as tree
use Rattle.proxy_net.specs.declared.reports.Report.{Report}
use Rattle.memory_sockets.specs.declared.streams.StreamInMemory.{StreamInMemory}
use Rattle.memory_sockets.specs.declared.streams.Streams.{Streams}

-- what the script has for a stream and wasn't read of it
abbrev pub coming_of : StreamInMemory → List ℕ
coming_of row = drop row.read row.bytes.items

abbrev pub written_of : StreamInMemory → List ℕ
written_of row = row.written.items

abbrev pub coming_at : Option StreamInMemory → List ℕ
coming_at None = []
coming_at (Some row) = coming_of row

abbrev pub written_at : Option StreamInMemory → List ℕ
written_at None = []
written_at (Some row) = written_of row

-- the next bytes of a number, whether they came or not
abbrev pub coming_in : Streams → ℕ → List ℕ
coming_in streams number = coming_at (tree.get nat_cmp streams.rows number)

abbrev pub has_more_at : Option StreamInMemory → Bool
has_more_at None = false
has_more_at (Some row) = nat_lt row.read row.came

-- bytes of a number came and weren't read
abbrev pub has_more_in : Streams → ℕ → Bool
has_more_in streams number = has_more_at (tree.get nat_cmp streams.rows number)

-- what was written to the sockets of a number, in order
abbrev pub written_in : Streams → ℕ → List ℕ
written_in streams number = written_at (tree.get nat_cmp streams.rows number)

pub record IsKept (old new : StreamInMemory) : Type 0 where
  pub coming : coming_of new ≡ coming_of old
  pub written : written_of new ≡ written_of old

-- no byte of a stream was read or written
pub record KeepsStreams (old new : Streams) : Type 0 where
  pub coming : (number : ℕ) → coming_in new number ≡ coming_in old number
  pub written : (number : ℕ) → written_in new number ≡ written_in old number

-- no byte of a stream of another number was read or written
pub record KeepsOthers (number : ℕ) (old new : Streams) : Type 0 where
  pub coming : (other : ℕ) → other ≢ number → coming_in new other ≡ coming_in old other
  pub written : (other : ℕ) → other ≢ number → written_in new other ≡ written_in old other

abbrev pub is_open_at : Option StreamInMemory → Bool
is_open_at None = false
is_open_at (Some row) = row.is_open

abbrev pub awaits_room_at : Option StreamInMemory → Bool
awaits_room_at None = false
awaits_room_at (Some row) = row.awaits_room

abbrev pub is_open_in : Streams → ℕ → Bool
is_open_in streams number = is_open_at (tree.get nat_cmp streams.rows number)

abbrev pub awaits_room_in : Streams → ℕ → Bool
awaits_room_in streams number = awaits_room_at (tree.get nat_cmp streams.rows number)

-- a report is of an open socket, and of room only if that is awaited
pub record IsWatched (streams : Streams) (report : Report) : Type 0 where
  pub is_open : is_open_in streams report.number ≡ true
  pub room : report.writable ≡ true → awaits_room_in streams report.number ≡ true

-- room is reported only of an open socket for which it is awaited
pub record IsRoomAwaited (streams : Streams) (report : Report) : Type 0 where
  pub is_open : report.writable ≡ true → is_open_in streams report.number ≡ true
  pub room : report.writable ≡ true → awaits_room_in streams report.number ≡ true

-- what is watched is the same
pub record KeepsWatches (old new : Streams) : Type 0 where
  pub is_open : (number : ℕ) → is_open_in new number ≡ is_open_in old number
  pub room : (number : ℕ) → awaits_room_in new number ≡ awaits_room_in old number
