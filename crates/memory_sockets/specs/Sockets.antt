-- What is still to be read of the sockets of a system in memory, and what was written to them.
use Rattle.std.specs.Prelude.{ℕ, ◌≡◌, ◌≢◌, List}
use Rattle.memory_sockets.specs.Streams.{coming_in, written_in}
use Rattle.memory_sockets.specs.declared.sockets.SocketsInMemory.{SocketsInMemory}

-- the next bytes of the script for the sockets of a number, whether they came or not
abbrev pub coming : SocketsInMemory → ℕ → List ℕ
coming system number = coming_in system.script.streams number

-- what was written to the sockets of a number, in order
abbrev pub written : SocketsInMemory → ℕ → List ℕ
written system number = written_in system.script.streams number

-- no byte of a socket was read or written
pub record KeepsBytes (old new : SocketsInMemory) : Type 0 where
  pub coming : (number : ℕ) → coming new number ≡ coming old number
  pub written : (number : ℕ) → written new number ≡ written old number

-- no byte of a socket of another number was read or written
pub record KeepsOtherBytes (number : ℕ) (old new : SocketsInMemory) : Type 0 where
  pub coming : (other : ℕ) → other ≢ number → coming new other ≡ coming old other
  pub written : (other : ℕ) → other ≢ number → written new other ≡ written old other
