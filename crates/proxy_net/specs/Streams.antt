-- What it means to a link that the system refused a read or a write.
use Rattle.std.specs.Prelude.{ℕ, ◌≡◌, ◌≢◌, ◌⊎◌, Bool, true, Option, Some, None, Result, Ok, Err}
use Rattle.std.specs.declared.io.ErrorKind.{ErrorKind}
use Rattle.std.specs.declared.io.ErrorKind.TheVariants.{WouldBlock, Interrupted, ConnectionReset, BrokenPipe}
use Rattle.proxy_net.specs.declared.streams.StreamRead.{StreamRead}
use Rattle.proxy_net.specs.declared.streams.StreamRead.TheVariants.{Bytes, End, Nothing, Fault}
use Rattle.proxy_net.specs.declared.streams.StreamWrite.{StreamWrite}
use Rattle.proxy_net.specs.declared.streams.StreamWrite.TheVariants.{Bytes as WriteBytes, Full, PeerClosed, Again, Fault as WriteFault}

-- A read that was refused for this. It is none, and is made again, if a signal interrupted it.
pub record IsRefusedRead (kind : ErrorKind) (read : Option StreamRead) : Type 0 where
  pub nothing : kind ≡ WouldBlock → read ≡ Some Nothing
  pub again : kind ≡ Interrupted → read ≡ None
  pub reset : kind ≡ ConnectionReset → read ≡ Some End
  pub fault : kind ≢ WouldBlock → kind ≢ Interrupted → kind ≢ ConnectionReset → read ≡ Some Fault

-- A write that was refused for this.
pub record IsRefusedWrite (kind : ErrorKind) (write : StreamWrite) : Type 0 where
  pub full : kind ≡ WouldBlock → write ≡ Full
  pub again : kind ≡ Interrupted → write ≡ Again
  pub broken : kind ≡ BrokenPipe → write ≡ PeerClosed
  pub reset : kind ≡ ConnectionReset → write ≡ PeerClosed
  pub fault : kind ≢ WouldBlock → kind ≢ Interrupted → kind ≢ BrokenPipe → kind ≢ ConnectionReset → write ≡ WriteFault

-- a read that was refused for this fails
abbrev pub IsReadFault : ErrorKind → Type 0
IsReadFault kind = (kind ≢ WouldBlock) × (kind ≢ Interrupted) × (kind ≢ ConnectionReset)

-- a write that was refused for this found that the peer closed
abbrev pub IsPeerGone : ErrorKind → Type 0
IsPeerGone kind = (kind ≡ BrokenPipe) ⊎ (kind ≡ ConnectionReset)

-- a write that was refused for this fails
abbrev pub IsWriteFault : ErrorKind → Type 0
IsWriteFault kind = (kind ≢ WouldBlock) × (kind ≢ Interrupted) × (kind ≢ BrokenPipe) × (kind ≢ ConnectionReset)

-- the kind for which a read was refused that means this
abbrev pub IsRefusalRead : ErrorKind → Option StreamRead → Type 0
IsRefusalRead kind None = kind ≡ Interrupted
IsRefusalRead kind (Some (Bytes n)) = ⊥
IsRefusalRead kind (Some End) = kind ≡ ConnectionReset
IsRefusalRead kind (Some Nothing) = kind ≡ WouldBlock
IsRefusalRead kind (Some Fault) = IsReadFault kind

-- what a read that gave this number of bytes means, by whether there was room for one
abbrev pub IsGivenRead : Bool → ℕ → Option StreamRead → Type 0
IsGivenRead has_room given None = ⊥
IsGivenRead has_room given (Some (Bytes n)) = given ≡ n
IsGivenRead has_room given (Some End) = (given ≡ 0) × (has_room ≡ true)
IsGivenRead has_room given (Some Nothing) = ⊥
IsGivenRead has_room given (Some Fault) = ⊥

-- the answer of a read that means this
abbrev pub IsMeantRead : {E : Type 0} → (E → ErrorKind) → Bool → Result ℕ E → Option StreamRead → Type 0
IsMeantRead kind has_room (Ok given) read = IsGivenRead has_room given read
IsMeantRead kind has_room (Err error) read = IsRefusalRead (kind error) read

-- the kind for which a write was refused that means this
abbrev pub IsRefusalWrite : ErrorKind → StreamWrite → Type 0
IsRefusalWrite kind (WriteBytes n) = ⊥
IsRefusalWrite kind Full = kind ≡ WouldBlock
IsRefusalWrite kind PeerClosed = IsPeerGone kind
IsRefusalWrite kind Again = kind ≡ Interrupted
IsRefusalWrite kind WriteFault = IsWriteFault kind

-- what a write that took this number of bytes means
abbrev pub IsTakenWrite : ℕ → StreamWrite → Type 0
IsTakenWrite taken (WriteBytes n) = taken ≡ n
IsTakenWrite taken Full = ⊥
IsTakenWrite taken PeerClosed = ⊥
IsTakenWrite taken Again = ⊥
IsTakenWrite taken WriteFault = taken ≡ 0

-- the answer of a write that means this
abbrev pub IsMeantWrite : {E : Type 0} → (E → ErrorKind) → Result ℕ E → StreamWrite → Type 0
IsMeantWrite kind (Ok taken) write = IsTakenWrite taken write
IsMeantWrite kind (Err error) write = IsRefusalWrite (kind error) write
