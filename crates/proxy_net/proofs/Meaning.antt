-- What the answer of a system's read or write means to a link.
use Rattle.std.proofs.Common.{ℕ, ◌≡◌, ◌≤◌, ◌<◌, ◌+◌, ◌++◌, length, length-append, inl, inr, Bool, true, false, is_ok, List, [], ◌∷◌, Option, Some, None, Result, Ok, Err, refl, ap, subst, ◌∙◌, take, sym, arith}
use Rattle.std.specs.declared.io.ErrorKind.{ErrorKind}
use Rattle.std.specs.declared.io.ErrorKind.TheVariants.{WouldBlock, ConnectionReset}
use Rattle.proxy_net.specs.SystemCalls.{SystemCall, close, watch, read, write, fault_of, IsToldRead, IsToldWrite, Tells}
use Rattle.proxy_net.specs.Steps.{Steps, AreInterrupted, IsReadCall, IsRead, IsStreamRead, IsStreamWrite, IsConnectionWrite, IsAsked, IsWatched, IsShut, got_of}
use Rattle.proxy_net.specs.Streams.{IsMeantRead, IsMeantWrite}
use Rattle.proxy_net.specs.declared.streams.StreamRead.{StreamRead}
use Rattle.proxy_net.specs.declared.streams.StreamRead.TheVariants.{Bytes, End, Nothing, Fault}
use Rattle.proxy_net.specs.declared.streams.StreamWrite.{StreamWrite}
use Rattle.proxy_net.specs.declared.streams.StreamWrite.TheVariants.{Bytes as WriteBytes, Full, PeerClosed, Again, Fault as WriteFault}
use Rattle.proxy_net.specs.Connecting.{is_open}
use Rattle.proxy_net.specs.Registering.{is_registered_by}
use Rattle.link_traits.specs.declared.links.Got.TheVariants.{NotReady as ReadNotReady, Failed as ReadFailed}
use Rattle.proxy_net.specs.declared.link_sockets.Retry.{Retry}
use Rattle.proxy_net.specs.declared.link_sockets.Connection.{Connection}
use Rattle.proxy_net.specs.declared.link_sockets.Connection.TheVariants.{Open, Pending, Failed}
use Rattle.proxy_net.specs.declared.system.Numbered.{Numbered}
use Rattle.std.proofs.lemmas.Bool.Decides.{nat_tests}
use Rattle.proxy_net.proofs.Telling.{steps_none, steps_one, steps_weaker}

-- what a stream answers is what its link does
pub stream_read : (number : ℕ) (into : List ℕ) (meaning : StreamRead) (calls : List SystemCall) → IsStreamRead number into meaning calls → IsRead true number into (got_of meaning) calls
stream_read number into (Bytes n) calls is = is
stream_read number into End calls is = is
stream_read number into Nothing calls is = is
stream_read number into Fault calls is = is

-- .. if the link has that stream
pub open_read : {T : Type 0} (connection : Connection T) (stream : Numbered T) → connection ≡ Open stream → (number : ℕ) → is_registered_by number connection ≡ true → (into : List ℕ) (meaning : StreamRead) {old new : Option (List SystemCall)}
    → Steps (IsStreamRead stream.number into meaning) old new → Steps (IsRead (is_open connection) number into (got_of meaning)) old new
open_read (Open other) stream is number own into meaning {old = old} {new = new} s =
    let same : other ≡ stream = cc in
    let numbered : other.number ≡ number = grind (arith, nat_tests, own) in
    let from : stream.number ≡ other.number = ap (λ (x : Numbered _). x.number) (sym same) in
    subst (λ (n : ℕ). Steps (IsRead true n into (got_of meaning)) old new) (from ∙ numbered) (steps_weaker (stream_read stream.number into meaning) s)
open_read (Pending retry) stream is number own into meaning s = cc
open_read Failed stream is number own into meaning s = cc

-- .. and a link that has none reads nothing
pub pending_read : {T : Type 0} (connection : Connection T) (retry : Retry) → connection ≡ Pending retry → (number : ℕ) (into : List ℕ) (j : Option (List SystemCall)) → Steps (IsRead (is_open connection) number into ReadNotReady) j j
pending_read {T} connection retry is number into j = subst (λ (c : Connection T). Steps (IsRead (is_open c) number into ReadNotReady) j j) (sym is) (steps_none j refl)

pub failed_read : {T : Type 0} (connection : Connection T) → connection ≡ Failed → (number : ℕ) (into : List ℕ) (j : Option (List SystemCall)) → Steps (IsRead (is_open connection) number into ReadFailed) j j
failed_read {T} connection is number into j = subst (λ (c : Connection T). Steps (IsRead (is_open c) number into ReadFailed) j j) (sym is) (steps_none j refl)

-- a read that was made once
once_read : (number : ℕ) (answer : Result (List ℕ) ErrorKind) (calls : List SystemCall) → calls ≡ read number answer ∷ [] → IsReadCall number answer calls
once_read number answer calls is = record { interrupted = []; are = is; again = tt }

interrupted_append : (number : ℕ) (second first : List SystemCall) → AreInterrupted number second → AreInterrupted number first → AreInterrupted number (second ++ first)
interrupted_append number [] first p q = q
interrupted_append number (call ∷ second) first p q = (p.0, interrupted_append number second first p.1 q)

read_after : (number : ℕ) (answer : Result (List ℕ) ErrorKind) (first second : List SystemCall) → AreInterrupted number first → IsReadCall number answer second → IsReadCall number answer (second ++ first)
read_after number answer first second p q = record {
  interrupted = q.interrupted ++ first;
  are = ap (λ (calls : List SystemCall). calls ++ first) q.are;
  again = interrupted_append number q.interrupted first q.again p;
}

-- a stream that was read again
pub stream_after : (number : ℕ) (into : List ℕ) (meaning : StreamRead) (first second : List SystemCall) → AreInterrupted number first → IsStreamRead number into meaning second → IsStreamRead number into meaning (second ++ first)
stream_after number into (Bytes n) first second p q = read_after number (Ok (take n into)) first second p q
stream_after number into End first second p q = elim q [
  | inl ended ↦ inl (read_after number (Ok []) first second p ended.0, ended.1)
  | inr reset ↦ inr (read_after number (Err ConnectionReset) first second p reset)
]
stream_after number into Nothing first second p q = read_after number (Err WouldBlock) first second p q
stream_after number into Fault first second p q = elim q [
  | inl refused ↦ inl (refused.0, refused.1, read_after number (Err refused.0) first second p refused.2)
  | inr many ↦ inr (interrupted_append number second first many.0 p, omega (arith, many.1, length-append second first))
]

-- a read more that a signal interrupted
pub again_read : (number turns : ℕ) (first second : List SystemCall) → AreInterrupted number first × (turns ≤ length first) → AreInterrupted number second × (1 ≤ length second)
    → AreInterrupted number (second ++ first) × (turns + 1 ≤ length (second ++ first))
again_read number turns first second p q = (interrupted_append number second first q.0 p.0, omega (arith, p.1, q.1, length-append second first))

module _ {E : Type 0} (kind : E → ErrorKind) (number : ℕ) where
  pub read_told : (into : List ℕ) (has_room : Bool) → (has_room ≡ true → 0 < length into) → (answer : Result ℕ E) (meaning : StreamRead) {old new : Option (List SystemCall)} → IsToldRead kind number into answer old new → IsMeantRead kind has_room answer (Some meaning)
      → Steps (IsStreamRead number into meaning) old new
  read_told into has_room room (Ok n) (Bytes m) told meant = steps_one (read number (Ok (take n into)) ∷ []) told (once_read number (Ok (take m into)) _ (ap (λ (k : ℕ). read number (Ok (take k into)) ∷ []) meant))
  read_told into has_room room (Ok n) End told meant = steps_one (read number (Ok (take n into)) ∷ []) told (inl (once_read number (Ok []) _ (ap (λ (k : ℕ). read number (Ok (take k into)) ∷ []) meant.0), room meant.1))
  read_told into has_room room (Ok n) Nothing told meant = absurd meant
  read_told into has_room room (Ok n) Fault told meant = absurd meant
  read_told into has_room room (Err error) (Bytes m) told meant = absurd meant
  read_told into has_room room (Err error) End told meant = steps_one (read number (Err (kind error)) ∷ []) told (inr (once_read number (Err ConnectionReset) _ (ap (λ (k : ErrorKind). read number (Err k) ∷ []) meant)))
  read_told into has_room room (Err error) Nothing told meant = steps_one (read number (Err (kind error)) ∷ []) told (once_read number (Err WouldBlock) _ (ap (λ (k : ErrorKind). read number (Err k) ∷ []) meant))
  read_told into has_room room (Err error) Fault told meant = steps_one (read number (Err (kind error)) ∷ []) told (inl (kind error, meant, once_read number (Err (kind error)) _ refl))

  -- a read that is made again
  pub read_again : (into : List ℕ) (has_room : Bool) (answer : Result ℕ E) {old new : Option (List SystemCall)} → IsToldRead kind number into answer old new → IsMeantRead kind has_room answer None
      → Steps (λ (calls : List SystemCall). AreInterrupted number calls × (1 ≤ length calls)) old new
  read_again into has_room (Ok n) told meant = absurd meant
  read_again into has_room (Err error) told meant = steps_one (read number (Err (kind error)) ∷ []) told ((ap (λ (k : ErrorKind). read number (Err k)) meant, tt), omega arith)

  pub write_told : (piece : List ℕ) (answer : Result ℕ E) (meaning : StreamWrite) {old new : Option (List SystemCall)} → IsToldWrite kind number piece answer old new → IsMeantWrite kind answer meaning
      → Steps (IsStreamWrite number piece meaning) old new
  write_told piece (Ok n) (WriteBytes m) told meant = steps_one (write number (Ok (take n piece)) ∷ []) told (ap (λ (k : ℕ). write number (Ok (take k piece)) ∷ []) meant)
  write_told piece (Ok n) Full told meant = absurd meant
  write_told piece (Ok n) PeerClosed told meant = absurd meant
  write_told piece (Ok n) Again told meant = absurd meant
  write_told piece (Ok n) WriteFault told meant = steps_one (write number (Ok (take n piece)) ∷ []) told (inl (ap (λ (k : ℕ). write number (Ok (take k piece)) ∷ []) meant))
  write_told piece (Err error) (WriteBytes m) told meant = absurd meant
  write_told piece (Err error) Full told meant = steps_one (write number (Err (kind error)) ∷ []) told (ap (λ (k : ErrorKind). write number (Err k) ∷ []) meant)
  write_told piece (Err error) PeerClosed told meant = steps_one (write number (Err (kind error)) ∷ []) told (kind error, meant, refl)
  write_told piece (Err error) Again told meant = steps_one (write number (Err (kind error)) ∷ []) told (ap (λ (k : ErrorKind). write number (Err k) ∷ []) meant)
  write_told piece (Err error) WriteFault told meant = steps_one (write number (Err (kind error)) ∷ []) told (inr (kind error, meant, refl))

some_asked : {calls later : List SystemCall} {call : SystemCall} → calls ≡ call ∷ later → IsAsked calls
some_asked {later = later} {call = call} is = let some : 1 ≤ length (call ∷ later) = omega arith in subst (λ (c : List SystemCall). 1 ≤ length c) (sym is) some

-- a stream answers no write without a call
pub stream_asked : (number : ℕ) (piece : List ℕ) (meaning : StreamWrite) (calls : List SystemCall) → IsStreamWrite number piece meaning calls → IsAsked calls
stream_asked number piece (WriteBytes n) calls is = some_asked is
stream_asked number piece Full calls is = some_asked is
stream_asked number piece PeerClosed calls is = some_asked is.2
stream_asked number piece Again calls is = some_asked is
stream_asked number piece WriteFault calls is = elim is [ inl nothing ↦ some_asked nothing | inr refused ↦ some_asked refused.2 ]

-- .. nor after more calls
pub asked_more : (first second : List SystemCall) → IsAsked first → IsAsked (second ++ first)
asked_more first second asked = omega (arith, length-append second first, asked)

-- what the stream of a link answers to a write is what the link's connection answers
pub stream_writes : (number : ℕ) (piece : List ℕ) (write : StreamWrite) (calls : List SystemCall) → IsStreamWrite number piece write calls → IsConnectionWrite number piece write calls
stream_writes number piece (WriteBytes n) calls is = is
stream_writes number piece Full calls is = is
stream_writes number piece PeerClosed calls is = is
stream_writes number piece Again calls is = inr is
stream_writes number piece WriteFault calls is = inr is

-- a watch, by whether it was made
pub watch_told : {E : Type 0} (kind : E → ErrorKind) (number : ℕ) (writable : Bool) (answer : Result (Unit {0}) E) (made : Bool) {old new : Option (List SystemCall)} → Tells old new (watch number writable (fault_of kind answer) ∷ [])
    → made ≡ is_ok answer → Steps (IsWatched true number writable made) old new
watch_told kind number writable (Ok done) true told same = steps_one (watch number writable None ∷ []) told refl
watch_told kind number writable (Ok done) false told same = cc
watch_told kind number writable (Err error) true told same = cc
watch_told kind number writable (Err error) false told same = steps_one (watch number writable (Some (kind error)) ∷ []) told (kind error, refl)

-- a connection whose stream is watched ..
pub open_watched : {T : Type 0} (connection : Connection T) (stream : Numbered T) → connection ≡ Open stream → (number : ℕ) → is_registered_by number connection ≡ true → (writable made : Bool) {old new : Option (List SystemCall)}
    → Steps (IsWatched true stream.number writable made) old new → Steps (IsWatched (is_open connection) number writable made) old new
open_watched (Open other) stream is number own writable made {old = old} {new = new} s =
    let same : other ≡ stream = cc in
    let numbered : other.number ≡ number = grind (arith, nat_tests, own) in
    let from : stream.number ≡ other.number = ap (λ (x : Numbered _). x.number) (sym same) in
    subst (λ (n : ℕ). Steps (IsWatched true n writable made) old new) (from ∙ numbered) s
open_watched (Pending retry) stream is number own writable made s = cc
open_watched Failed stream is number own writable made s = cc

-- .. or closed
pub open_closed : {T : Type 0} (connection : Connection T) (stream : Numbered T) → connection ≡ Open stream → (number : ℕ) → is_registered_by number connection ≡ true → {old new : Option (List SystemCall)}
    → Tells old new (close stream.number ∷ []) → Steps (IsShut (is_open connection) number) old new
open_closed (Open other) stream is number own told =
    let same : other ≡ stream = cc in
    let numbered : other.number ≡ number = grind (arith, nat_tests, own) in
    let from : stream.number ≡ other.number = ap (λ (x : Numbered _). x.number) (sym same) in
    steps_one (close stream.number ∷ []) told (ap (λ (n : ℕ). close n ∷ []) (from ∙ numbered))
open_closed (Pending retry) stream is number own told = cc
open_closed Failed stream is number own told = cc
