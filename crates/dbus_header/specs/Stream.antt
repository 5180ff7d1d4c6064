-- The messages of a stream, and what is left after them.
use Rattle.std.specs.Prelude.{◌≡◌, ℕ, zero, suc, List, [], ◌∷◌, ◌++◌, length, Option, Some, None}
use Rattle.std.specs.List.{flat_map, AllByRecursion}
use Rattle.dbus_header.specs.Message.{Message, Valid, spell}
use Rattle.dbus_header.specs.Malformed.{fault, front}
use Rattle.dbus_header.specs.declared.Malformed.{Malformed}

-- the stream is these valid messages and then a rest that begins with none
pub record Splits (stream : List ℕ) (messages : List Message) (rest : List ℕ) : Type 0 where
  pub parts : stream ≡ flat_map spell messages ++ rest
  pub each : AllByRecursion Valid messages
  pub longest : (m : Message) (more : List ℕ) → Valid m → rest ≡ spell m ++ more → ⊥

abbrev pub more : {A : Type 0} → Option (A × List ℕ) → List ℕ → (List ℕ → List A × List ℕ) → List A × List ℕ
more None stream others = ([], stream)
more (Some x) stream others = let rest = others x.1 in (x.0 ∷ rest.0, rest.1)

-- what `front` reads from the start of a stream, at most this many times, and what follows
abbrev pub split_by : {A : Type 0} → (List ℕ → Option (A × List ℕ)) → ℕ → List ℕ → List A × List ℕ
split_by front zero stream = ([], stream)
split_by front (suc n) stream = more (front stream) stream (split_by front n)

-- each message has at least one byte, so the length is enough
unfoldable pub split : List ℕ → List Message × List ℕ
split stream = split_by front (length stream) stream

abbrev pub messages : List ℕ → List Message
messages stream = (split stream).0

abbrev pub rest : List ℕ → List ℕ
rest stream = (split stream).1

abbrev pub bad : List ℕ → Option Malformed
bad stream = fault (rest stream)
