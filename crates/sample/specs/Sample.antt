-- The sample: a recording of a session that a stated generator makes, with the policy under which it is played.
use Rattle.std.specs.Prelude.{ℕ, zero, suc, ◌+◌, ◌*◌, ◌/◌, ◌%◌, ◌^◌, ◌==◌, nat_lt, false, List, [], ◌∷◌, ◌++◌, codes, decimal, Option, Some, None, if◌then◌else◌}
use Rattle.dbus_types.specs.Signature.{uint32}
use Rattle.dbus_values.specs.Values.{Value, a_number, a_string, a_path}
use Rattle.dbus_values.specs.declared.Order.TheVariants.{Little}
use Rattle.dbus_header.specs.Message.{Message, spell}
use Rattle.dbus_names.specs.Names.{bus_name}
use Rattle.dbus_names.specs.Texts.{Text}
use Rattle.policy_view.specs.Own.{field, signed}
use Rattle.recording.specs.Recording.{Recording, Event, Bytes}
use Rattle.recording.specs.declared.Side.TheVariants.{Client, Bus}

-- ---- messages of one text at most

abbrev pub text : Text → List Value
text t = a_string t ∷ []

abbrev pub call : ℕ → Text → Text → Text → Text → List Value → Message
call serial destination path interface member body = record {
  order = Little;
  kind = 1;
  flags = 0;
  serial = serial;
  fields = field 1 (a_path path) ∷ field 2 (a_string interface) ∷ field 3 (a_string member) ∷ field 6 (a_string destination) ∷ signed body;
  body = body;
}

abbrev pub return : ℕ → ℕ → Text → Text → List Value → Message
return serial reply sender destination body = record {
  order = Little;
  kind = 2;
  flags = 1;
  serial = serial;
  fields = field 5 (a_number uint32 reply) ∷ field 6 (a_string destination) ∷ field 7 (a_string sender) ∷ signed body;
  body = body;
}

abbrev pub signal : ℕ → Text → Text → Text → Text → List Value → Message
signal serial sender path interface member body = record {
  order = Little;
  kind = 4;
  flags = 0;
  serial = serial;
  fields = field 1 (a_path path) ∷ field 2 (a_string interface) ∷ field 3 (a_string member) ∷ field 7 (a_string sender) ∷ signed body;
  body = body;
}

-- each message is a record of its own
abbrev pub from_client : Message → Event
from_client m = Bytes Client (spell m)

abbrev pub from_bus : Message → Event
from_bus m = Bytes Bus (spell m)

-- ---- the opening

abbrev pub own_id : Text
own_id = codes ":1.40"

-- Hello and its return, and the returns to the proxy's own calls: the match is added, and org.sample.A has an owner
abbrev pub opening : List Event
opening =
    from_client (call 1 bus_name (codes "/org/freedesktop/DBus") bus_name (codes "Hello") [])
    ∷ from_bus (return 1 1 bus_name own_id (text own_id))
    ∷ from_bus (return 2 2 bus_name own_id [])
    ∷ from_bus (return 3 3 bus_name own_id (text (codes ":1.5"))) ∷ []

-- ---- the draws

abbrev pub next_draw : ℕ → ℕ
next_draw x = (x * 1103515245 + 12345) % 2 ^ 31

abbrev pub kind_drawn : ℕ → ℕ
kind_drawn x = (x / 65536) % 4

abbrev pub echo : Text → ℕ → Text → Message
echo name serial t = call serial name (codes "/s") name (codes "Echo") (text t)

abbrev pub tick : Text → Text → ℕ → Text → Message
tick sender interface serial t = signal serial sender (codes "/s") interface (codes "Tick") (text t)

-- The client's message of a draw of a kind, with its serial: a call to a name that it may talk to, or to one that it
-- can't see; or none.
abbrev pub asked : ℕ → ℕ → Text → Option Message
asked kind serial t =
    if kind == 0 then Some (echo (codes "org.sample.A") serial t)
    else (if kind == 1 then Some (echo (codes "org.sample.B") serial t) else None)

-- The bus's message of a draw, with its serial: the answer to the call, at its place among the messages that the proxy
-- sends, or to the ping in the call's place; or a signal of either name's owner.
abbrev pub told : ℕ → ℕ → ℕ → Text → Message
told kind place serial t =
    if kind == 0 then return serial place (codes ":1.5") own_id (text t)
    else (if kind == 1 then return serial place bus_name own_id []
    else (if kind == 2 then tick (codes ":1.5") (codes "org.sample.A") serial t
    else tick (codes ":1.6") (codes "org.sample.B") serial t))

abbrev pub asked_event : Option Message → List Event
asked_event None = []
asked_event (Some m) = from_client m ∷ []

-- a draw of the first two kinds takes one of the client's serials
abbrev pub serial_behind : ℕ → ℕ → ℕ
serial_behind kind serial = if nat_lt kind 2 then serial + 1 else serial

-- a draw's events, with the next serial of either side; the client's messages go to the bus after the three of the
-- opening
abbrev pub drawn : ℕ → ℕ → ℕ → Text → List Event
drawn kind client_serial bus_serial t =
    asked_event (asked kind client_serial t) ++ from_bus (told kind (client_serial + 2) bus_serial t) ∷ []

-- this many draws after the number that was drawn last; the first of them has this index
abbrev pub draws : ℕ → ℕ → ℕ → ℕ → ℕ → List Event
draws zero i x client_serial bus_serial = []
draws (suc left) i x client_serial bus_serial =
    drawn (kind_drawn (next_draw x)) client_serial bus_serial (decimal i)
    ++ draws left (i + 1) (next_draw x) (serial_behind (kind_drawn (next_draw x)) client_serial) (bus_serial + 1)

-- ---- the sample

unfoldable pub sample : ℕ → ℕ → Recording
sample n seed = record { auth = false; events = opening ++ draws n 1 (seed % 2 ^ 31) 2 4 }
