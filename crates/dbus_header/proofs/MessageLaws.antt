-- A changed serial changes four bytes of the spelling.
use Rattle.std.proofs.Common.{◌≡◌, ℕ, List, ◌++◌, take, drop, refl}
use Rattle.std.specs.Int.{w32}
use Rattle.dbus_values.specs.Values.{Value, number_bytes}
use Rattle.dbus_header.specs.Message.{Field, Message, spell, with_serial}
use Rattle.dbus_values.specs.declared.Order.{Order}
use Rattle.dbus_values.specs.declared.Order.TheVariants.{Little, Big}

of_parts : (order : Order) (kind flags serial n : ℕ) (fields : List Field) (body : List Value) → let m : Message = record { order = order; kind = kind; flags = flags; serial = serial; fields = fields; body = body } in spell (with_serial n m) ≡ take 8 (spell m) ++ number_bytes order w32 n ++ drop 12 (spell m)
unfolding spell
of_parts Little kind flags serial n fields body = refl
of_parts Big kind flags serial n fields body = refl

pub spell-with_serial : (n : ℕ) (m : Message) → spell (with_serial n m) ≡ take 8 (spell m) ++ number_bytes m.order w32 n ++ drop 12 (spell m)
spell-with_serial n m = of_parts m.order m.kind m.flags m.serial n m.fields m.body
