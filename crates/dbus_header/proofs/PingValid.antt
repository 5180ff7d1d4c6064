-- The proxy's ping is valid, whatever its serial.
use Rattle.std.proofs.Common.{ℕ, ◌^◌, ◌<◌, [], Some, refl, arith}
use Rattle.std.specs.Prelude.{codes}
use Rattle.std.specs.Str.{is_utf8, chars}
use Rattle.std.specs.Char.{encode_utf8}
use Rattle.dbus_header.specs.Message.{Message, Valid, spell}
use Rattle.dbus_header.proofs.Notation.{call, bus}

abbrev pub ping : ℕ → Message
ping n = call n (Some bus) (codes "/") (Some (codes "org.freedesktop.DBus.Peer")) (codes "Ping") []

pub ping_valid : (n : ℕ) → 0 < n → n < 2 ^ 32 → Valid (ping n)
unfolding spell is_utf8 chars encode_utf8
ping_valid n low high = record {
  kind = (omega arith, omega arith);
  flags = omega arith;
  serial = (low, high);
  field_values = refl;
  field_list = refl;
  fields_len = omega arith;
  required = refl;
  descriptors = refl;
  body_values = refl;
  agreement = refl;
  len = omega arith;
}
