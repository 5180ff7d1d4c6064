-- The texts of header fields are texts as values are: UTF-8 without NUL.
use Rattle.std.proofs.Common.{◌≡◌, ℕ, ◌<◌, ◌^◌, Bool, true, false, cond, List, length}
use Rattle.std.specs.Prelude.{◌==◌}
use Rattle.std.specs.List.{list_all}
use Rattle.std.specs.Str.{IsUtf8}
use Rattle.std.proofs.lemmas.Str.{IsUtf8-from_ascii}
use Rattle.dbus_names.specs.Names.{is_ascii_text_byte, is_path, is_interface, is_member, is_error_name, is_bus_name}
use Rattle.dbus_names.proofs.NameBytes.{is_path-ascii, is_interface-ascii, is_member-ascii, is_error_name-ascii, is_bus_name-ascii}
use Rattle.dbus_names.proofs.Texts.{is_ascii}
use Rattle.dbus_values.specs.Values.{is_text}
use Rattle.dbus_values.proofs.TextBytes.{ascii_is_text}
use Rattle.dbus_header.specs.HeaderReading.{is_text_of}

module _ (c : ℕ) (text : List ℕ) where
  abbrev All : Type 0
  All = list_all is_ascii_text_byte text ≡ true

  seven : (b : Bool) → cond b (is_bus_name text) false ≡ true → All
  seven true good = is_bus_name-ascii text good
  seven false good = absurd cc

  six : (b : Bool) → cond b (is_bus_name text) (cond (c == 7) (is_bus_name text) false) ≡ true → All
  six true good = is_bus_name-ascii text good
  six false good = seven (c == 7) good

  four : (b : Bool) → cond b (is_error_name text) (cond (c == 6) (is_bus_name text) (cond (c == 7) (is_bus_name text) false)) ≡ true → All
  four true good = is_error_name-ascii text good
  four false good = six (c == 6) good

  three : (b : Bool) → cond b (is_member text) (cond (c == 4) (is_error_name text) (cond (c == 6) (is_bus_name text) (cond (c == 7) (is_bus_name text) false))) ≡ true → All
  three true good = is_member-ascii text good
  three false good = four (c == 4) good

  two : (b : Bool) → cond b (is_interface text) (cond (c == 3) (is_member text) (cond (c == 4) (is_error_name text) (cond (c == 6) (is_bus_name text) (cond (c == 7) (is_bus_name text) false)))) ≡ true → All
  two true good = is_interface-ascii text good
  two false good = three (c == 3) good

  one : (b : Bool) → cond b (is_path text) (cond (c == 2) (is_interface text) (cond (c == 3) (is_member text) (cond (c == 4) (is_error_name text) (cond (c == 6) (is_bus_name text) (cond (c == 7) (is_bus_name text) false))))) ≡ true → All
  one true good = is_path-ascii text good
  one false good = two (c == 2) good

-- the names' bytes are ASCII, and none is NUL
pub ascii-of : (code : ℕ) (text : List ℕ) → is_text_of code text ≡ true → list_all is_ascii_text_byte text ≡ true
ascii-of code text e = one code text (code == 1) e

pub utf8_of : (code : ℕ) (text : List ℕ) → is_text_of code text ≡ true → IsUtf8 text
utf8_of code text e = IsUtf8-from_ascii text (is_ascii text (ascii-of code text e))

pub is_text-of : (code : ℕ) (text : List ℕ) → is_text_of code text ≡ true → length text < 2 ^ 32 → is_text text ≡ true
is_text-of code text e short = ascii_is_text text short (ascii-of code text e)
