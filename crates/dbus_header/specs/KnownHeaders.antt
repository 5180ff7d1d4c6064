-- A header that was read and kept, and the places of its parts.
use Rattle.std.specs.Prelude.{◌≡◌, ◌≤◌, ◌<◌, ℕ, ◌+◌, ◌-◌, Bool, true, ◌&&◌, ◌||◌, nat_le, List, [], length, take, drop, Option, Some, None, option_map}
use Rattle.std.specs.Str.{is_utf8}
use Rattle.byte_lists.specs.Bytes.{AreBytes}
use Rattle.dbus_names.specs.Names.{is_empty}
use Rattle.dbus_types.specs.Signature.{signature_fault}
use Rattle.dbus_values.specs.Reading.{At, all_zero}
use Rattle.dbus_values.specs.declared.Order.{Order}
use Rattle.dbus_header.specs.Message.{Field, body_place}
use Rattle.dbus_header.specs.Malformed.{fields_at}
use Rattle.dbus_header.specs.HeaderReading.{Found, number_at}
use Rattle.dbus_header.specs.HeaderFields.{found_of}
use Rattle.dbus_types.specs.declared.signature.Signature.{Signature}
use Rattle.dbus_header.specs.declared.fields.Fields.{Fields}
use Rattle.dbus_header.specs.declared.fields.HeaderField.{HeaderField}
use Rattle.dbus_header.specs.declared.fields.HeaderField.TheVariants as header
use Rattle.dbus_header.specs.declared.spans.Span.{Span}
use Rattle.dbus_header.specs.declared.spans.Places.{Places}
use denote.Bor.{Bor}

-- ---- the bytes of the header fields, with the padding after them

abbrev pub fields_bytes : ℕ → List ℕ → List ℕ
fields_bytes n message = take (body_place n - 16) (drop 16 message)

abbrev pub fields_by : Order → ℕ → List ℕ → List Field × At
fields_by order n bytes = fields_at order n [] (record { place = 16; bytes = take n bytes })

-- the bytes are valid fields and then zeros, and this is what the fields hold
pub record AreRead (order : Order) (n : ℕ) (bytes : List ℕ) (found : Found) : Type 0 where
  pub sound : (is_empty (fields_by order n bytes).1.bytes && all_zero (drop n bytes)) ≡ true
  pub is : found ≡ found_of order (fields_by order n bytes).0

-- ---- the parts by their places

abbrev pub cut : List ℕ → Span → List ℕ
cut bytes s = take s.len (drop s.start bytes)

abbrev pub found_at : Order → List ℕ → Places → Found
found_at order bytes p = record {
  parts = record {
    path = option_map (cut bytes) p.path;
    interface = option_map (cut bytes) p.interface;
    member = option_map (cut bytes) p.member;
    error_name = option_map (cut bytes) p.error_name;
    reply_serial = option_map (number_at order bytes) p.reply_serial;
    destination = option_map (cut bytes) p.destination;
    sender = option_map (cut bytes) p.sender;
  };
  reply_place = option_map (λ at. 16 + at) p.reply_serial;
  unknown = p.has_unknown;
  signature = option_map (cut bytes) p.signature;
  descriptors = p.descriptors;
}

-- a part that doesn't overlap the four bytes of the number at a place
abbrev pub is_apart : Option ℕ → Span → Bool
is_apart None s = true
is_apart (Some at) s = nat_le (s.start + s.len) at || nat_le (at + 4) s.start

pub record HasText (bytes : List ℕ) (s : Span) : Type 0 where
  pub inside : s.start + s.len ≤ length bytes
  pub utf8 : is_utf8 (cut bytes s) ≡ true

pub record HasSignature (bytes : List ℕ) (s : Span) : Type 0 where
  pub inside : s.start + s.len ≤ length bytes
  pub valid : signature_fault (cut bytes s) ≡ None

-- the parts of a header are at the places
pub record AreWithin (bytes : List ℕ) (p : Places) : Type 0 where
  pub path : (s : Span) → p.path ≡ Some s → HasText bytes s
  pub interface : (s : Span) → p.interface ≡ Some s → HasText bytes s
  pub member : (s : Span) → p.member ≡ Some s → HasText bytes s
  pub error_name : (s : Span) → p.error_name ≡ Some s → HasText bytes s
  pub destination : (s : Span) → p.destination ≡ Some s → HasText bytes s
  pub sender : (s : Span) → p.sender ≡ Some s → HasText bytes s
  pub signature : (s : Span) → p.signature ≡ Some s → HasSignature bytes s
  pub number : (at : ℕ) → p.reply_serial ≡ Some at → at + 4 ≤ length bytes

-- none of them overlaps REPLY_SERIAL's number
pub record AreApart (p : Places) : Type 0 where
  pub path : (s : Span) → p.path ≡ Some s → is_apart p.reply_serial s ≡ true
  pub interface : (s : Span) → p.interface ≡ Some s → is_apart p.reply_serial s ≡ true
  pub member : (s : Span) → p.member ≡ Some s → is_apart p.reply_serial s ≡ true
  pub error_name : (s : Span) → p.error_name ≡ Some s → is_apart p.reply_serial s ≡ true
  pub destination : (s : Span) → p.destination ≡ Some s → is_apart p.reply_serial s ≡ true
  pub sender : (s : Span) → p.sender ≡ Some s → is_apart p.reply_serial s ≡ true
  pub signature : (s : Span) → p.signature ≡ Some s → is_apart p.reply_serial s ≡ true

-- the bytes are those of valid header fields, whose parts are at the places
pub record AreKnown (order : Order) (n : ℕ) (bytes : List ℕ) (p : Places) : Type 0 where
  pub are : AreBytes bytes
  pub len : length bytes + 16 ≡ body_place n
  pub read : AreRead order n bytes (found_at order bytes p)
  pub within : AreWithin bytes p
  pub apart : AreApart p

-- ---- the places of the texts of fields that were read

-- a text that begins at a place of the message, after the first sixteen bytes
pub record BeginsAt (message : List ℕ) (start : ℕ) (text : List ℕ) : Type 0 where
  pub low : 16 ≤ start
  pub inside : start + length text ≤ length message
  pub is : take (length text) (drop start message) ≡ text

abbrev pub Begins : List ℕ → HeaderField → Type 0
Begins message (header.Text code text start) = BeginsAt message start text.now
Begins message (header.Number code number) = Unit {0}
Begins message (header.Signed signature start) = BeginsAt message start signature.bytes.now
Begins message header.Unread = Unit {0}

-- a text that begins at a place of the message, of whose bytes only those of the fields are given
pub record BeginsIn (bytes : List ℕ) (start : ℕ) (text : List ℕ) : Type 0 where
  pub low : 16 ≤ start
  pub inside : start - 16 + length text ≤ length bytes
  pub is : take (length text) (drop (start - 16) bytes) ≡ text

abbrev pub OfText : (ℕ → List ℕ → Type 0) → ℕ → Option (Bor (List ℕ)) → Type 0
OfText P start None = Unit {0}
OfText P start (Some text) = P start text.now

abbrev pub OfSignature : (ℕ → List ℕ → Type 0) → ℕ → Option Signature → Type 0
OfSignature P start None = Unit {0}
OfSignature P start (Some signature) = P start signature.bytes.now

-- each text and the signature begins at its place
pub record OfEach (P : ℕ → List ℕ → Type 0) (f : Fields) : Type 0 where
  pub path : OfText P f.starts.path f.path
  pub interface : OfText P f.starts.interface f.interface
  pub member : OfText P f.starts.member f.member
  pub error_name : OfText P f.starts.error_name f.error_name
  pub destination : OfText P f.starts.destination f.destination
  pub sender : OfText P f.starts.sender f.sender
  pub signature : OfSignature P f.starts.signature f.signature

abbrev pub AllBeginAt : List ℕ → Fields → Type 0
AllBeginAt message f = OfEach (BeginsAt message) f

abbrev pub AllBeginIn : List ℕ → Fields → Type 0
AllBeginIn bytes f = OfEach (BeginsIn bytes) f

-- REPLY_SERIAL's number is at its place in the message
pub record NumberIn (order : Order) (bytes : List ℕ) (serial place : Option ℕ) : Type 0 where
  pub none : place ≡ None → serial ≡ None
  pub low : (p : ℕ) → place ≡ Some p → 16 ≤ p
  pub inside : (p : ℕ) → place ≡ Some p → p - 16 + 4 ≤ length bytes
  pub is : (p : ℕ) → place ≡ Some p → serial ≡ Some (number_at order bytes (p - 16))

-- ---- headers that are read as a kept one

-- the bytes are equal except for a number at the place, which isn't 0
abbrev pub AreAlike : Order → Option ℕ → List ℕ → List ℕ → Type 0
AreAlike order None kept bytes = kept ≡ bytes
AreAlike order (Some at) kept bytes = (take at kept ≡ take at bytes) × (drop (at + 4) kept ≡ drop (at + 4) bytes) × (0 < number_at order bytes at)
