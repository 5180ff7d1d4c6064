use Rattle.std.proofs.Common.{List, ℕ, ◌-◌, ◌∙◌, drop, sym, ap, subst, arith}
use Rattle.byte_lists.proofs.Bytes.{AreBytes-drop, AreBytes-take}
use Rattle.byte_lists.specs.Bytes.{AreBytes}
use Rattle.dbus_header.specs.Message.{body_place}
use Rattle.dbus_header.specs.HeaderReading.{Found}
use Rattle.dbus_header.specs.KnownHeaders.{AllBeginIn, AreRead, AreWithin, found_at}
use Rattle.dbus_header.specs.Seen.{fields_seen}
use Rattle.dbus_header.proofs.KnownHeaders.{all_begin, number_in_bytes, read-found}
use Rattle.dbus_header.proofs.WholeMessage.{header_is_read}
use Rattle.dbus_header.proofs.decoding.read_header.Goals as goal

pub returns-then-not-is_header_end-clause-refusal : goal.returns-then-not-is_header_end-clause-refusal
returns-then-not-is_header_end-clause-refusal c = (header_is_read c.requires.order c.requires.len c.split_at.ensures.front c.read_fields-end.ensures.read c.is_header_end.ensures).wrong c.if-not-is_header_end.true

pub of-requires-clause-begins : goal.of-requires-clause-begins
of-requires-clause-begins c =
    subst (λ (b : List ℕ). AllBeginIn b c.read_fields-end.new.fields) (sym c.fields_bytes-own.ensures.bytes)
    (all_begin c.args.bytes.now c.split_at.result.0.now c.args.fields_len c.read_fields-end.new.fields c.requires.len c.split_at.ensures.front c.read_fields-end.ensures.begins)

pub of-requires-clause-number : goal.of-requires-clause-number
of-requires-clause-number c =
    let header = header_is_read c.requires.order c.requires.len c.split_at.ensures.front c.read_fields-end.ensures.read c.is_header_end.ensures in
    let read : AreRead c.args.order c.args.fields_len c.fields_bytes-own.result.now (fields_seen c.read_fields-end.new.fields) =
    subst (λ (b : List ℕ). AreRead c.args.order c.args.fields_len b (fields_seen c.read_fields-end.new.fields)) (sym c.fields_bytes-own.ensures.bytes)
    (read-found c.args.bytes.now c.args.order c.args.fields_len c.requires.order c.requires.len (fields_seen c.read_fields-end.new.fields) (header.sound c.if-not-is_header_end.false) (header.found_is c.if-not-is_header_end.false)) in
    let t = c.args.bytes.now in
    let are : AreBytes c.fields_bytes-own.result.now =
    subst AreBytes (sym c.fields_bytes-own.ensures.bytes) (AreBytes-take (body_place c.args.fields_len - 16) (drop 16 t) (AreBytes-drop 16 t (λ i. omega (arith, c.type_inv.bytes i)))) in
    number_in_bytes c.args.order c.args.fields_len c.fields_bytes-own.result.now (fields_seen c.read_fields-end.new.fields) are (omega (arith, c.fields_bytes-own.ensures.len)) read

pub keep_header-requires-clause-read : goal.keep_header-requires-clause-read
keep_header-requires-clause-read c =
    let header = header_is_read c.requires.order c.requires.len c.split_at.ensures.front c.read_fields-end.ensures.read c.is_header_end.ensures in
    subst (λ (x : Found). AreRead c.args.order c.args.fields_len c.fields_bytes-own.result.now x) (sym c.of.ensures.found)
    (subst (λ (b : List ℕ). AreRead c.args.order c.args.fields_len b (fields_seen c.read_fields-end.new.fields)) (sym c.fields_bytes-own.ensures.bytes)
    (read-found c.args.bytes.now c.args.order c.args.fields_len c.requires.order c.requires.len (fields_seen c.read_fields-end.new.fields) (header.sound c.if-not-is_header_end.false) (header.found_is c.if-not-is_header_end.false)))

pub returns-clause-refusal : goal.returns-clause-refusal
returns-clause-refusal c = (header_is_read c.requires.order c.requires.len c.split_at.ensures.front c.read_fields-end.ensures.read c.is_header_end.ensures).sound c.if-not-is_header_end.false

pub returns-clause-placed : goal.returns-clause-placed
returns-clause-placed c =
    let header = header_is_read c.requires.order c.requires.len c.split_at.ensures.front c.read_fields-end.ensures.read c.is_header_end.ensures in
    record {
      sound = sym (header.sound c.if-not-is_header_end.false);
      within = subst (λ (b : List ℕ). AreWithin b c.of.result) c.fields_bytes-own.ensures.bytes c.of.ensures.within;
      found = ap (λ (b : List ℕ). found_at c.args.order b c.of.result) (sym c.fields_bytes-own.ensures.bytes)
          ∙ c.of.ensures.found ∙ header.found_is c.if-not-is_header_end.false;
    }
