use Rattle.std.proofs.Common.{◌∙◌, ℕ, drop, sym, ap, arith}
use Rattle.dbus_header.specs.Message.{body_place}
use Rattle.dbus_header.specs.HeaderReading.{number_at}
use Rattle.dbus_header.specs.KnownHeaders.{found_at}
use Rattle.dbus_values.specs.declared.Order.{Order}
use Rattle.dbus_header.proofs.NumberLaws.{reply_inside}
use Rattle.dbus_header.proofs.WholeMessage.{whole_by, contents_as}
use Rattle.dbus_header.proofs.decoding.assembled.Goals as goal

pub invariant_of-result : goal.invariant_of-result
invariant_of-result c =
    let t = c.args.bytes.now in
    let whole = whole_by t (λ i. omega (arith, c.type_inv.bytes i)) c.requires.long (sym c.requires.head) (λ head. c.requires.whole) in
    let number = ap (λ (o : Order). number_at o t 8) c.requires.order in
    let read = contents_as t (found_at c.args.order c.args.fields.now c.args.places.now) c.args.order c.read_u32.result c.stated.result.bytes.now c.split_at.result.1.now whole c.requires.parts
    c.requires.order (c.read_u32.ensures ∙ number) (c.stated.ensures c.args.order) (c.split_at.ensures.back ∙ ap (λ (k : ℕ). drop k t) (c.body_start-start.ensures ∙ ap body_place c.requires.len.stated)) in
    record {
      read = read;
      within = c.requires.within;
      long = c.requires.long;
      inside = λ number place. reply_inside t _ (λ i. omega (arith, c.type_inv.bytes i)) read number place;
    }
