use Rattle.std.proofs.Common.{◌≡◌, ◌∙◌, Some, None, option_map, sym, ap, subst, arith}
use Rattle.dbus_header.specs.HeaderReading.{Found, part_at, with_part}
use Rattle.dbus_header.specs.Seen.{part_seen, end_seen, fields_seen}
use Rattle.dbus_header.proofs.HeaderFields.{Reached, at_start, at_none, at_refused, at_next, is_read}
use Rattle.dbus_header.proofs.KnownHeaders.{none_begin}
use Rattle.dbus_header.proofs.fields.read_fields.Goals as goal

pub loop-found-init : goal.loop-found-init
loop-found-init c = (
  subst (λ (f : Found). Reached c.args.order c.args.bytes.now f 16) (sym c.requires.none) (at_start c.args.order c.args.bytes.now c.requires.long),
  none_begin c.args.bytes.now c.args.fields.now c.requires.none,
)

pub returns-in-None-clause-read : goal.returns-in-None-clause-read
returns-in-None-clause-read c =
    at_none c.args.order c.args.bytes.now (fields_seen c.loop-found.fields) c.loop-found.place (λ i. omega (arith, c.type_inv.bytes i)) c.loop-found.invariant.0
    (sym c.read_field.ensures.part ∙ ap (option_map end_seen) c.in-None.is)

pub returns-then-not-put-clause-read : goal.returns-then-not-put-clause-read
returns-then-not-put-clause-read c =
    let read : part_at c.args.order c.args.bytes.now c.loop-found.place ≡ Some (end_seen c.in-Some.found) = sym c.read_field.ensures.part ∙ ap (option_map end_seen) c.in-Some.is in
    let refused : with_part (fields_seen c.loop-found.fields) c.loop-found.place (part_seen c.in-Some.found.0) ≡ None = sym c.if-not-put.ensures.part in
    at_refused c.args.order c.args.bytes.now (fields_seen c.loop-found.fields) c.loop-found.place (part_seen c.in-Some.found.0) c.in-Some.found.1 (λ i. omega (arith, c.type_inv.bytes i)) c.loop-found.invariant.0 read refused (fields_seen c.put.new.self)

pub loop-found-smaller : goal.loop-found-smaller
loop-found-smaller c =
    let read : part_at c.args.order c.args.bytes.now c.loop-found.place ≡ Some (end_seen c.in-Some.found) = sym c.read_field.ensures.part ∙ ap (option_map end_seen) c.in-Some.is in
    let x = is_read c.args.order c.args.bytes.now c.loop-found.place (part_seen c.in-Some.found.0) c.in-Some.found.1 (λ i. omega (arith, c.type_inv.bytes i)) c.loop-found.invariant.0.inside read in
    omega (arith, x.later, x.within)

pub loop-found-preserved : goal.loop-found-preserved
loop-found-preserved c =
    let read : part_at c.args.order c.args.bytes.now c.loop-found.place ≡ Some (end_seen c.in-Some.found) = sym c.read_field.ensures.part ∙ ap (option_map end_seen) c.in-Some.is in
    let put : with_part (fields_seen c.loop-found.fields) c.loop-found.place (part_seen c.in-Some.found.0) ≡ Some (fields_seen c.put.new.self) = sym c.if-not-put.ensures.part in (
      at_next c.args.order c.args.bytes.now (fields_seen c.loop-found.fields) (fields_seen c.put.new.self) c.loop-found.place (part_seen c.in-Some.found.0) c.in-Some.found.1 (λ i. omega (arith, c.type_inv.bytes i)) c.loop-found.invariant.0 read put,
      c.put.ensures.begins c.args.bytes.now c.loop-found.invariant.1 c.in-Some.ensures.begins,
    )

pub returns-then-not-put-clause-begins : goal.returns-then-not-put-clause-begins
returns-then-not-put-clause-begins c = c.put.ensures.begins c.args.bytes.now c.loop-found.invariant.1 c.in-Some.ensures.begins
