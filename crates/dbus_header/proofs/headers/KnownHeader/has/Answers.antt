use Rattle.std.proofs.Common.{◌≡◌, ℕ, length, ap, subst, arith}
use Rattle.dbus_values.specs.declared.Order.{Order}
use Rattle.dbus_header.specs.Message.{body_place}
use Rattle.dbus_header.specs.KnownHeaders.{AreRead, found_at}
use Rattle.dbus_header.proofs.KnownHeaders.{alike_within, alike_read}
use Rattle.dbus_header.proofs.headers.KnownHeader.has.Goals as goal

pub returns-clause-within : goal.returns-clause-within
returns-clause-within c = λ yes.
    let known = c.args.self.now.known (c.is_header.ensures.some yes) in
    let len : length c.args.bytes.now ≡ length c.args.self.now.bytes.items = omega (arith, known.len, c.requires, ap body_place (c.is_header.ensures.len yes)) in
    alike_within c.args.self.now.order c.args.self.now.bytes.items c.args.bytes.now c.args.self.now.places known.within known.apart len (c.is_header.ensures.alike yes)

pub returns-clause-read : goal.returns-clause-read
returns-clause-read c = λ yes.
    let known = c.args.self.now.known (c.is_header.ensures.some yes) in
    let len : length c.args.bytes.now ≡ length c.args.self.now.bytes.items = omega (arith, known.len, c.requires, ap body_place (c.is_header.ensures.len yes)) in
    let read = alike_read c.args.self.now.order c.args.self.now.fields_len c.args.self.now.bytes.items c.args.bytes.now c.args.self.now.places known (λ i. omega (arith, c.type_inv.bytes i)) len (c.is_header.ensures.alike yes) in
    subst (λ (n : ℕ). AreRead c.args.order n c.args.bytes.now (found_at c.args.order c.args.bytes.now c.args.self.now.places)) (c.is_header.ensures.len yes)
    (subst (λ (o : Order). AreRead o c.args.self.now.fields_len c.args.bytes.now (found_at o c.args.bytes.now c.args.self.now.places)) (c.is_header.ensures.order yes) read)
