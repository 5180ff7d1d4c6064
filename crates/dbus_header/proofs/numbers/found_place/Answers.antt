use Rattle.std.proofs.Common.{◌≡◌, ◌∙◌, Some, None, sym, ap, arith}
use Rattle.dbus_header.specs.Refusals.{refusal}
use Rattle.dbus_header.proofs.NumberLaws.{is_whole, accepted}
use Rattle.dbus_header.proofs.numbers.found_place.Goals as goal

pub decode-requires-clause-long : goal.decode-requires-clause-long
decode-requires-clause-long c = (is_whole c.args.bytes.now (λ i. omega (arith, c.type_inv.bytes i)) c.requires).long

pub decode-requires-clause-whole : goal.decode-requires-clause-whole
decode-requires-clause-whole c = λ head. (is_whole c.args.bytes.now (λ i. omega (arith, c.type_inv.bytes i)) c.requires).exact

pub unreachable-requires : goal.unreachable-requires
unreachable-requires c =
    let refused : Some c.in-Err.field-0 ≡ None = ap refusal (sym c.in-Err.is) ∙ c.decode.ensures.refusal ∙ accepted c.args.bytes.now (λ i. omega (arith, c.type_inv.bytes i)) c.requires in
    cc
