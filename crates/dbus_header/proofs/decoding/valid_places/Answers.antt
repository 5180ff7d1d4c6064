use Rattle.std.proofs.Common.{◌≡◌, ◌∙◌, ℕ, List, Some, None, sym, ap, subst, arith}
use Rattle.byte_lists.specs.Bytes.{AreBytes}
use Rattle.dbus_header.specs.Malformed.{fault_in, whole}
use Rattle.dbus_header.specs.Refusals.{refusal}
use Rattle.dbus_header.specs.KnownHeaders.{AreRead, fields_bytes, found_at}
use Rattle.dbus_header.proofs.KnownHeaders.{found-read}
use Rattle.dbus_header.proofs.NumberLaws.{is_whole, accepted}
use Rattle.dbus_header.proofs.WholeMessage.{fault_of_whole, fields_wrong, has_parts}
use Rattle.dbus_header.proofs.decoding.valid_places.Goals as goal

pub unreachable-requires : goal.unreachable-requires
unreachable-requires c =
    let are : AreBytes c.args.bytes.now = λ i. omega (arith, c.type_inv.bytes i) in
    let t = c.args.bytes.now in
    let sound : fault_in (whole t) ≡ None = sym (fault_of_whole t (is_whole t are c.requires.valid)) ∙ accepted t are c.requires.valid in
    let wrong : fault_in (whole t) ≡ Some c.in-Err.field-0 = fields_wrong t c.in-Err.field-0 (ap refusal (sym c.in-Err.is) ∙ c.read_header.ensures.refusal) in
    cc

pub returns-clause-parts : goal.returns-clause-parts
returns-clause-parts c =
    let are : AreBytes c.args.bytes.now = λ i. omega (arith, c.type_inv.bytes i) in
    let t = c.args.bytes.now in
    has_parts t _ c.in-Ok.ensures.placed.found (sym (fault_of_whole t (is_whole t are c.requires.valid)) ∙ accepted t are c.requires.valid)

pub returns-in-Some-clause-parts : goal.returns-in-Some-clause-parts
returns-in-Some-clause-parts c =
    let are : AreBytes c.args.bytes.now = λ i. omega (arith, c.type_inv.bytes i) in
    let t = c.args.bytes.now in
    let n = c.args.fields_len in
    let read : AreRead c.args.order n (fields_bytes n t) (found_at c.args.order (fields_bytes n t) c.in-Some.found.now) =
    subst (λ (b : List ℕ). AreRead c.args.order n b (found_at c.args.order b c.in-Some.found.now)) c.fields_bytes.ensures.bytes c.in-Some.ensures.read in
    has_parts t _ (found-read t c.args.order n c.requires.order c.requires.len _ read).1
    (sym (fault_of_whole t (is_whole t are c.requires.valid)) ∙ accepted t are c.requires.valid)
