use Rattle.std.proofs.Common.{◌≡◌, ◌∙◌, Some, sym, arith, rules}
use Rattle.dbus_header.specs.Malformed.{fault}
use Rattle.dbus_header.proofs.WholeMessage.{fault_of_whole, fields_wrong, whole_by}
use Rattle.dbus_header.proofs.decoding.check_whole.Goals as goal

pub returns-in_err-find_places-clause-refusal : goal.returns-in_err-find_places-clause-refusal
returns-in_err-find_places-clause-refusal c =
    let whole = whole_by c.args.bytes.now (λ i. omega (arith, c.type_inv.bytes i)) c.requires.long (sym c.requires.head) (λ head. c.requires.whole) in
    let is : fault c.args.bytes.now ≡ Some c.in_err-find_places.field-0.0 =
    fault_of_whole c.args.bytes.now whole ∙ fields_wrong c.args.bytes.now c.in_err-find_places.field-0.0 c.in_err-find_places.ensures.refusal in
    search (rules, is)
