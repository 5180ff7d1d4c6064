use Rattle.std.proofs.Common.{rules}
use Rattle.dbus_header.proofs.decoding.check_rest.Goals as goal

pub returns-in-Some : goal.returns-in-Some
returns-in-Some c =
    let required = c.has_required.ensures c.args.order c.args.fields.now in
    let stated = c.stated.ensures c.args.order in
    search (rules, required, stated)

pub returns-then-not-has_no_descriptors : goal.returns-then-not-has_no_descriptors
returns-then-not-has_no_descriptors c =
    let required = c.has_required.ensures c.args.order c.args.fields.now in
    let stated = c.stated.ensures c.args.order in
    search (rules, required, stated)

pub returns : goal.returns
returns c =
    let required = c.has_required.ensures c.args.order c.args.fields.now in
    let stated = c.stated.ensures c.args.order in
    search (rules, required, stated)
