use Rattle.std.proofs.Common.{◌∙◌, sym, ap, rules}
use Rattle.dbus_header.specs.Refusals.{refusal}
use Rattle.dbus_header.proofs.decoding.decode_knowing.Goals as goal
use Rattle.dbus_header.proofs.StreamLaws.{fault_of_head}

pub returns-in_err-check_head-clause-refusal : goal.returns-in_err-check_head-clause-refusal
returns-in_err-check_head-clause-refusal c = search (rules, fault_of_head c.args.bytes.now c.in_err-check_head.field-0.0 c.requires.long (sym c.check_head.ensures.refusal ∙ ap refusal c.in_err-check_head.was))
