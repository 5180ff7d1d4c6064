use Rattle.std.proofs.Common.{ap, sym, ◌∙◌, arith}
use Rattle.dbus_types.specs.Scan.{fault_of_levels, step, outside_level}
use Rattle.dbus_types.proofs.ScanLoop.{fault_of_single}
use Rattle.dbus_types.proofs.PlainLaws.{plain_signature}
use Rattle.dbus_types.proofs.scan.fault_of.Goals as goal

pub returns-in-len1 : goal.returns-in-len1
returns-in-len1 c =
    c.fault_of_one.ensures
    ∙ ap (λ code. fault_of_levels (step code outside_level)) c.code_of.ensures
    ∙ fault_of_single c.args.bytes.now (omega arith)

pub returns-in_default-2 : goal.returns-in_default-2
returns-in_default-2 c = plain_signature c.args.bytes.now c.if-bytes-gt-LONGEST.false (sym c.is_plain.ensures ∙ c.if-is_plain.true)
