use Rattle.std.proofs.Common.{◌≡◌, ◌∙◌, ℕ, Bool, Option, Some, None, cond, sym, ap, length, arith}
use Rattle.std.proofs.lemmas.Bool.{eq-eqb, ne_eqb}
use Rattle.dbus_header.proofs.WholeMessage.{fault_of_end, fault_of_bad, fault_inside}
use Rattle.dbus_header.proofs.decoding.body_fault.Goals as goal

abbrev none : Option ℕ
none = None

pub returns-in-Ok-clause-fault : goal.returns-in-Ok-clause-fault
returns-in-Ok-clause-fault c = λ types is.
    let there : c.in-Ok.end ≡ length c.args.bytes.now = omega (arith, c.if-end-bytes.true) in
    ap (λ (b : Bool). cond b none (Some c.in-Ok.end)) (sym (eq-eqb c.in-Ok.end (length c.args.bytes.now) there))
    ∙ fault_of_end c.args.order c.args.signature.bytes.now c.args.bytes.now c.args.start (λ i. omega (arith, c.type_inv.bytes i)) c.requires c.args.signature.valid types c.in-Ok.end is (sym (c.value_end.ensures types is) ∙ c.in-Ok.is)

pub returns-in-Ok-2-clause-fault : goal.returns-in-Ok-2-clause-fault
returns-in-Ok-2-clause-fault c = λ types is.
    ap (λ (b : Bool). cond b none (Some c.in-Ok.end)) (sym (ne_eqb c.in-Ok.end (length c.args.bytes.now) (λ e. absurd (omega (arith, c.if-end-bytes.false, e)))))
    ∙ fault_of_end c.args.order c.args.signature.bytes.now c.args.bytes.now c.args.start (λ i. omega (arith, c.type_inv.bytes i)) c.requires c.args.signature.valid types c.in-Ok.end is (sym (c.value_end.ensures types is) ∙ c.in-Ok.is)

pub returns-in-Ok-2-clause-inside : goal.returns-in-Ok-2-clause-inside
returns-in-Ok-2-clause-inside c =
    fault_inside c.args.order c.args.signature.bytes.now c.args.bytes.now c.args.start (λ i. omega (arith, c.type_inv.bytes i)) c.requires c.args.signature.valid (Some c.in-Ok.end) (returns-in-Ok-2-clause-fault c)

pub returns-in-Err-clause-fault : goal.returns-in-Err-clause-fault
returns-in-Err-clause-fault c = λ types is.
    fault_of_bad c.args.order c.args.signature.bytes.now c.args.bytes.now c.args.start (λ i. omega (arith, c.type_inv.bytes i)) c.requires c.args.signature.valid types c.in-Err.bad is (sym (c.value_end.ensures types is) ∙ c.in-Err.is)

pub returns-in-Err-clause-inside : goal.returns-in-Err-clause-inside
returns-in-Err-clause-inside c =
    fault_inside c.args.order c.args.signature.bytes.now c.args.bytes.now c.args.start (λ i. omega (arith, c.type_inv.bytes i)) c.requires c.args.signature.valid (Some c.in-Err.bad.at) (returns-in-Err-clause-fault c)
