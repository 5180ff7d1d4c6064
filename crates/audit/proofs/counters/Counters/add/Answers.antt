use Rattle.std.proofs.Common.{◌+◌, ◌∙◌, ap, arith, get_or, length, subst, sym}
use Rattle.std.proofs.Math.ListN.{set}
use Rattle.audit.specs.Tallies.{Counts}
use Rattle.audit.proofs.Counted.{added-all, added-start, added-step, added_to}
use Rattle.audit.proofs.counters.Counters.add.Goals as goal

pub loop-place-init : goal.loop-place-init
loop-place-init c = λ len count counts. added-start len count c.args.other.now c.args.self.now counts

pub loop-place-preserved : goal.loop-place-preserved
loop-place-preserved c = λ len count counts.
    let so_far = c.loop-place.self in
    let place = c.loop-place.place in
    subst (λ xs. Counts len (added_to (place + 1) count c.args.other.now) xs) (sym (c.in_ok-add_at.ensures ∙ ap (λ more. set so_far place (get_or so_far place 0 + more)) c.get.ensures))
    (added-step len count c.args.other.now so_far place (c.loop-place.invariant len count counts))

pub returns : goal.returns
returns c = λ len count more one two.
    added-all len c.loop-place.place count more c.args.other.now c.loop-place.self (omega (arith, c.loop-place-test.false, c.len-place-end.ensures, one.len_is, ap length c.self.view_is))
    (c.loop-place.invariant len count one) two
