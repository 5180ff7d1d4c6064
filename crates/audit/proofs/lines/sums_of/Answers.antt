use Rattle.std.proofs.Common.{◌+◌, ◌∙◌, ◌∷◌, ap, arith, drop, sym}
use Rattle.std.proofs.lemmas.List.{drop_all, drop_more}
use Rattle.audit.proofs.Added.{summed-all, summed-start, summed-step}
use Rattle.audit.proofs.lines.sums_of.Goals as goal

pub loop-tally-init : goal.loop-tally-init
loop-tally-init c = λ recordings zipped. summed-start c.args.policy.now recordings c.args.tallies.now c.in_ok-sums.sums c.in_ok-sums.ensures zipped

pub loop-tally-preserved : goal.loop-tally-preserved
loop-tally-preserved c = λ recordings zipped.
    let tallies = c.args.tallies.now in
    let index = c.loop-tally.tally-index in
    let tally = c.tally-item.result in
    summed-step c.args.policy.now recordings tally (drop (index + 1) tallies) (drop index tallies) c.loop-tally.sums c.add.new.self
    (drop_more tallies index tally c.loop-tally-test.true ∙ ap (λ t. t ∷ drop (index + 1) tallies) (sym c.tally-item.is)) (c.loop-tally.invariant recordings zipped)
    (λ before notes so_far of. c.in_ok-add.ensures c.args.policy.now before notes so_far of.sums)

pub returns : goal.returns
returns c = λ recordings zipped.
    summed-all c.args.policy.now recordings (drop c.loop-tally.tally-index c.args.tallies.now) c.loop-tally.sums (drop_all c.loop-tally.tally-index c.args.tallies.now (omega (arith, c.loop-tally-test.false)))
    (c.loop-tally.invariant recordings zipped)
