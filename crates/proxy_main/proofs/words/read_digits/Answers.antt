use Rattle.proxy_main.proofs.Numbers.{past_most}
use Rattle.proxy_main.proofs.words.read_digits.Goals as goal

pub returns-then-number-most-clause-number : goal.returns-then-number-most-clause-number
returns-then-number-most-clause-number c =
    past_most c.args.most c.args.digits.now c.loop-digit.digit-index c.loop-digit.number c.loop-digit-test.true c.loop-digit.invariant.1 c.if-number-most.true
