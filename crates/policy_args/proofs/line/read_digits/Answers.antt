use Rattle.std.proofs.Common.{◌∙◌, sym, arith}
use Rattle.policy_args.proofs.Numbers.{worth-next, worth-past, worth-end, digits-next}
use Rattle.policy_args.proofs.line.read_digits.Goals as goal

pub overflow_mul-number : goal.overflow_mul-number
overflow_mul-number c = let small = c.loop-digit.invariant.0 in omega (arith, small)

pub overflow_add-number : goal.overflow_add-number
overflow_add-number c = let small = c.loop-digit.invariant.0 in let byte = c.type_inv.digits c.loop-digit.digit-index in omega (arith, small, byte)

pub returns-then-number-most : goal.returns-then-number-most
returns-then-number-most c =
    worth-past c.args.digits.now c.loop-digit.digit-index c.loop-digit.number c.loop-digit-test.true c.loop-digit.invariant.1 c.args.most c.if-number-most.true

pub loop-digit-preserved : goal.loop-digit-preserved
loop-digit-preserved c = (
  c.if-number-most.false,
  worth-next c.args.digits.now c.loop-digit.digit-index c.loop-digit.number c.loop-digit-test.true c.loop-digit.invariant.1,
  digits-next c.args.digits.now c.loop-digit.digit-index c.loop-digit-test.true (sym c.is_ascii_digit.ensures.value ∙ c.if-not-is_ascii_digit.false) c.loop-digit.invariant.2,
)

pub returns : goal.returns
returns c = worth-end c.args.most c.args.digits.now c.loop-digit.digit-index c.loop-digit.number c.loop-digit-test.false c.loop-digit.invariant.0 c.loop-digit.invariant.1 c.loop-digit.invariant.2
