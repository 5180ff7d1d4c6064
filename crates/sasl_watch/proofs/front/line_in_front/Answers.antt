use Rattle.std.proofs.Common.{arith}
use Rattle.sasl_watch.proofs.Cuts.{nothing_behind, last_byte, bad_byte, nothing_behind_ret, bad_last, bad_ending, whole_line}
use Rattle.sasl_watch.proofs.front.line_in_front.Goals as goal

pub returns-then-plain-left : goal.returns-then-plain-left
returns-then-plain-left c = nothing_behind c.args.left.now c.args.plain c.requires (omega arith)

pub returns-then-plain : goal.returns-then-plain
returns-then-plain c = last_byte c.args.left.now c.args.plain c.requires (omega arith) (omega arith)

pub returns-then-left-plain-ne13 : goal.returns-then-left-plain-ne13
returns-then-left-plain-ne13 c = bad_byte c.args.left.now c.args.plain c.requires (omega arith) (omega arith) c.if-left-plain-ne13.true

pub returns-then-at-left : goal.returns-then-at-left
returns-then-at-left c = nothing_behind_ret c.args.left.now c.args.plain c.requires (omega arith) (omega arith) c.if-left-plain-ne13.false (omega arith)

pub returns-then-left-at-eq10 : goal.returns-then-left-at-eq10
returns-then-left-at-eq10 c = whole_line c.args.left.now c.args.plain c.requires (omega arith) (omega arith) c.if-left-plain-ne13.false (omega arith) c.if-left-at-eq10.true

pub returns-then-at : goal.returns-then-at
returns-then-at c = bad_last c.args.left.now c.args.plain c.requires (omega arith) (omega arith) c.if-left-plain-ne13.false (omega arith) c.if-left-at-eq10.false (omega arith)

pub returns : goal.returns
returns c = bad_ending c.args.left.now c.args.plain c.requires (omega arith) (omega arith) c.if-left-plain-ne13.false (omega arith) c.if-left-at-eq10.false (omega arith)
