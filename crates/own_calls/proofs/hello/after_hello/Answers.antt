use Rattle.std.proofs.Common.{true, false, arith, sym, ◌∙◌}
use Rattle.policy_view.specs.Sent.{own_calls}
use Rattle.serial_map.specs.Serials.{most_serials}
use Rattle.own_calls.specs.Sending.{AreSent}
use Rattle.own_calls.proofs.PatternCalls.{all-sent, cut_at_pattern, cut_behind_patterns, next-sent, serial-left, serials-left}
use Rattle.own_calls.proofs.SendingLaws.{none-sent, refused}
use Rattle.own_calls.proofs.hello.after_hello.Goals as goal

pub put_calls_for-requires : goal.put_calls_for-requires
put_calls_for-requires c =
    serials-left c.args.policy.now c.loop-index.index c.pattern.result.now c.args.serials.now c.loop-index.serials most_serials c.pattern.ensures c.loop-index.invariant.serials c.requires

pub loop-index-preserved : goal.loop-index-preserved
loop-index-preserved c = next-sent c.args.policy.now.entries c.loop-index.index c.pattern.result.now c.pattern.ensures c.loop-index.invariant c.in_ok-put_calls_for.ensures.sent

pub put_names-requires : goal.put_names-requires
put_names-requires c =
    serial-left c.args.policy.now c.loop-index.index c.args.serials.now c.loop-index.serials most_serials (omega arith) (sym c.if-has_subtree.true ∙ c.has_subtree.ensures) c.loop-index.invariant.serials c.requires

with-names : (c : goal.In_ok-put_names) →
    AreSent (own_calls c.args.policy.now) c.args.calls.now.items c.args.serials.now c.args.ledger.now c.put_names.new.calls.items c.put_names.new.serials c.put_names.new.ledger
with-names c = all-sent c.args.policy.now c.loop-index.index true (omega arith) (sym c.if-has_subtree.true ∙ c.has_subtree.ensures) c.loop-index.invariant c.in_ok-put_names.ensures.sent

pub returns-in_ok-put_names-clause-bytes : goal.returns-in_ok-put_names-clause-bytes
returns-in_ok-put_names-clause-bytes c = (with-names c).bytes

pub returns-in_ok-put_names-clause-serials : goal.returns-in_ok-put_names-clause-serials
returns-in_ok-put_names-clause-serials c = (with-names c).serials

pub returns-in_ok-put_names-clause-ledger : goal.returns-in_ok-put_names-clause-ledger
returns-in_ok-put_names-clause-ledger c = (with-names c).expected

without-names : (c : goal.Else-has_subtree) →
    AreSent (own_calls c.args.policy.now) c.args.calls.now.items c.args.serials.now c.args.ledger.now c.loop-index.calls.items c.loop-index.serials c.loop-index.ledger
without-names c =
    all-sent c.args.policy.now c.loop-index.index false (omega arith) (sym c.if-has_subtree.false ∙ c.has_subtree.ensures) c.loop-index.invariant
    (none-sent c.loop-index.calls.items c.loop-index.serials c.loop-index.ledger)

pub returns-else-has_subtree-clause-bytes : goal.returns-else-has_subtree-clause-bytes
returns-else-has_subtree-clause-bytes c = (without-names c).bytes

pub returns-else-has_subtree-clause-serials : goal.returns-else-has_subtree-clause-serials
returns-else-has_subtree-clause-serials c = (without-names c).serials

pub returns-else-has_subtree-clause-ledger : goal.returns-else-has_subtree-clause-ledger
returns-else-has_subtree-clause-ledger c = (without-names c).expected

pub returns-in_err-put_calls_for-clause-err : goal.returns-in_err-put_calls_for-clause-err
returns-in_err-put_calls_for-clause-err c =
    refused c.from_residual.result (cut_at_pattern c.args.policy.now c.loop-index.index c.pattern.result.now c.pattern.ensures c.loop-index.invariant c.in_err-put_calls_for.ensures.cut)

pub returns-in_err-put_names-clause-err : goal.returns-in_err-put_names-clause-err
returns-in_err-put_names-clause-err c =
    refused c.from_residual-in_err-put_names.result
    (cut_behind_patterns c.args.policy.now c.loop-index.index true (omega arith) (sym c.if-has_subtree.true ∙ c.has_subtree.ensures) c.loop-index.invariant c.in_err-put_names.ensures.cut)
