use Rattle.own_calls.specs.Sending.{AreSent}
use Rattle.own_calls.proofs.PatternCalls.{calls_for_first}
use Rattle.own_calls.proofs.hello.after_hello.Given as goal

abbrev pub invariant-loop-index : goal.invariant-loop-index
invariant-loop-index l = AreSent (calls_for_first l.index l.policy.entries) l.initial.calls.items l.initial.serials l.initial.ledger l.calls.items l.serials l.ledger
