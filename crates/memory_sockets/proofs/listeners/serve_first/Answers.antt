use Rattle.std.proofs.Common.{◌∙◌, sym, arith}
use Rattle.memory_sockets.proofs.Changing.{none_more, one_here, taken_more, taken_here, taken_none}
use Rattle.memory_sockets.proofs.listeners.serve_first.Goals as goal

pub returns-then-has_client-clause-any : goal.returns-then-has_client-clause-any
returns-then-has_client-clause-any c =
    sym (one_here c.args.number c.loop-listener.listeners c.loop-listener.listener-index c.listener-item.result (omega arith) c.listener-item.is (sym c.has_client.ensures ∙ c.if-has_client.true))
    ∙ c.loop-listener.invariant.any

pub returns-then-has_client-clause-listeners : goal.returns-then-has_client-clause-listeners
returns-then-has_client-clause-listeners c =
    taken_here c.args.number c.loop-listener.listeners c.args.listeners.now c.loop-listener.listener-index c.listener-item.result c.serve.new.self (omega arith) c.listener-item.is c.serve.ensures
    (sym c.has_client.ensures ∙ c.if-has_client.true) c.loop-listener.invariant.items

pub returns-clause-listeners : goal.returns-clause-listeners
returns-clause-listeners c = taken_none c.args.number c.loop-listener.listeners c.args.listeners.now c.loop-listener.listener-index (omega arith) c.loop-listener.invariant.items

pub loop-listener-preserved : goal.loop-listener-preserved
loop-listener-preserved c = record {
  any = none_more c.args.number c.loop-listener.listeners c.loop-listener.listener-index c.listener-item.result (omega arith) c.listener-item.is (sym c.has_client.ensures ∙ c.if-has_client.false)
      ∙ c.loop-listener.invariant.any;
  items = taken_more c.args.number c.loop-listener.listeners c.args.listeners.now c.loop-listener.listener-index c.listener-item.result (omega arith) c.listener-item.is (sym c.has_client.ensures ∙ c.if-has_client.false)
      c.loop-listener.invariant.items;
}
