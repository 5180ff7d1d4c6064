use Rattle.std.proofs.Common.{◌++◌, ◌∷◌, [], List, ℕ, ap, sym, ◌∙◌, append_assoc}
use Rattle.proxy_net.proofs.Dues.{one_due, not_due}
use Rattle.proxy_net.proofs.sockets.SocketSet.next_due.Goals as goal

pub loop-number-preserved-in-Some-due : goal.loop-number-preserved-in-Some-due
loop-number-preserved-in-Some-due g c = record {
  passed = c.loop-number.invariant.passed ++ c.in-Some.number.now ∷ [];
  split = c.loop-number.invariant.split ∙ ap (λ (l : List ℕ). c.loop-number.invariant.passed ++ l) c.in-Some.ensures.steps
      ∙ sym (append_assoc c.loop-number.invariant.passed (c.in-Some.number.now ∷ []) (c.next.new.self.head.now ++ c.next.new.self.wrapped.now));
  due = one_due c.args.self.now c.loop-number.invariant.passed c.in-Some.number.now c.loop-number.next c.in-Some-due.due c.earlier.result c.loop-number.invariant.due
      (sym c.due.ensures ∙ c.in-Some-due.is) c.earlier.ensures.time c.earlier.ensures.other c.earlier.ensures.one;
}

pub loop-number-preserved : goal.loop-number-preserved
loop-number-preserved g c = record {
  passed = c.loop-number.invariant.passed ++ c.in-Some.number.now ∷ [];
  split = c.loop-number.invariant.split ∙ ap (λ (l : List ℕ). c.loop-number.invariant.passed ++ l) c.in-Some.ensures.steps
      ∙ sym (append_assoc c.loop-number.invariant.passed (c.in-Some.number.now ∷ []) (c.next.new.self.head.now ++ c.next.new.self.wrapped.now));
  due = not_due c.args.self.now c.loop-number.invariant.passed c.in-Some.number.now c.loop-number.next c.loop-number.invariant.due (sym c.due.ensures ∙ c.in_default.is);
}
