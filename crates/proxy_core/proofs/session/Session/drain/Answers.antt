use Rattle.std.proofs.Common.{◌∙◌, refl, suc}
use Rattle.proxy_core.proofs.Draining.{goes_on, light_same, light_then, stops, took_on}
use Rattle.proxy_core.proofs.session.Session.drain.Goals as goal

pub loop-left-init : goal.loop-left-init
loop-left-init c = record { same = refl; runs = c.requires; went = (0, refl); light = light_same c.args.policy.now c.args.self.now }

pub returns-then-not-process_front-clause-took : goal.returns-then-not-process_front-clause-took
returns-then-not-process_front-clause-took c =
    stops c.args.policy.now c.args.side c.loop-left.left c.args.self.now c.loop-left.self c.process_front.new.self _ c.process_front.result c.loop-left-test.true c.loop-left.invariant.went c.loop-left.invariant.same c.process_front.ensures.step c.if-not-process_front.true

pub returns-then-self-clause-took : goal.returns-then-self-clause-took
returns-then-self-clause-took c =
    took_on c.args.policy.now c.args.side c.args.self.now c.loop-left.self c.drain_messages.new.self _ _ c.loop-left.invariant.went c.loop-left.invariant.same c.drain_messages.ensures.took

pub loop-left-preserved : goal.loop-left-preserved
loop-left-preserved c =
    let next = goes_on c.args.policy.now c.args.side c.loop-left.left c.loop-left.self c.process_front.new.self c.process_front.result c.loop-left-test.true c.loop-left.invariant.runs c.process_front.ensures.step c.if-not-process_front.false in
    record {
      same = next.same ∙ c.loop-left.invariant.same;
      runs = next.runs;
      went = (suc c.loop-left.invariant.went.0, (c.loop-left.self, c.loop-left.invariant.went.1, next.step_is));
      light = light_then c.args.policy.now _ _ _ c.loop-left.invariant.light c.process_front.ensures.light;
    }
