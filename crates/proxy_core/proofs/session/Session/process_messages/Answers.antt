use Rattle.std.proofs.Common.{◌∙◌, refl, suc}
use Rattle.proxy_core.specs.Steps.{with_left}
use Rattle.proxy_core.proofs.Draining.{goes_on, light_then, light_same, stops}
use Rattle.proxy_core.proofs.Lent.{ended_whole, lent_filters, lent_light, lent_step, runs_whole, stays_lent}
use Rattle.proxy_core.proofs.session.Session.process_messages.Goals as goal

pub loop-left-init : goal.loop-left-init
loop-left-init c = record { same = refl; runs = c.requires.running; lent = c.requires.lent; filters = c.requires.filtered; went = (0, refl); light = light_same c.args.policy.now _ }

pub returns-then-not-process_first-clause-took : goal.returns-then-not-process_first-clause-took
returns-then-not-process_first-clause-took c =
    stops c.args.policy.now c.args.side c.loop-left.left (with_left c.args.side c.args.messages.now c.args.self.now) (with_left c.args.side c.loop-left.messages c.loop-left.self)
    (with_left c.args.side c.process_first.new.messages c.process_first.new.self) _ c.process_first.result c.loop-left-test.true c.loop-left.invariant.went c.loop-left.invariant.same
    (lent_step c.args.policy.now c.args.side c.loop-left.messages c.process_first.new.messages c.loop-left.self c.process_first.new.self c.process_first.result c.loop-left.invariant.lent c.loop-left.invariant.filters c.process_first.ensures c.loop-left.invariant.runs)
    c.if-not-process_first.true

pub returns-then-not-process_first-clause-light : goal.returns-then-not-process_first-clause-light
returns-then-not-process_first-clause-light c =
    light_then c.args.policy.now _ _ _ c.loop-left.invariant.light
    (lent_light c.args.policy.now c.args.side c.loop-left.messages c.process_first.new.messages c.loop-left.self c.process_first.new.self c.process_first.result c.loop-left.invariant.lent c.loop-left.invariant.filters c.process_first.ensures)

pub returns-then-not-process_first-clause-lent : goal.returns-then-not-process_first-clause-lent
returns-then-not-process_first-clause-lent c =
    stays_lent c.args.policy.now c.args.side c.loop-left.messages c.process_first.new.messages c.loop-left.self c.process_first.new.self c.process_first.result c.loop-left.invariant.lent c.process_first.ensures

pub loop-left-preserved : goal.loop-left-preserved
loop-left-preserved c =
    let next = goes_on c.args.policy.now c.args.side c.loop-left.left (with_left c.args.side c.loop-left.messages c.loop-left.self) (with_left c.args.side c.process_first.new.messages c.process_first.new.self) c.process_first.result c.loop-left-test.true
    (runs_whole c.args.side c.loop-left.messages c.loop-left.self c.loop-left.invariant.runs)
    (lent_step c.args.policy.now c.args.side c.loop-left.messages c.process_first.new.messages c.loop-left.self c.process_first.new.self c.process_first.result c.loop-left.invariant.lent c.loop-left.invariant.filters c.process_first.ensures c.loop-left.invariant.runs)
    c.if-not-process_first.false in
    record {
      same = next.same ∙ c.loop-left.invariant.same;
      runs = ended_whole c.args.side c.process_first.new.messages c.process_first.new.self next.runs;
      lent = stays_lent c.args.policy.now c.args.side c.loop-left.messages c.process_first.new.messages c.loop-left.self c.process_first.new.self c.process_first.result c.loop-left.invariant.lent c.process_first.ensures;
      filters = lent_filters c.args.policy.now c.args.side c.loop-left.messages c.process_first.new.messages c.loop-left.self c.process_first.new.self c.process_first.result c.loop-left.invariant.lent c.loop-left.invariant.filters c.process_first.ensures;
      went = (suc c.loop-left.invariant.went.0, (with_left c.args.side c.loop-left.messages c.loop-left.self, c.loop-left.invariant.went.1, next.step_is));
      light = light_then c.args.policy.now _ _ _ c.loop-left.invariant.light
          (lent_light c.args.policy.now c.args.side c.loop-left.messages c.process_first.new.messages c.loop-left.self c.process_first.new.self c.process_first.result c.loop-left.invariant.lent c.loop-left.invariant.filters c.process_first.ensures);
    }
