use Rattle.std.proofs.Common.{ap, ◌∙◌}
use Rattle.dbus_header.specs.Message.{reply_serial}
use Rattle.policy_view.specs.Shown.{BusRole, bus_role}
use Rattle.verdicts.specs.Kept.{expected_at}
use Rattle.proxy_core.specs.Messages.{with_role}
use Rattle.proxy_core.specs.Sessions.{SessionView}
use Rattle.proxy_core.proofs.ReceivingSteps.{role_as, showing_as, shown_by, shown_now, took_used}
use Rattle.proxy_core.proofs.Taking.{read, tree}
use Rattle.proxy_core.proofs.session.Session.process_bus_message.Goals as goal

pub apply_showing-requires-clause-shown : goal.apply_showing-requires-clause-shown
apply_showing-requires-clause-shown c =
    shown_by c.args.policy.now _ c.args.self.now.ledger.expected c.args.incoming.now.message.now c.take_answer-answered.result c.show-showing.result c.take_answer-answered.ensures.role
    (shown_now c.args.policy.now _ c.take_answer-answered.new.self c.args.incoming.now.message.now _ c.take_answer-answered.result c.show-showing.result c.self.view_is c.as_ref.ensures.value (c.show-showing.ensures.kept _ _ (read c.args.incoming.now.message.now)))

pub apply_showing-requires-clause-role : goal.apply_showing-requires-clause-role
apply_showing-requires-clause-role c =
    role_as c.args.policy.now _ c.args.incoming.now.message.now c.take_answer-answered.result c.show-showing.result (shown_now c.args.policy.now _ c.take_answer-answered.new.self c.args.incoming.now.message.now _ c.take_answer-answered.result c.show-showing.result c.self.view_is c.as_ref.ensures.value (c.show-showing.ensures.kept _ _ (read c.args.incoming.now.message.now)))

pub returns-clause-decision : goal.returns-clause-decision
returns-clause-decision c =
    showing_as c.args.policy.now c.args.self.now c.take_answer-answered.new.self c.args.incoming.now.message.now c.take_answer-answered.result c.show-showing.result c.take_answer-answered.ensures.left c.take_answer-answered.ensures.role
    (shown_now c.args.policy.now _ c.take_answer-answered.new.self c.args.incoming.now.message.now _ c.take_answer-answered.result c.show-showing.result c.self.view_is c.as_ref.ensures.value (c.show-showing.ensures.kept _ _ (read c.args.incoming.now.message.now)))

pub returns-clause-took : goal.returns-clause-took
returns-clause-took c =
    let m = tree c.args.incoming.now.message.now in
    let mid : SessionView = c.take_answer-answered.new.self in
    let same = ap (λ (r : BusRole). with_role c.args.policy.now m r mid) c.take_answer-answered.ensures.role
    ∙ ap (λ (v : SessionView). with_role c.args.policy.now m (bus_role (expected_at c.args.self.now.ledger.expected (reply_serial m)) m) v) c.take_answer-answered.ensures.left in
    took_used m _ _ c.args.self.now mid c.apply_showing.new.self c.take_answer-answered.ensures.left same c.apply_showing.ensures
