use Rattle.std.proofs.Common.{ap, subst, ◌∙◌}
use Rattle.std.specs.Prelude.{◌≤◌, ◌+◌}
use Rattle.dbus_header.proofs.MessageIn.{message-is}
use Rattle.dbus_header.specs.Message.{first_text}
use Rattle.dbus_header.specs.Contents.{message_in}
use Rattle.policy_view.specs.Verdicts.{verdict, verdict_as}
use Rattle.verdicts.specs.Counted.{judge_steps, role_steps}
use Rattle.verdicts.specs.Kept.{kept}
use Rattle.verdicts.proofs.judge_counted.Goals as goal

pub returns-clause-kept : goal.returns-clause-kept
unfolding verdict
returns-clause-kept g c = λ m at.
    let known = kept c.args.policy.now c.args.tracker.now c.args.ledger.now.owed in
    c.judge_message.ensures.verdict
    ∙ ap (verdict_as c.args.policy.now known (message_in c.args.message.now.bytes.now)) c.client_role.ensures
    ∙ ap (verdict c.args.policy.now known) (message-is c.args.message.now.bytes.now m at)

pub returns-clause-cost : goal.returns-clause-cost
returns-clause-cost g c = λ m at.
    subst (λ n. c.judge_message.new.steps ≤ c.args.steps.now + n)
    (ap (λ role. role_steps c.args.policy.now c.args.tracker.now role (first_text (message_in c.args.message.now.bytes.now))) c.client_role.ensures
    ∙ ap (judge_steps c.args.policy.now c.args.tracker.now) (message-is c.args.message.now.bytes.now m at))
    c.judge_message.ensures.cost
