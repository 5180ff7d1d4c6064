use Rattle.std.proofs.Common.{ap, subst, ◌∙◌}
use Rattle.std.specs.Prelude.{◌≤◌, ◌+◌}
use Rattle.std.specs.Option.{option_copied}
use Rattle.dbus_header.proofs.MessageIn.{message-is}
use Rattle.dbus_header.specs.Message.{sender, three_texts}
use Rattle.dbus_header.specs.Contents.{message_in}
use Rattle.policy_view.specs.Shown.{showing, showing_at}
use Rattle.verdicts.specs.Counted.{changed_name, show_steps, shown_steps}
use Rattle.verdicts.specs.Kept.{kept}
use Rattle.verdicts.proofs.show_counted.Goals as goal

pub returns-clause-kept : goal.returns-clause-kept
unfolding showing
returns-clause-kept g c = λ owed m at.
    let known = kept c.args.policy.now c.args.tracker.now owed in
    c.show_as.ensures.showing owed
    ∙ ap (showing_at c.args.policy.now known (message_in c.args.message.now.bytes.now)) c.bus_role.ensures
    ∙ ap (showing c.args.policy.now known (option_copied c.args.answered)) (message-is c.args.message.now.bytes.now m at)

pub returns-clause-cost : goal.returns-clause-cost
returns-clause-cost g c = λ m at.
    let spelled = message_in c.args.message.now.bytes.now in
    subst (λ n. c.show_as.new.steps ≤ c.args.steps.now + n)
    (ap (λ role. shown_steps c.args.policy.now c.args.tracker.now role (changed_name (three_texts spelled)) (sender spelled)) c.bus_role.ensures
    ∙ ap (show_steps c.args.policy.now c.args.tracker.now (option_copied c.args.answered)) (message-is c.args.message.now.bytes.now m at))
    c.show_as.ensures.cost
