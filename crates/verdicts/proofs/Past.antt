-- If what is kept is what a past told, the verdict and what is shown are that past's.
use Rattle.std.proofs.Common.{◌≡◌, Option, ap, ap₂, ◌∙◌}
use Rattle.dbus_header.specs.Message.{Message}
use Rattle.policy_args.specs.Policy.{Policy}
use Rattle.policy_view.specs.Knowledge.{Knowledge, knowledge}
use Rattle.policy_view.specs.Past.{judged, role as role_in}
use Rattle.policy_view.specs.Sent.{Past}
use Rattle.policy_view.specs.Shown.{BusRole, bus_role, showing, showing_at, shown}
use Rattle.policy_view.specs.Verdicts.{verdict}
use Rattle.policy_view.specs.declared.Showing.{Showing}
use Rattle.policy_view.specs.declared.Verdict.{Verdict}
use Rattle.reply_ledger.specs.declared.kind.Kind.{Kind as Expected}

pub is-judged : (policy : Policy) (known : Knowledge) (before : Past) (m : Message) (given : Verdict) → known ≡ knowledge policy before.told →
    given ≡ verdict policy known m → given ≡ judged policy before.told m
unfolding judged
is-judged policy known before m given same is = is ∙ ap (λ (k : Knowledge). verdict policy k m) same

-- if the message has its role there, too
pub is-shown : (policy : Policy) (known : Knowledge) (answer : Option Expected) (before : Past) (m : Message) (given : Showing) → known ≡ knowledge policy before.told →
    bus_role answer m ≡ role_in before m → given ≡ showing policy known answer m → given ≡ shown policy before m
unfolding showing shown role_in
is-shown policy known answer before m given same role_is is =
    is ∙ ap₂ (λ (k : Knowledge) (r : BusRole). showing_at policy k m r) same role_is
