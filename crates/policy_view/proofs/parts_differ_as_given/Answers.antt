use Rattle.policy_view.specs.History.{history}
use Rattle.policy_view.proofs.Differences.{differ_as_given}
use Rattle.policy_view.proofs.ElementLaws.{told_history}
use Rattle.policy_view.proofs.parts_differ_as_given.Goals as goal

pub returns : goal.returns
returns c = λ policy one_mode other_mode one other one_bytes other_bytes.
    differ_as_given policy (history policy one_mode one) (history policy other_mode other) (told_history policy one_mode one one_bytes) (told_history policy other_mode other other_bytes)
