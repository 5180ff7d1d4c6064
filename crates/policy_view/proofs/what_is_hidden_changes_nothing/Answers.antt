use Rattle.policy_view.specs.History.{history}
use Rattle.policy_view.proofs.Filtered.{filtered}
use Rattle.policy_view.proofs.Worlds.{worlds}
use Rattle.policy_view.proofs.what_is_hidden_changes_nothing.Goals as goal

pub returns : goal.returns
returns c = λ policy one_mode other_mode one other one_filters other_filters same.
    worlds policy (history policy one_mode one) (history policy other_mode other) (filtered policy one_mode one_filters one) (filtered policy other_mode other_filters other) same
