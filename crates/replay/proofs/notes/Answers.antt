use Rattle.std.proofs.Common.{◌≡◌, List, refl, subst}
use Rattle.std.specs.Prelude.{IfOk}
use Rattle.policy_view.specs.Notes.{Note}
use Rattle.replay.proofs.notes.Goals as goal

-- without the session's drop, of which nothing is asked
pub returns : goal.returns
returns c = subst (λ (all : List Note). IfOk c.waiting_notes.result (λ list. list ≡ all)) (c.in_ok-session.ensures.noted refl) c.waiting_notes.ensures
