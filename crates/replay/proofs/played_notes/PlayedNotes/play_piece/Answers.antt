use Rattle.std.proofs.Common.{◌∷◌, ◌∙◌, ap, subst, take}
use Rattle.policy_view.specs.History.{Bytes}
use Rattle.proxy_core.specs.Sessions.{StandsFor}
use Rattle.replay_output.specs.Output.{side_of}
use Rattle.replay.specs.declared.played_notes.TheConstants.{PIECE}
use Rattle.replay.proofs.played_notes.PlayedNotes.play_piece.Goals as goal

pub returns-then-saturating_sub-le-PIECE-clause-stands : goal.returns-then-saturating_sub-le-PIECE-clause-stands
returns-then-saturating_sub-le-PIECE-clause-stands c = λ events taken stood.
    subst (λ bytes. StandsFor c.args.policy.now c.feed.new.session (Bytes (side_of c.args.side) bytes ∷ events) taken) (c.front_of-piece.ensures ∙ ap (take PIECE) c.behind.ensures) (c.feed.ensures.stands events taken stood)

pub returns-else-saturating_sub-le-PIECE-clause-stands : goal.returns-else-saturating_sub-le-PIECE-clause-stands
returns-else-saturating_sub-le-PIECE-clause-stands c = λ events taken stood.
    subst (λ bytes. StandsFor c.args.policy.now c.feed.new.session (Bytes (side_of c.args.side) bytes ∷ events) taken) (c.front_of-piece.ensures ∙ ap (take PIECE) c.behind.ensures) (c.feed.ensures.stands events taken stood)
