use Rattle.std.proofs.Common.{◌≡◌, ap, subst}
use Rattle.dbus_header.specs.Message.{Valid, spell}
use Rattle.dbus_header.specs.Contents.{message_in}
use Rattle.policy_view.specs.Notes.{Note}
use Rattle.policy_view.proofs.Frames.{frame_message}
use Rattle.policy_view.proofs.note.Note.message_knowing.Goals as goal

pub returns-clause-valid : goal.returns-clause-valid
returns-clause-valid c =
    subst (λ f. Valid (message_in f) × (f ≡ spell (message_in f))) (ap (λ (n : Note). n.frame) c.self.view_is) (frame_message _ c.self.invariant)
