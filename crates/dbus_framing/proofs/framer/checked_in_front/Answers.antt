use Rattle.std.proofs.Common.{◌≡◌, ℕ, List, take, drop, sym, ap, subst, ◌∙◌}
use Rattle.dbus_header.specs.Malformed.{fault}
use Rattle.dbus_header.specs.Message.{Message as Tree}
use Rattle.dbus_framing.specs.Framing.{Takes}
use Rattle.dbus_framing.proofs.Fronts.{message_taken}
use Rattle.dbus_framing.proofs.framer.checked_in_front.Goals as goal

pub returns-clause-valid : goal.returns-clause-valid
returns-clause-valid c =
    subst (λ (t : List ℕ). (m : Tree) × Takes c.args.left.now t (drop c.args.len c.args.left.now) m) (sym (c.placed.ensures.bytes ∙ c.split_at.ensures.front))
    (message_taken c.args.left.now c.args.len c.requires.whole.head c.requires.whole.stands (λ k. (c.type_inv.left k).fits) (ap fault (sym c.split_at.ensures.front) ∙ c.placed.ensures.sound))
