use Rattle.dbus_framing.proofs.Given.{next-follows}
use Rattle.dbus_framing.proofs.laws.next_is_given.Goals as goal

pub returns : goal.returns
returns c = next-follows
