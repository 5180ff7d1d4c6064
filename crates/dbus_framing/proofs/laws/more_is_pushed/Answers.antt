use Rattle.dbus_framing.proofs.Given.{pushed-more}
use Rattle.dbus_framing.proofs.laws.more_is_pushed.Goals as goal

pub returns : goal.returns
returns c = pushed-more
