use Rattle.dbus_framing.proofs.Given.{given-are-messages}
use Rattle.dbus_framing.proofs.laws.given_are_messages.Goals as goal

pub returns : goal.returns
returns c = given-are-messages
