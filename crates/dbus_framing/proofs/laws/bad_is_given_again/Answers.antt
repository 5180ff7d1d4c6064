use Rattle.dbus_framing.proofs.Given.{bad-again}
use Rattle.dbus_framing.proofs.laws.bad_is_given_again.Goals as goal

pub returns : goal.returns
returns c = bad-again
