use Rattle.dbus_names.proofs.OnePass.{are_two_elements-some, are_two_elements-none}
use Rattle.dbus_names.proofs.has_two_elements.Goals as goal

pub returns-in-Some : goal.returns-in-Some
returns-in-Some c = are_two_elements-some c.args.first c.args.rest c.args.text.now c.in-Some.count c.in-Some.ensures

pub returns-in-None : goal.returns-in-None
returns-in-None c = are_two_elements-none c.args.first c.args.rest c.args.text.now c.in-None.ensures
