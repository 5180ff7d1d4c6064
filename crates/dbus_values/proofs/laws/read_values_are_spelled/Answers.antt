use Rattle.dbus_values.proofs.SpellingLaws.{value_spelled}
use Rattle.dbus_values.proofs.laws.read_values_are_spelled.Goals as goal

pub returns : goal.returns
returns c = value_spelled
