use Rattle.dbus_values.proofs.SpellingLaws.{none_spelled}
use Rattle.dbus_values.proofs.laws.unread_values_are_not_spelled.Goals as goal

pub returns : goal.returns
returns c = none_spelled
