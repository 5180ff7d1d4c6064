use Rattle.dbus_values.proofs.SpellingLaws.{value_again}
use Rattle.dbus_values.proofs.laws.spelled_values_are_read.Goals as goal

pub returns : goal.returns
returns c = value_again
