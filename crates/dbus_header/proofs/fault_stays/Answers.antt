use Rattle.dbus_header.proofs.FaultStays.{bad-stays}
use Rattle.dbus_header.proofs.fault_stays.Goals as goal

pub returns : goal.returns
returns c = bad-stays
