use Rattle.dbus_header.proofs.StreamSplits.{only_split}
use Rattle.dbus_header.proofs.one_splitting.Goals as goal

pub returns : goal.returns
returns c = λ messages bytes rest are splits. only_split messages bytes rest are splits
