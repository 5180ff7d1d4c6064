use Rattle.dbus_header.proofs.MessageAgain.{front-spell}
use Rattle.dbus_header.proofs.spelled_is_read.Goals as goal

pub returns : goal.returns
returns c = λ m rest valid. front-spell m rest valid
