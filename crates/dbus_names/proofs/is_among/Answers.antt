use Rattle.std.proofs.Common.{refl}
use Rattle.dbus_names.specs.Elements.{is_among}
use Rattle.dbus_names.proofs.is_among.Goals as goal

pub returns : goal.returns
unfolding is_among
returns c = refl
