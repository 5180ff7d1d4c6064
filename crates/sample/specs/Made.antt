-- The draws that are to come, and the messages that one of them made.
use Rattle.std.specs.Prelude.{List, [], ◌∷◌, ◌++◌, if◌then◌else◌}
use Rattle.recording.specs.Recording.{Event, Bytes}
use Rattle.recording.specs.declared.Side.TheVariants.{Client, Bus}
use Rattle.sample.specs.Sample.{draws}
use Rattle.sample.specs.declared.draws.Draws.{Draws}
use Rattle.sample.specs.declared.draws.Made.{Made}

abbrev pub to_come : Draws → List Event
to_come d = draws d.left d.number d.drawn d.client_serial d.bus_serial

abbrev pub asked_events : Made → List Event
asked_events m = if m.asked then Bytes Client m.client.items ∷ [] else []

abbrev pub made_events : Made → List Event
made_events m = asked_events m ++ Bytes Bus m.bus.items ∷ []
