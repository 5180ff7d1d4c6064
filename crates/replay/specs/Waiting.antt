-- What waits in a session, and what is written of it.
use Rattle.std.specs.Prelude.{ℕ, List, ◌++◌, Option}
use Rattle.policy_view.specs.declared.Side.{Side}
use Rattle.policy_view.specs.declared.Side.TheVariants.{Client, Bus}
use Rattle.proxy_core.specs.Sessions.{SessionView}
use Rattle.replay_output.specs.Output.{record_where_any, end_record}
use Rattle.replay.specs.SessionsOutput.{named_end, named_where_any}

-- the session with these bytes waiting for a side
abbrev pub with_waiting : Side → List ℕ → SessionView → SessionView
with_waiting Bus bytes view = record view { bus_side = bytes }
with_waiting Client bytes view = record view { client_side = bytes }

abbrev pub kind_of : Side → ℕ
kind_of Bus = 16
kind_of Client = 17

-- the output of a session from which nothing was taken
abbrev pub output_of : SessionView → List ℕ
output_of view = record_where_any 16 view.bus_side ++ record_where_any 17 view.client_side ++ end_record view.ended

-- the same with the session's number in each record, if there is one
abbrev pub named_output : Option ℕ → SessionView → List ℕ
named_output named view = named_where_any named 16 view.bus_side ++ named_where_any named 17 view.client_side ++ named_end named view.ended
