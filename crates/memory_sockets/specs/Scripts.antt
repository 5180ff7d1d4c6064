-- Which calls of a script fail.
use Rattle.std.specs.Prelude.{ℕ, Bool, ◌&&◌, nat_eq, nat_le, List, [], ◌∷◌, false, slice_get, unwrap_or, Option, Some, None, if◌then◌else◌}
use Rattle.std.specs.Option.{option_map}
use Rattle.std.specs.declared.io.ErrorKind.{ErrorKind}
use Rattle.memory_sockets.specs.declared.scripts.CallKind.{CallKind}
use Rattle.memory_sockets.specs.declared.scripts.CallKind.TheVariants.{Bind, AwaitClients, Accept, Connect, Watch, Read, Write, Wait, OpenStarter, NotifyStarter}
use Rattle.memory_sockets.specs.declared.scripts.Exception.{Exception}
use Rattle.memory_sockets.specs.declared.scripts.Step.{Step}

abbrev pub kind_number : CallKind → ℕ
kind_number Bind = 0
kind_number AwaitClients = 1
kind_number Accept = 2
kind_number Connect = 3
kind_number Watch = 4
kind_number Read = 5
kind_number Write = 6
kind_number Wait = 7
kind_number OpenStarter = 8
kind_number NotifyStarter = 9

-- whether an exception is of the call of a kind that has this place
abbrev pub is_of : CallKind → ℕ → Exception → Bool
is_of call place exception = (nat_eq (kind_number exception.call) (kind_number call) && nat_le exception.first place) && nat_le place exception.last

-- why the call of a kind that has this place fails, if it does
abbrev pub refusal_in : List Exception → CallKind → ℕ → Option ErrorKind
refusal_in [] call place = None
refusal_in (exception ∷ later) call place = if is_of call place exception then Some exception.kind else refusal_in later call place

-- the step at a place happens in the wait of the step before it
abbrev pub is_joined_at : List Step → ℕ → Bool
is_joined_at steps place = unwrap_or (option_map (λ (step : Step). step.joined) (slice_get steps place)) false
