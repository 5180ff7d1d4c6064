-- The request that a message of the client makes of a well-known name.
use Rattle.std.specs.Prelude.{Bool, not, ◌&&◌, Option, Some, None, if◌then◌else◌}
use Rattle.dbus_header.specs.Message.{Message, path, interface, member, first_text}
use Rattle.dbus_names.specs.Names.{is_bus, is_well_known}
use Rattle.dbus_names.specs.Texts.{Text}
use Rattle.policy_args.specs.declared.requests.Asked.{Asked}
use Rattle.policy_args.specs.declared.requests.Asked.TheVariants.{Call, Signal, Own, Owner}
use Rattle.dbus_header.specs.Contents.{message_in}
use Rattle.policy_view.specs.Notes.{Note}
use Rattle.policy_view.specs.Verdicts.{ClientRole, OfUnknownType, Reply, Broadcast, SignalTo, StandardBusCall, OtherBusCall, BusCall, CallTo, client_role, Demand, Free, OnText, Unlisted, demand_of, TextDemand, NoEavesdrop, SeenOwner, SeenName, Startable, Ownable, text_or_empty}
use Rattle.policy_view.specs.declared.Side.{Side}
use Rattle.policy_view.specs.declared.Side.TheVariants.{Client, Bus}

-- a well-known name other than the bus's own
abbrev pub is_peer : Text → Bool
is_peer name = is_well_known name && not (is_bus name)

abbrev pub of_peer : Text → Asked → Option Asked
of_peer name asked = if is_peer name then Some asked else None

-- what a call of the bus asks of the name that its first text is
abbrev pub asked_of_text : TextDemand → Text → Option Asked
asked_of_text NoEavesdrop name = None
asked_of_text SeenOwner name = of_peer name (Owner name)
asked_of_text SeenName name = of_peer name (Owner name)
asked_of_text Startable name = of_peer name (Signal name)
asked_of_text Ownable name = of_peer name (Own name)

abbrev pub asked_of_bus : Demand → Option Text → Option Asked
asked_of_bus Free first = None
asked_of_bus (OnText demand) None = None
asked_of_bus (OnText demand) (Some name) = asked_of_text demand name
asked_of_bus Unlisted first = None

-- by the message's role, its path, its interface, its member, and the first text of its body
abbrev pub asked_as : ClientRole → Text → Option Text → Text → Option Text → Option Asked
asked_as OfUnknownType path interface member first = None
asked_as Reply path interface member first = None
asked_as Broadcast path interface member first = None
asked_as (SignalTo name) path interface member first = of_peer name (Signal name)
asked_as StandardBusCall path interface member first = None
asked_as OtherBusCall path interface member first = None
asked_as BusCall path interface member first = asked_of_bus (demand_of member) first
asked_as (CallTo name) path interface member first = of_peer name (Call name path interface member)

abbrev pub asked_by_message : Message → Option Asked
asked_by_message m = asked_as (client_role m) (text_or_empty (path m)) (interface m) (text_or_empty (member m)) (first_text m)

abbrev pub asked_from : Side → Message → Option Asked
asked_from Client m = asked_by_message m
asked_from Bus m = None

-- the request that a note's message makes, whatever was decided on it
abbrev pub asked_by : Note → Option Asked
asked_by note = asked_from note.side (message_in note.frame)
