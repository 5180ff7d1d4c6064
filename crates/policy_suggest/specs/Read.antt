-- The request of a message by what is read of it.
use Rattle.std.specs.Prelude.{◌==◌, Bool, true, Option, Some, None, if◌then◌else◌}
use Rattle.dbus_header.specs.Contents.{Contents}
use Rattle.dbus_names.specs.Names.{is_bus}
use Rattle.dbus_names.specs.Texts.{Text}
use Rattle.policy_args.specs.declared.requests.Asked.{Asked}
use Rattle.policy_args.specs.declared.requests.Asked.TheVariants.{Own, Owner, Signal}
use Rattle.policy_suggest.specs.AskedBy.{asked_as, of_peer}
use Rattle.policy_suggest.specs.declared.requests.Wanted.{Wanted}
use Rattle.policy_suggest.specs.declared.requests.Wanted.TheVariants as wanted
use Rattle.policy_view.specs.Verdicts.{ClientRole, OfUnknownType, Reply, role_of_call, role_of_signal, Demand, Free, OnText, Unlisted, NoEavesdrop, SeenOwner, SeenName, Startable, Ownable, text_or_empty}

abbrev pub role_in : Contents → ClientRole
role_in x =
    if x.kind == 1 then role_of_call x.parts.destination x.parts.interface
    else (if x.kind == 2 then Reply
    else (if x.kind == 3 then Reply
    else (if x.kind == 4 then role_of_signal x.parts.destination else OfUnknownType)))

abbrev pub asked_in : Contents → Option Text → Option Asked
asked_in x first = asked_as (role_in x) (text_or_empty x.parts.path) x.parts.interface (text_or_empty x.parts.member) first

-- the bus's own interface, or none
abbrev pub is_own_interface : Option Text → Bool
is_own_interface None = true
is_own_interface (Some interface) = is_bus interface

abbrev pub wanted_of : Demand → Option Wanted
wanted_of Free = None
wanted_of (OnText NoEavesdrop) = None
wanted_of (OnText SeenOwner) = Some wanted.Owner
wanted_of (OnText SeenName) = Some wanted.Owner
wanted_of (OnText Startable) = Some wanted.Signal
wanted_of (OnText Ownable) = Some wanted.Own
wanted_of Unlisted = None

abbrev pub asked_of_wanted : Option Wanted → Option Text → Option Asked
asked_of_wanted None first = None
asked_of_wanted (Some w) None = None
asked_of_wanted (Some wanted.Owner) (Some name) = of_peer name (Owner name)
asked_of_wanted (Some wanted.Signal) (Some name) = of_peer name (Signal name)
asked_of_wanted (Some wanted.Own) (Some name) = of_peer name (Own name)
