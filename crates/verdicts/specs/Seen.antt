-- The models of the code's roles, demands and property requests.
use Rattle.std.specs.Prelude.{Option, option_map}
use Rattle.dbus_header.specs.Seen.{text_seen}
use Rattle.policy_view.specs.Properties.{PropertyRequest}
use Rattle.policy_view.specs.Verdicts.{ClientRole, OfUnknownType, Reply, Broadcast, SignalTo, StandardBusCall, OtherBusCall, BusCall, CallTo, TextDemand, NoEavesdrop, SeenOwner, SeenName, Startable, Ownable, Demand, Free, OnText, Unlisted}
use Rattle.policy_view.specs.Shown.{BusRole, NoRole, Unexpected, MatchAnswer, OwnerAnswer, NamesAnswer, PingAnswer, NameList, HelloAnswer, OtherAnswer, CallIn, OwnerChange, SignalIn, BroadcastIn}
use Rattle.verdicts.specs.declared.properties.PropertyRequest.{PropertyRequest as PropertyRequestRead}
use Rattle.verdicts.specs.declared.roles.ClientRole.{ClientRole as ClientRoleRead}
use Rattle.verdicts.specs.declared.roles.ClientRole.TheVariants as client
use Rattle.verdicts.specs.declared.roles.BusRole.{BusRole as BusRoleRead}
use Rattle.verdicts.specs.declared.roles.BusRole.TheVariants as bus
use Rattle.verdicts.specs.declared.bus_members.Demand.{Demand as DemandRead}
use Rattle.verdicts.specs.declared.bus_members.Demand.TheVariants as member
use Rattle.verdicts.specs.declared.bus_members.TextDemand.{TextDemand as TextDemandRead}
use Rattle.verdicts.specs.declared.bus_members.TextDemand.TheVariants as text

abbrev pub client_role_seen : ClientRoleRead → ClientRole
client_role_seen client.OfUnknownType = OfUnknownType
client_role_seen client.Reply = Reply
client_role_seen client.Broadcast = Broadcast
client_role_seen (client.SignalTo name) = SignalTo name.text.now
client_role_seen client.StandardBusCall = StandardBusCall
client_role_seen client.OtherBusCall = OtherBusCall
client_role_seen client.BusCall = BusCall
client_role_seen (client.CallTo name) = CallTo name.text.now

abbrev pub text_demand_seen : TextDemandRead → TextDemand
text_demand_seen text.NoEavesdrop = NoEavesdrop
text_demand_seen text.SeenOwner = SeenOwner
text_demand_seen text.SeenName = SeenName
text_demand_seen text.Startable = Startable
text_demand_seen text.Ownable = Ownable

abbrev pub demand_seen : DemandRead → Demand
demand_seen member.Free = Free
demand_seen (member.OnText demand) = OnText (text_demand_seen demand)
demand_seen member.Unlisted = Unlisted

abbrev pub property_request_seen : PropertyRequestRead → PropertyRequest
property_request_seen request = record { interface = request.interface.now; property = text_seen request.property }

abbrev pub request_seen : Option PropertyRequestRead → Option PropertyRequest
request_seen request = option_map property_request_seen request

abbrev pub bus_role_seen : BusRoleRead → BusRole
bus_role_seen bus.NoRole = NoRole
bus_role_seen bus.Unexpected = Unexpected
bus_role_seen bus.MatchAnswer = MatchAnswer
bus_role_seen (bus.OwnerAnswer name) = OwnerAnswer name.now
bus_role_seen bus.NamesAnswer = NamesAnswer
bus_role_seen (bus.PingAnswer serial order what) = PingAnswer serial order what
bus_role_seen (bus.NameList serial) = NameList serial
bus_role_seen (bus.HelloAnswer serial) = HelloAnswer serial
bus_role_seen (bus.OtherAnswer serial) = OtherAnswer serial
bus_role_seen bus.CallIn = CallIn
bus_role_seen bus.OwnerChange = OwnerChange
bus_role_seen bus.SignalIn = SignalIn
bus_role_seen bus.BroadcastIn = BroadcastIn
