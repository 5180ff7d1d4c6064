-- What the code's targets and requests are seen as, and whether a target is among others.
use Rattle.std.specs.Prelude.{Bool, List}
use Rattle.std.specs.List.{list_any}
use Rattle.std.specs.Ordering.{is_eq}
use Rattle.dbus_header.specs.Seen.{text_seen}
use Rattle.policy_args.specs.declared.requests.Asked.{Asked}
use Rattle.policy_args.specs.declared.requests.Asked.TheVariants as asked
use Rattle.policy_suggest.specs.Suggest.{Target, compare}
use Rattle.policy_suggest.specs.declared.requests.Request.{Request}
use Rattle.policy_suggest.specs.declared.requests.Request.TheVariants.{Call, Signal, Own, Owner}
use Rattle.policy_suggest.specs.declared.targets.Target.{Target as TargetRead}

abbrev pub target_seen : TargetRead → Target
target_seen t = record { name = t.name.now; path = t.path.now; interface = t.interface.now; member = t.member.now }

abbrev pub has : List Target → Target → Bool
has ts t = list_any (λ u. is_eq (compare t u)) ts

abbrev pub request_seen : Request → Asked
request_seen (Call name path interface member) = asked.Call name.now path.now (text_seen interface) member.now
request_seen (Signal name) = asked.Signal name.now
request_seen (Own name) = asked.Own name.now
request_seen (Owner name) = asked.Owner name.now
