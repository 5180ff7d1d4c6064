use Rattle.std.proofs.Common.{◌≡◌}
use Rattle.dbus_names.specs.Names.{parts_at}
use Rattle.policy_args.specs.Addresses.{first_some, path_in}
use Rattle.policy_args.specs.Seen.{part_seen}
use Rattle.policy_args.specs.Steps.{bytes_left, parts_left}
use Rattle.policy_args.proofs.address.first_path.Given as goal

abbrev pub invariant-loop-rest : goal.invariant-loop-rest
invariant-loop-rest l = first_some path_in (parts_left 59 (part_seen l.rest)) ≡ first_some path_in (parts_at 59 l.text)

abbrev pub decreases-loop-rest : goal.decreases-loop-rest
decreases-loop-rest l = bytes_left (part_seen l.rest)
