use Rattle.std.proofs.Common.{◌≡◌, codes}
use Rattle.dbus_names.specs.Texts.{behind}
use Rattle.policy_args.specs.Addresses.{first_some, path_among}
use Rattle.policy_args.specs.Seen.{part_seen}
use Rattle.policy_args.specs.Steps.{bytes_left, parts_left}
use Rattle.policy_args.proofs.address.first_value.Given as goal

abbrev pub invariant-loop-rest : goal.invariant-loop-rest
invariant-loop-rest l = first_some (behind (codes "path=")) (parts_left 44 (part_seen l.rest)) ≡ path_among l.pairs

abbrev pub decreases-loop-rest : goal.decreases-loop-rest
decreases-loop-rest l = bytes_left (part_seen l.rest)
