use Rattle.std.proofs.Common.{◌≡◌, Some}
use Rattle.policy_args.specs.Addresses.{join_parts, unescaped, unescaped_parts}
use Rattle.policy_args.specs.Seen.{part_seen}
use Rattle.policy_args.specs.Steps.{bytes_left, parts_left}
use Rattle.policy_args.proofs.address.unescape.Given as goal

abbrev pub invariant-loop-rest : goal.invariant-loop-rest
invariant-loop-rest l = join_parts (Some l.bytes.items) (unescaped_parts (parts_left 37 (part_seen l.rest))) ≡ unescaped l.text

abbrev pub decreases-loop-rest : goal.decreases-loop-rest
decreases-loop-rest l = bytes_left (part_seen l.rest)
