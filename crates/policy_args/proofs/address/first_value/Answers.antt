use Rattle.std.proofs.Common.{codes}
use Rattle.dbus_names.specs.Texts.{behind}
use Rattle.policy_args.specs.Addresses.{path_among}
use Rattle.policy_args.proofs.Scanning.{found-first, next-part, less-left}
use Rattle.policy_args.proofs.address.first_value.Goals as goal

pub returns-in-Some-behind : goal.returns-in-Some-behind
returns-in-Some-behind c =
    found-first 44 c.args.pairs.now c.loop-rest.rest c.in-Some.text c.in-Some.is (behind (codes "path=")) (path_among c.args.pairs.now)
    c.in-Some-behind.path.now c.part.result.0.now c.loop-rest.invariant c.part.ensures.front c.in-Some-behind.ensures

pub loop-rest-smaller : goal.loop-rest-smaller
loop-rest-smaller c = less-left 44 c.args.pairs.now c.loop-rest.rest c.in-Some.text c.in-Some.is _ c.part.ensures.behind

pub loop-rest-preserved : goal.loop-rest-preserved
loop-rest-preserved c =
    next-part 44 c.args.pairs.now c.loop-rest.rest c.in-Some.text c.in-Some.is (behind (codes "path=")) (path_among c.args.pairs.now)
    c.part.result.0.now _ c.loop-rest.invariant c.part.ensures.front c.part.ensures.behind c.in_default-behind.ensures
