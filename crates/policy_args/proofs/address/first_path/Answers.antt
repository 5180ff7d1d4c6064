use Rattle.dbus_names.specs.Names.{parts_at}
use Rattle.policy_args.specs.Addresses.{first_some, path_in}
use Rattle.policy_args.proofs.Scanning.{found-first, next-part, less-left}
use Rattle.policy_args.proofs.address.first_path.Goals as goal

pub returns-in-Some-path_of : goal.returns-in-Some-path_of
returns-in-Some-path_of c =
    found-first 59 c.args.text.now c.loop-rest.rest c.in-Some.text c.in-Some.is path_in (first_some path_in (parts_at 59 c.args.text.now))
    c.in-Some-path_of.path.now c.part.result.0.now c.loop-rest.invariant c.part.ensures.front c.in-Some-path_of.ensures

pub loop-rest-smaller : goal.loop-rest-smaller
loop-rest-smaller c = less-left 59 c.args.text.now c.loop-rest.rest c.in-Some.text c.in-Some.is _ c.part.ensures.behind

pub loop-rest-preserved : goal.loop-rest-preserved
loop-rest-preserved c =
    next-part 59 c.args.text.now c.loop-rest.rest c.in-Some.text c.in-Some.is path_in (first_some path_in (parts_at 59 c.args.text.now))
    c.part.result.0.now _ c.loop-rest.invariant c.part.ensures.front c.part.ensures.behind c.in_default-path_of.ensures
