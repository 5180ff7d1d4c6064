use Rattle.dbus_framing.proofs.Fronts.{knows-pushed, bad-pushed}
use Rattle.dbus_framing.proofs.framer.Framer.push.Goals as goal

pub invariant_of-self : goal.invariant_of-self
invariant_of-self c = knows-pushed c.self.inside.state c.push.result c.self.inside.bytes c.args.piece.now c.push.new.self c.push.ensures.ok c.push.ensures.err c.self.invariant

pub returns-clause-bad_stays : goal.returns-clause-bad_stays
returns-clause-bad_stays c = rw (← c.self.view_is) (bad-pushed c.push.result c.self.inside.bytes c.args.piece.now c.push.new.self c.push.ensures.ok c.push.ensures.err)
