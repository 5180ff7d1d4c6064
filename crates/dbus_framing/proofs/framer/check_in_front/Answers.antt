use Rattle.std.proofs.Common.{◌≡◌, take, Some, Result, Ok, Err, sym, ap, ◌∙◌}
use Rattle.std.specs.Prelude.{IfErr, OnOk}
use Rattle.dbus_header.specs.Malformed.{fault}
use Rattle.dbus_header.specs.Refusals.{refusal}
use Rattle.dbus_header.specs.declared.Malformed.{Malformed}
use Rattle.dbus_framing.proofs.Fronts.{message_long, message_good, message_exact, message_bad}
use Rattle.dbus_framing.proofs.framer.check_in_front.Goals as goal

pub check_whole-requires-clause-long : goal.check_whole-requires-clause-long
check_whole-requires-clause-long c = rw c.split_at.ensures.front (message_long c.args.left.now c.args.len c.requires.head c.requires.stands)

pub check_whole-requires-clause-head : goal.check_whole-requires-clause-head
check_whole-requires-clause-head c = rw c.split_at.ensures.front (message_good c.args.left.now c.args.len c.requires.head c.requires.stands)

pub check_whole-requires-clause-whole : goal.check_whole-requires-clause-whole
check_whole-requires-clause-whole c = rw c.split_at.ensures.front (message_exact c.args.left.now c.args.len c.requires.head c.requires.stands)

pub returns-clause-bad : goal.returns-clause-bad
returns-clause-bad c = by c.check_whole.result (c.check_whole.ensures.refusal ∙ ap fault c.split_at.ensures.front)
  where
    by : (r : Result (Unit {0}) Malformed) → refusal r ≡ fault (take c.args.len c.args.left.now) → IfErr r (λ f. fault c.args.left.now ≡ Some f)
    by (Ok x) e = tt
    by (Err f) e = message_bad c.args.left.now c.args.len c.requires.head c.requires.stands f (sym e)
