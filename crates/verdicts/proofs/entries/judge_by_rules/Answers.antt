use Rattle.std.proofs.Common.{refl, arith}
use Rattle.dbus_header.specs.Contents.{message_in}
use Rattle.verdicts.specs.Seen.{request_seen}
use Rattle.verdicts.proofs.EntryNumbers.{from-first}
use Rattle.verdicts.proofs.entries.judge_by_rules.Goals as goal

pub loop-number-init : goal.loop-number-init
loop-number-init g c = record {
  judged = from-first c.args.policy.now (message_in c.args.message.now.bytes.now) (request_seen c.args.request) _ c.args.numbers.numbers refl;
  cost = omega arith;
}
