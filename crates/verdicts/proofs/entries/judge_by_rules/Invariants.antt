use Rattle.std.proofs.Common.{◌≡◌, ◌≤◌, ◌+◌, length}
use Rattle.dbus_header.specs.Contents.{message_in}
use Rattle.policy_view.specs.Verdicts.{on_request}
use Rattle.verdicts.specs.Entries.{entry_steps, judged_from}
use Rattle.verdicts.specs.Seen.{request_seen}
use Rattle.verdicts.proofs.entries.judge_by_rules.Given as goal

-- what is left to judge by gives the verdict
abbrev pub invariant-loop-number : goal.invariant-loop-number
invariant-loop-number g l = record {
  judged : judged_from l.policy (message_in l.message.bytes.now) (request_seen l.request) l.numbers.numbers l.lowest
      ≡ on_request l.policy (message_in l.message.bytes.now) (request_seen l.request) l.fn.numbers.numbers;
  cost : l.steps + entry_steps l.numbers ≤ l.fn.steps + entry_steps l.fn.numbers;
}

abbrev pub decreases-loop-number : goal.decreases-loop-number
decreases-loop-number g l = length l.numbers.numbers
