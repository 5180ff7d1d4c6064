use Rattle.std.proofs.Common.{◌∙◌, ap}
use Rattle.policy_suggest.specs.Needs.{with_request, with_requests}
use Rattle.policy_suggest.proofs.Gathering.{one-taken, request-asked, request-is, request-stands, rest-asked}
use Rattle.policy_suggest.proofs.gathered.Requests.join.Goals as goal
use Rattle.policy_suggest.proofs.gathered.Requests.join.Goals.{in-Some+in_ok-add, in_default}

pub add-requires : goal.add-requires
add-requires c =
    request-asked c.as_slice-asked-items.result.now c.loop-asked.asked-index c.asked-item.result c.loop-asked-test.true c.asked-item.is c.loop-asked.invariant.1 c.of.result c.of.ensures c.in-Some.request c.in-Some.is

pub loop-asked-preserved : goal.loop-asked-preserved
loop-asked-preserved c = (
  elim c.match-of.branch [
    | in-Some+in_ok-add w ↦
        one-taken c.as_slice-asked-items.result.now c.loop-asked.asked-index c.asked-item.result c.loop-asked-test.true c.asked-item.is c.loop-asked.invariant.1 c.loop-asked.self c.match-of.self (with_requests c.args.self.now c.args.other.now)
        (w.self-is ∙ w.in_ok-add.ensures
        ∙ ap (with_request c.loop-asked.self)
        (request-is c.as_slice-asked-items.result.now c.loop-asked.asked-index c.asked-item.result c.loop-asked-test.true c.asked-item.is c.loop-asked.invariant.1 c.of.result c.of.ensures w.in-Some.request w.in-Some.is))
        c.loop-asked.invariant.0
    | in_default w ↦
        absurd (request-stands c.as_slice-asked-items.result.now c.loop-asked.asked-index c.asked-item.result c.loop-asked-test.true c.asked-item.is c.loop-asked.invariant.1 c.of.result c.of.ensures w.in_default.is)
  ],
  rest-asked c.as_slice-asked-items.result.now c.loop-asked.asked-index c.asked-item.result c.loop-asked-test.true c.asked-item.is c.loop-asked.invariant.1,
)
