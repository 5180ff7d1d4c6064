use Rattle.std.proofs.Common.{◌≡◌, true, drop}
use Rattle.std.specs.List.{list_all}
use Rattle.policy_suggest.specs.Needs.{with_requests}
use Rattle.policy_suggest.specs.Suggest.{is_asked}
use Rattle.policy_suggest.proofs.gathered.Requests.join.Given as goal

abbrev pub invariant-loop-asked : goal.invariant-loop-asked
invariant-loop-asked l = (with_requests l.self (drop l.asked-index l.asked-items) ≡ with_requests l.initial.self l.other) × (list_all is_asked (drop l.asked-index l.asked-items) ≡ true)
