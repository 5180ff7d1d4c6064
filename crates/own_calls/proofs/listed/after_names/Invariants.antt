use Rattle.std.proofs.Common.{map, take}
use Rattle.policy_view.specs.Sent.{OwnOwner}
use Rattle.own_calls.specs.Sending.{AreSent}
use Rattle.own_calls.proofs.listed.after_names.Given as goal

abbrev pub invariant-loop-name : goal.invariant-loop-name
invariant-loop-name l =
    AreSent (map OwnOwner (map (λ name. name.now) (take l.name-index l.names))) l.initial.calls.items l.initial.serials l.initial.ledger l.calls.items l.serials l.ledger
