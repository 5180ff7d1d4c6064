use Rattle.std.proofs.Common.{ℕ, List, [], ◌∷◌, ◌≡◌, ◌++◌, OnOk, subst}
use Rattle.bytes.specs.Filled.{UsesSpare}
use Rattle.ping_rewrite.proofs.CallBytes.{get_owner_parts, parts_length}
use Rattle.ping_rewrite.proofs.calls.get_owner.Goals as goal

pub returns-clause-ok : goal.returns-clause-ok
returns-clause-ok c =
    subst (λ (bytes : List ℕ). OnOk c.put.result (c.put.new.calls.items ≡ c.args.calls.now.items ++ bytes))
    (get_owner_parts c.args.serial c.args.name.now c.call_front-front.ensures) c.put.ensures.ok

pub returns-clause-spare : goal.returns-clause-spare
returns-clause-spare c =
    subst (UsesSpare c.put.result c.args.calls.now.spare c.put.new.calls.spare)
    (parts_length c.call_front-front.result [] c.args.name.now (0 ∷ []) (get_owner_parts c.args.serial c.args.name.now c.call_front-front.ensures)) c.put.ensures.spare
