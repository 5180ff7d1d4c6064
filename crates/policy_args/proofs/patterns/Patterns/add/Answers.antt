use Rattle.std.proofs.Common.{◌≡◌, Bool, true, false, refl, ap, sym, ◌∙◌, ◌∷◌, ◌++◌, [], map, string_bytes}
use Rattle.std.specs.Prelude.{not}
use Rattle.policy_args.specs.Distinct.{Distinct}
use Rattle.policy_args.proofs.Distincts.{key-noted, key-stands}
use Rattle.policy_args.proofs.patterns.Patterns.add.Goals as goal

absent : (b : Bool) → not b ≡ true → b ≡ false
absent true e = absurd cc
absent false e = refl

there : (b : Bool) → not b ≡ false → b ≡ true
there true e = refl
there false e = absurd cc

pub returns-then-branch-clause-ok : goal.returns-then-branch-clause-ok
returns-then-branch-clause-ok c =
    let pushed : c.push_reserved.new.self.items ≡ c.self.inside.firsts.items ++ c.args.number ∷ [] = c.push_reserved.ensures.items ∙ ap (λ ns. ns ++ c.args.number ∷ []) c.reserve.ensures.items in
    ap (λ ns. let seen : Distinct = record { keys = map (λ k. string_bytes k) c.insert.new.self.keys; firsts = ns } in seen) pushed
    ∙ key-noted c.self.inside.keys.keys c.in_ok-key.key _ c.in_ok-key.ensures.key c.args.self.now c.insert.new.self.keys c.self.inside.firsts.items c.args.number c.self.view_is
    (absent _ (sym c.in_ok-insert.ensures.added ∙ c.if-branch.true)) c.in_ok-insert.ensures.keys

pub returns-else-branch-clause-ok : goal.returns-else-branch-clause-ok
returns-else-branch-clause-ok c =
    ap (λ ns. let seen : Distinct = record { keys = map (λ k. string_bytes k) c.insert.new.self.keys; firsts = ns } in seen) c.reserve.ensures.items
    ∙ key-stands c.self.inside.keys.keys c.in_ok-key.key _ c.in_ok-key.ensures.key c.args.self.now c.insert.new.self.keys c.self.inside.firsts.items c.args.number c.self.view_is
    (there _ (sym c.in_ok-insert.ensures.added ∙ c.if-branch.false)) c.in_ok-insert.ensures.keys
