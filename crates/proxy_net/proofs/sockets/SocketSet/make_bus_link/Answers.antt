use Rattle.std.proofs.Common.{◌≡◌, ◌⊎◌, ◌∙◌, true, false, arith, inl, inr, sym, Err, refl, subst}
use Rattle.std.specs.declared.io.ErrorKind.{ErrorKind}
use Rattle.std.specs.declared.io.ErrorKind.TheVariants.{WouldBlock, Interrupted}
use Rattle.link_traits.specs.declared.links.NetFault.TheVariants.{Failed}
use Rattle.proxy_net.specs.Steps.{Steps, IsConnect, IsNoRoom}
use Rattle.proxy_net.specs.Sockets.{has_link_at}
use Rattle.proxy_net.proofs.Telling.{steps_none, steps_one}
use Rattle.proxy_net.proofs.Leading.{made_at_once, made_later, never_made, no_bytes, connected_once, put_off_once, refused_once}
use Rattle.std.proofs.lemmas.Result.{on_err_weaker, on_ok_weaker}
use Rattle.proxy_net.proofs.Going.{goes_through, grows_through}
use Rattle.proxy_net.proofs.sockets.SocketSet.make_bus_link.Goals.{then-is_empty-via-then-is_empty, then-is_empty-via-else-is_empty+then-contains_key}
use Rattle.proxy_net.proofs.sockets.SocketSet.make_bus_link.Goals as goal

pub returns-in-Ok-clause-told : goal.returns-in-Ok-clause-told
returns-in-Ok-clause-told g c =
    subst (λ n. Steps (IsConnect n c.args.path.now (has_link_at c.args.self.now n) c.join.result) (g.S.Sockets.journal c.args.system.now) (g.S.Sockets.journal c.connect.new.self)) c.number_of-number.ensures.number
    (steps_one _ c.in-Ok.ensures.told (connected_once c.number_of-number.result c.args.path.now (has_link_at c.args.self.now c.number_of-number.result) c.join.result c.join.ensures.fault _ refl))

pub returns-then-is_empty-clause-told : goal.returns-then-is_empty-clause-told
returns-then-is_empty-clause-told g c =
    subst (λ n. Steps (IsConnect n c.args.path.now (has_link_at c.args.self.now n) (Err Failed)) (g.S.Sockets.journal c.args.system.now) (g.S.Sockets.journal c.args.system.now)) c.number_of-number.ensures.number
    (steps_none _ (inl (
      refl,
      elim c.then-is_empty.branch [
        | then-is_empty-via-then-is_empty w ↦ inl (no_bytes c.args.path.now (sym c.is_empty.ensures ∙ w.if-is_empty.true))
        | then-is_empty-via-else-is_empty+then-contains_key w ↦ inr (sym w.contains_key.ensures ∙ w.if-contains_key.true)
      ],
    )))

pub returns-then-is_put_off-clause-told : goal.returns-then-is_put_off-clause-told
returns-then-is_put_off-clause-told g c =
    subst (λ n. Steps (IsConnect n c.args.path.now (has_link_at c.args.self.now n) c.join_later.result) (g.S.Sockets.journal c.args.system.now) (g.S.Sockets.journal c.connect.new.self)) c.number_of-number.ensures.number
    (steps_one _ c.in-Err.ensures.told (put_off_once c.number_of-number.result c.args.path.now (has_link_at c.args.self.now c.number_of-number.result) _ c.join_later.result (subst (λ (k : ErrorKind). (k ≡ WouldBlock) ⊎ (k ≡ Interrupted)) c.kind.ensures (c.is_put_off.ensures.0 c.if-is_put_off.true)) _ refl))

pub returns-else-is_put_off-clause-told : goal.returns-else-is_put_off-clause-told
returns-else-is_put_off-clause-told g c =
    subst (λ n. Steps (IsConnect n c.args.path.now (has_link_at c.args.self.now n) (Err Failed)) (g.S.Sockets.journal c.args.system.now) (g.S.Sockets.journal c.connect.new.self)) c.number_of-number.ensures.number
    (steps_one _ c.in-Err.ensures.told (refused_once c.number_of-number.result c.args.path.now (has_link_at c.args.self.now c.number_of-number.result) _ _ refl))

pub returns-then-is_put_off-clause-err : goal.returns-then-is_put_off-clause-err
returns-then-is_put_off-clause-err g c = on_err_weaker c.join_later.result (goes_through c.reserve_pending.ensures.goes) c.join_later.ensures.err

pub returns-then-is_put_off-clause-grows : goal.returns-then-is_put_off-clause-grows
returns-then-is_put_off-clause-grows g c = grows_through c.reserve_pending.ensures.goes c.join_later.ensures.grows

pub returns-in-Ok-clause-err : goal.returns-in-Ok-clause-err
returns-in-Ok-clause-err g c = on_err_weaker c.join.result (goes_through c.reserve_pending.ensures.goes) c.join.ensures.err

pub returns-in-Ok-clause-grows : goal.returns-in-Ok-clause-grows
returns-in-Ok-clause-grows g c = grows_through c.reserve_pending.ensures.goes c.join.ensures.grows

pub returns-in-Ok-clause-made : goal.returns-in-Ok-clause-made
returns-in-Ok-clause-made g c = on_ok_weaker c.join.result (λ opened. made_at_once _ _ _ _ c.number_of-number.ensures.number opened c.in-Ok.ensures.told) c.join.ensures.open

pub returns-then-is_put_off-clause-made : goal.returns-then-is_put_off-clause-made
returns-then-is_put_off-clause-made g c =
    let why = subst IsNoRoom c.kind.ensures (c.is_put_off.ensures.0 c.if-is_put_off.true) in
    on_ok_weaker c.join_later.result (λ closed. made_later _ _ _ _ _ c.number_of-number.ensures.number closed why c.in-Err.ensures.told) c.join_later.ensures.open

pub returns-then-is_empty-clause-unmade : goal.returns-then-is_empty-clause-unmade
returns-then-is_empty-clause-unmade g c = λ _. inr (steps_none _ (inl refl))

pub returns-in-Ok-clause-unmade : goal.returns-in-Ok-clause-unmade
returns-in-Ok-clause-unmade g c = λ failed. absurd (c.join.ensures.fault failed)

pub returns-then-is_put_off-clause-unmade : goal.returns-then-is_put_off-clause-unmade
returns-then-is_put_off-clause-unmade g c = λ failed. inl (c.join_later.ensures.fault failed)

pub returns-else-is_put_off-clause-unmade : goal.returns-else-is_put_off-clause-unmade
returns-else-is_put_off-clause-unmade g c = λ _. inr (never_made _ _ _ _ c.number_of-number.ensures.number
    (subst (λ (k : ErrorKind). IsNoRoom k → ⊥) c.kind.ensures (λ room. let put_off = c.is_put_off.ensures.1 room in let refused = c.if-is_put_off.false in let no : true ≡ false = grind (arith, put_off, refused) in absurd (cc))) c.in-Err.ensures.told)
