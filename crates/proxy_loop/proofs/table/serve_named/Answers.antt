use Rattle.std.proofs.Common.{◌≡◌, Option, Some, refl, sym, ◌∙◌, ap, nat_eq}
use Rattle.std.specs.Global.{Box}
use Rattle.std.specs.HashMap.{get}
use Rattle.std.specs.Option.{option_map}
use Rattle.proxy_loop.specs.declared.serving.Running.{Running}
use Rattle.proxy_loop.specs.Tables.{at_in, table_of}
use Rattle.proxy_loop.proofs.Tabled.{link_did, sets_held, sets_over, seen_set, seen_none}
use Rattle.proxy_loop.proofs.table.serve_named.Goals as goal

pub serve_with-requires-clause-sound : goal.serve_with-requires-clause-sound
serve_with-requires-clause-sound g c =
    c.requires.sound.each c.args.link.session c.deref_mut-running.result.now
    (ap (λ (o : Option (Box Running)). option_map (λ (b : Box Running). b.value) o) (sym c.in-Some.ensures.value) ∙ ap (λ (r : Running). Some r) (sym c.deref_mut-running.ensures.value))

pub returns : goal.returns
returns g c =
    let got : get nat_eq c.args.sessions.now.running c.args.link.session ≡ Some c.in-Some.held.now = sym c.in-Some.ensures.value in
    let at : at_in c.args.sessions.now.running c.args.link.session ≡ Some c.deref_mut-running.result.now =
    ap (λ (o : Option (Box Running)). option_map (λ (b : Box Running). b.value) o) got ∙ ap (λ (r : Running). Some r) (sym c.deref_mut-running.ensures.value) in
    let held : Box Running = record c.in-Some.held.now { value = c.serve_with.new.running } in
    record {
      did = link_did c.args.blocks.now c.args.link (table_of c.args.sessions.now) (table_of (record { accepted = c.args.sessions.now.accepted; running = c.remove.new.self }))
          c.deref_mut-running.result.now c.serve_with.new.running (g.N.Net.view c.args.net.now) (g.N.Net.view c.serve_with.new.net)
          (g.S.Sink.view c.args.sink.now) (g.S.Sink.view c.serve_with.new.sink) at c.serve_with.ensures.served
          (sets_over c.args.link.session c.serve_with.new.running (table_of c.args.sessions.now).at (at_in (c.get_mut.follows.lender held))
          (table_of (record { accepted = c.args.sessions.now.accepted; running = c.remove.new.self })).at
          (sym c.is_session_over.ensures ∙ c.if-not-is_session_over.false)
          (λ k. ap (λ (o : Option (Box Running)). option_map (λ (b : Box Running). b.value) o) (((c.get_mut.follows.holds held).3 (rw got refl)).0 k)
          ∙ seen_set (nat_eq c.args.link.session k) held (get nat_eq c.args.sessions.now.running k))
          (λ k. ap (λ (o : Option (Box Running)). option_map (λ (b : Box Running). b.value) o) (c.remove.ensures.updates.0 k)
          ∙ seen_none (nat_eq c.args.link.session k) (get nat_eq (c.get_mut.follows.lender held) k))) refl;
    }

pub returns-then-not-is_session_over : goal.returns-then-not-is_session_over
returns-then-not-is_session_over g c =
    let got : get nat_eq c.args.sessions.now.running c.args.link.session ≡ Some c.in-Some.held.now = sym c.in-Some.ensures.value in
    let at : at_in c.args.sessions.now.running c.args.link.session ≡ Some c.deref_mut-running.result.now =
    ap (λ (o : Option (Box Running)). option_map (λ (b : Box Running). b.value) o) got ∙ ap (λ (r : Running). Some r) (sym c.deref_mut-running.ensures.value) in
    let held : Box Running = record c.in-Some.held.now { value = c.serve_with.new.running } in
    record {
      did = link_did c.args.blocks.now c.args.link (table_of c.args.sessions.now)
          (table_of (record { accepted = c.args.sessions.now.accepted; running = c.get_mut.follows.lender held }))
          c.deref_mut-running.result.now c.serve_with.new.running (g.N.Net.view c.args.net.now) (g.N.Net.view c.serve_with.new.net)
          (g.S.Sink.view c.args.sink.now) (g.S.Sink.view c.serve_with.new.sink) at c.serve_with.ensures.served
          (sets_held c.args.link.session c.serve_with.new.running (table_of c.args.sessions.now).at
          (table_of (record { accepted = c.args.sessions.now.accepted; running = c.get_mut.follows.lender held })).at
          (sym c.is_session_over.ensures ∙ c.if-not-is_session_over.true)
          (λ k. ap (λ (o : Option (Box Running)). option_map (λ (b : Box Running). b.value) o) (((c.get_mut.follows.holds held).3 (rw got refl)).0 k)
          ∙ seen_set (nat_eq c.args.link.session k) held (get nat_eq c.args.sessions.now.running k))) refl;
    }
