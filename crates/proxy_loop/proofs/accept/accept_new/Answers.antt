use Rattle.std.proofs.Common.{◌≡◌, ◌+◌, Option, refl, ap, ◌∙◌, subst}
use Rattle.std.specs.Global.{Box}
use Rattle.std.specs.Option.{option_map}
use Rattle.proxy_core.specs.Sessions.{SessionView}
use Rattle.proxy_loop.specs.declared.serving.Running.{Running}
use Rattle.proxy_loop.specs.Works.{Any, Goes}
use Rattle.proxy_loop.specs.Tables.{at_in, table_of}
use Rattle.proxy_loop.specs.Turns.{Opened}
use Rattle.proxy_loop.proofs.NewSession.{accepted_did}
use Rattle.proxy_loop.proofs.accept.accept_new.Goals as goal

pub returns-in-New-clause-did : goal.returns-in-New-clause-did
returns-in-New-clause-did g c = λ block at.
    let fresh : c.deref_mut.result.now ≡ c.fresh_session.result = c.deref_mut.ensures.value ∙ c.in_ok-running.ensures.ok in
    accepted_did c.args.blocks.now c.args.listener c.index-blocks-place.result block c.in-New.number (table_of c.args.sessions.now)
    (table_of (record { accepted = c.args.sessions.now.accepted + 1; running = c.hold.new.sessions })) (at_in c.reserve.new.self)
    (g.N.Net.view c.args.net.now) (g.N.Net.view c.accept.new.self) (g.N.Net.view c.open_new.new.net) c.in_ok-session.session c.open_new.new.running c.deref.result.now
    c.requires.listener c.index-blocks-place.is at c.deref.ensures
    c.in-New.ensures.told (λ was w. c.accept.ensures.numbered c.in-New.number c.in-New.is was w) c.in-New.ensures.wishes
    c.in_ok-session.ensures.stands (ap (λ (v : SessionView). v.ended) c.in_ok-session.ensures.start)
    (ap (λ (v : SessionView). v.mode) c.in_ok-session.ensures.start ∙ c.mode_of.ensures)
    (subst (λ (s : SessionView). Goes Any c.in-New.number s c.open_new.new.running.session (g.N.Net.view c.accept.new.self) (g.N.Net.view c.open_new.new.net)
    (Opened c.in-New.number c.deref.result.now c.open_new.new.running)) (ap (λ (r : Running). r.session) fresh ∙ c.fresh_session.ensures.session) c.open_new.ensures.goes)
    c.open_new.ensures.number (c.open_new.ensures.block ∙ ap (λ (r : Running). r.block) fresh ∙ c.fresh_session.ensures.block) c.open_new.ensures.sound
    c.open_new.ensures.client_shut c.open_new.ensures.bus_shut c.open_new.ensures.client_wishes c.open_new.ensures.bus_wishes
    c.open_new.ensures.wishes (λ k. ap (λ (o : Option (Box Running)). option_map (λ (b : Box Running). b.value) o) (c.reserve.ensures.entries.2 k)) c.hold.ensures refl
