use Rattle.std.proofs.Common.{◌≡◌, ap, ◌∙◌, sym, Some, None, arith}
use Rattle.policy_view.specs.History.{Bytes}
use Rattle.proxy_core.specs.Sessions.{SessionView}
use Rattle.proxy_core.proofs.Draining.{piece_grows}
use Rattle.proxy_core.proofs.Standing.{closes, ended_stands, feed_stands}
use Rattle.proxy_core.proofs.session.Session.feed.Goals as goal

pub returns-in-Some-clause-stands : goal.returns-in-Some-clause-stands
returns-in-Some-clause-stands c = λ events taken s.
    let e : c.args.self.now.ended ≡ Some c.in-Some.end = ap (λ (v : SessionView). v.ended) (sym c.self.view_is) ∙ c.in-Some.is in
    ended_stands c.args.policy.now c.args.self.now events taken (Bytes c.args.side c.args.piece.now) c.in-Some.end e s

pub returns-clause-stands : goal.returns-clause-stands
returns-clause-stands c = λ events taken s.
    let e : c.args.self.now.ended ≡ None = ap (λ (v : SessionView). v.ended) (sym c.self.view_is) ∙ c.in_default.is in
    feed_stands c.args.policy.now c.covers_no_unique_name.ensures c.args.self.now c.receive.new.self events taken c.args.side c.args.piece.now e (λ i. omega (arith, c.type_inv.piece i)) c.receive.ensures.took s

pub returns-clause-closes : goal.returns-clause-closes
returns-clause-closes c =
    closes c.args.policy.now (Bytes c.args.side c.args.piece.now) c.args.self.now c.receive.new.self c.receive.ensures.light.mode (returns-clause-stands c)

pub returns-clause-grows : goal.returns-clause-grows
returns-clause-grows c = piece_grows c.args.policy.now c.args.side c.args.piece.now c.args.self.now c.receive.new.self c.receive.ensures.took
