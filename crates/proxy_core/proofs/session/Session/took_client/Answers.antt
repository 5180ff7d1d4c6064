use Rattle.std.proofs.Common.{ℕ, List, ◌++◌, take, drop, ap, ◌∙◌, sym, subst}
use Rattle.std.specs.Prelude.{is_some}
use Rattle.proxy_core.specs.Sessions.{SessionView, StandsFor, waiting_in}
use Rattle.proxy_core.proofs.Taken.{took_client}
use Rattle.proxy_core.proofs.session.Session.took_client.Goals as goal

pub returns-clause-stands : goal.returns-clause-stands
returns-clause-stands c = λ policy events taken s.
    subst (λ (v : SessionView). StandsFor policy v events (record taken { client_side = taken.client_side ++ take c.args.n c.args.self.now.client_side }))
    (ap (λ (v : SessionView). record v { client_side = drop c.args.n v.client_side }) (sym c.self.view_is)
    ∙ ap (λ (w : List ℕ). record { mode = c.self.inside.mode; client_side = w; bus_side = c.self.inside.to_bus; ended = c.self.inside.ended; client = c.self.inside.client; bus = c.self.inside.bus; sent = c.self.inside.serials; greeted = c.self.inside.greeted; ledger = c.self.inside.ledger; ids = c.self.inside.tracker; notes = c.self.inside.notes.items; numbered = c.self.inside.numbered; watches = is_some c.self.inside.watch; visible = waiting_in c.self.inside.watch }) (sym c.took.ensures))
    (took_client policy c.args.self.now events taken s c.args.n)
