use Rattle.std.proofs.Common.{ℕ, List, ◌++◌, take, drop, ap, ◌∙◌, sym, subst}
use Rattle.std.specs.Prelude.{is_some}
use Rattle.proxy_core.specs.Sessions.{SessionView, StandsFor, waiting_in}
use Rattle.proxy_core.proofs.Taken.{took_bus}
use Rattle.proxy_core.proofs.session.Session.took_bus.Goals as goal

pub returns-clause-stands : goal.returns-clause-stands
returns-clause-stands c = λ policy events taken s.
    subst (λ (v : SessionView). StandsFor policy v events (record taken { bus_side = taken.bus_side ++ take c.args.n c.args.self.now.bus_side }))
    (ap (λ (v : SessionView). record v { bus_side = drop c.args.n v.bus_side }) (sym c.self.view_is)
    ∙ ap (λ (w : List ℕ). record { mode = c.self.inside.mode; bus_side = w; client_side = c.self.inside.to_client; ended = c.self.inside.ended; client = c.self.inside.client; bus = c.self.inside.bus; sent = c.self.inside.serials; greeted = c.self.inside.greeted; ledger = c.self.inside.ledger; ids = c.self.inside.tracker; notes = c.self.inside.notes.items; numbered = c.self.inside.numbered; watches = is_some c.self.inside.watch; visible = waiting_in c.self.inside.watch }) (sym c.took.ensures))
    (took_bus policy c.args.self.now events taken s c.args.n)
