use Rattle.replay.proofs.Elements.{stands-let-go, view-let-go}
use Rattle.replay.proofs.playing.let_go_bytes.Goals as goal

pub returns-clause-view : goal.returns-clause-view
returns-clause-view c = view-let-go _ _ _ _ _ c.bus_waits-for_bus.ensures c.client_waits-for_client.ensures c.took_bus.ensures.view c.took_client.ensures.view

pub returns-clause-stands : goal.returns-clause-stands
returns-clause-stands c = λ policy events taken stood.
    stands-let-go policy _ _ _ _ _ c.bus_waits-for_bus.ensures c.client_waits-for_client.ensures c.took_bus.ensures.view (c.took_bus.ensures.stands policy) (c.took_client.ensures.stands policy) events taken stood
