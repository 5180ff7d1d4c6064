use Rattle.proxy_loop.proofs.link_work.feed.Goals as goal

pub returns-in-Client-clause-stands : goal.returns-in-Client-clause-stands
returns-in-Client-clause-stands c = rw c.in-Client.is c.feed_client.ensures.stands

pub returns-in-Bus-clause-stands : goal.returns-in-Bus-clause-stands
returns-in-Bus-clause-stands c = rw c.in-Bus.is c.feed_bus.ensures.stands

pub returns-in-Client-clause-waits : goal.returns-in-Client-clause-waits
returns-in-Client-clause-waits c = record { client = c.feed_client.ensures.grows.for_client; bus = c.feed_client.ensures.grows.for_bus }

pub returns-in-Bus-clause-waits : goal.returns-in-Bus-clause-waits
returns-in-Bus-clause-waits c = record { client = c.feed_bus.ensures.grows.for_client; bus = c.feed_bus.ensures.grows.for_bus }
