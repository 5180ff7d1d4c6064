-- How often each call was made.
use Rattle.std.specs.Prelude.{ℕ, ◌+◌, ◌-◌, ◌^◌, min}
use Rattle.memory_sockets.specs.declared.scripts.CallKind.{CallKind}
use Rattle.memory_sockets.specs.declared.scripts.CallKind.TheVariants.{Bind, AwaitClients, Accept, Connect, Watch, Read, Write, Wait, OpenStarter, NotifyStarter}
use Rattle.memory_sockets.specs.declared.sockets.Calls.{Calls}

-- one more, up to 2^64 - 1
abbrev pub one_more : ℕ → ℕ
one_more count = min (count + 1) (2 ^ 64 - 1)

-- how often the call of a kind was made
abbrev pub count_of : CallKind → Calls → ℕ
count_of Bind calls = calls.binds
count_of AwaitClients calls = calls.awaits
count_of Accept calls = calls.accepts
count_of Connect calls = calls.connects
count_of Watch calls = calls.watches
count_of Read calls = calls.reads
count_of Write calls = calls.writes
count_of Wait calls = calls.waits
count_of OpenStarter calls = calls.starter_opens
count_of NotifyStarter calls = calls.starter_notices

-- the call of a kind was made once more
abbrev pub counted : CallKind → Calls → Calls
counted Bind calls = record calls { binds = one_more calls.binds }
counted AwaitClients calls = record calls { awaits = one_more calls.awaits }
counted Accept calls = record calls { accepts = one_more calls.accepts }
counted Connect calls = record calls { connects = one_more calls.connects }
counted Watch calls = record calls { watches = one_more calls.watches }
counted Read calls = record calls { reads = one_more calls.reads }
counted Write calls = record calls { writes = one_more calls.writes }
counted Wait calls = record calls { waits = one_more calls.waits }
counted OpenStarter calls = record calls { starter_opens = one_more calls.starter_opens }
counted NotifyStarter calls = record calls { starter_notices = one_more calls.starter_notices }
