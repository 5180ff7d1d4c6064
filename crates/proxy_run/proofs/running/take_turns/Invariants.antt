use Rattle.proxy_loop.specs.LineServers.{blocks_of, limit_of, sessions_of}
use Rattle.proxy_run.proofs.Chains.{Driven}
use Rattle.proxy_run.proofs.running.take_turns.Given as goal

abbrev pub invariant-loop-count : goal.invariant-loop-count
invariant-loop-count g l =
    Driven (blocks_of l.fn.server) (limit_of l.fn.server) l.count (sessions_of l.fn.server) l.server (g.N.Net.view l.fn.net) (g.N.Net.view l.net)
    (g.S.Sink.view l.fn.log) (g.S.Sink.view l.log)
