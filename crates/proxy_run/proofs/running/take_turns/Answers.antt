use Rattle.std.proofs.Common.{sym, ◌∙◌, arith, List, subst}
use Rattle.link_traits.specs.Journals.{Journal}
use Rattle.policy_args.specs.declared.line.Block.{Block}
use Rattle.proxy_loop.specs.LineServers.{blocks_of, limit_of, sessions_of}
use Rattle.proxy_loop.specs.Servers.{Serves, QueuesStand}
use Rattle.proxy_run.proofs.Chains.{one_more, ended, all_taken}
use Rattle.proxy_run.proofs.running.take_turns.Goals as goal

pub loop-count-preserved : goal.loop-count-preserved
loop-count-preserved g c =
    one_more (blocks_of c.args.server.now) (limit_of c.args.server.now) c.loop-count.count (sessions_of c.args.server.now) c.loop-count.server c.turn.new.self
    (g.N.Net.view c.args.net.now) (g.N.Net.view c.loop-count.net) (g.N.Net.view c.turn.new.net)
    (g.S.Sink.view c.args.log.now) (g.S.Sink.view c.loop-count.log) (g.S.Sink.view c.turn.new.sink)
    c.loop-count.invariant c.turn.result (sym c.in_default.is ∙ c.end_of.ensures)
    (record { sound = c.loop-count.server.sound; did = c.turn.ensures.did; serves = c.turn.ensures.serves; wished = c.turn.ensures.wished; log = c.turn.ensures.log; queues = subst (λ (bs : List Block). (journal : Journal) → Serves bs (sessions_of c.turn.new.self) journal → QueuesStand bs (sessions_of c.turn.new.self) journal) c.turn.ensures.blocks c.turn.ensures.queues })
    c.turn.ensures.blocks c.turn.ensures.limit

pub returns-in-Some : goal.returns-in-Some
returns-in-Some g c =
    ended (blocks_of c.args.server.now) (limit_of c.args.server.now) c.loop-count.count (sessions_of c.args.server.now) c.loop-count.server c.turn.new.self
    (g.N.Net.view c.args.net.now) (g.N.Net.view c.loop-count.net) (g.N.Net.view c.turn.new.net)
    (g.S.Sink.view c.args.log.now) (g.S.Sink.view c.loop-count.log) (g.S.Sink.view c.turn.new.sink)
    c.loop-count.invariant c.requires c.turn.result c.in-Some.end c.in-Some.ensures
    (record { sound = c.loop-count.server.sound; did = c.turn.ensures.did; serves = c.turn.ensures.serves; wished = c.turn.ensures.wished; log = c.turn.ensures.log; queues = subst (λ (bs : List Block). (journal : Journal) → Serves bs (sessions_of c.turn.new.self) journal → QueuesStand bs (sessions_of c.turn.new.self) journal) c.turn.ensures.blocks c.turn.ensures.queues })

pub returns : goal.returns
returns g c =
    all_taken (blocks_of c.args.server.now) (limit_of c.args.server.now) c.loop-count.count (sessions_of c.args.server.now) c.loop-count.server
    (g.N.Net.view c.args.net.now) (g.N.Net.view c.loop-count.net)
    (g.S.Sink.view c.args.log.now) (g.S.Sink.view c.loop-count.log)
    c.loop-count.invariant c.requires (omega arith)
