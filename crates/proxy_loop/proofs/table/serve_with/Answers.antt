use Rattle.std.proofs.Common.{◌≡◌, ap, sym, subst}
use Rattle.proxy_core.specs.Sessions.{SessionView}
use Rattle.proxy_loop.specs.Turns.{IsServed}
use Rattle.proxy_loop.specs.declared.serving.Running.{Running}
use Rattle.proxy_loop.proofs.table.serve_with.Goals as goal

pub returns : goal.returns
returns g c =
    let old = c.args.running.now in
    let new = c.serve_at.new.running in
    let before = g.N.Net.view c.args.net.now in
    let after = g.N.Net.view c.serve_at.new.net in
    let first = g.S.Sink.view c.args.sink.now in
    let last = g.S.Sink.view c.serve_at.new.sink in
    record {
      served =
          subst (λ (s : SessionView). IsServed c.args.blocks.now c.args.side old (record new { session = s }) before after first last) (sym c.give_room.ensures)
          (subst (λ (s : SessionView). IsServed c.args.blocks.now c.args.side (record old { session = s }) new before after first last) c.take_room.ensures c.serve_at.ensures.served);
    }
