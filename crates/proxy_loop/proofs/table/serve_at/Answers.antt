use Rattle.std.proofs.Common.{ap}
use Rattle.policy_view.specs.declared.Mode.{Mode}
use Rattle.proxy_loop.proofs.Tabled.{there_is}
use Rattle.proxy_loop.proofs.table.serve_at.Goals as goal

pub serve-requires-clause-log : goal.serve-requires-clause-log
serve-requires-clause-log g c =
    ap (λ (m : Mode). m.notes) (c.requires.sound.mode c.index-blocks-running.result
    (there_is c.args.blocks.now c.args.running.now.block c.index-blocks-running.result c.requires.sound.block c.index-blocks-running.is))

pub serve-requires-clause-stood : goal.serve-requires-clause-stood
serve-requires-clause-stood g c =
    c.requires.sound.stood c.index-blocks-running.result
    (there_is c.args.blocks.now c.args.running.now.block c.index-blocks-running.result c.requires.sound.block c.index-blocks-running.is)

pub returns : goal.returns
returns g c = record {
  served = record {
    own = c.index-blocks-running.result;
    at = there_is c.args.blocks.now c.args.running.now.block c.index-blocks-running.result c.requires.sound.block c.index-blocks-running.is;
    serving = c.serve.ensures.serving;
    place = c.serve.ensures.place;
    sound = c.serve.ensures.sound;
    client_shut = c.serve.ensures.client_shut;
    bus_shut = c.serve.ensures.bus_shut;
    client_wishes = c.serve.ensures.client_wishes;
    bus_wishes = c.serve.ensures.bus_wishes;
    others = c.serve.ensures.wishes;
  };
}
