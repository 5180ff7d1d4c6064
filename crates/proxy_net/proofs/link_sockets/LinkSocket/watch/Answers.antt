use Rattle.std.specs.IoError.{error_kind}
use Rattle.proxy_net.proofs.Meaning.{watch_told, open_watched}
use Rattle.proxy_net.proofs.link_sockets.LinkSocket.watch.Goals as goal

pub returns-in-Open-clause-told : goal.returns-in-Open-clause-told
returns-in-Open-clause-told g c = λ number own.
    open_watched c.args.self.now.connection c.in-Open.stream c.in-Open.is number own c.args.writable c.is_ok.result (watch_told error_kind _ _ c.watch.result c.is_ok.result c.watch.ensures.told c.is_ok.ensures.value)
