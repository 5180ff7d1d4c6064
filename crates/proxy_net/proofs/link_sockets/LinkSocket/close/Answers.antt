use Rattle.proxy_net.proofs.Meaning.{open_closed}
use Rattle.proxy_net.proofs.link_sockets.LinkSocket.close.Goals as goal

pub returns-in-Open : goal.returns-in-Open
returns-in-Open g c = λ number own. open_closed c.args.self.connection c.in-Open.stream c.in-Open.is number own c.close.ensures
