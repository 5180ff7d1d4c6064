use Rattle.proxy_net.proofs.Meaning.{open_read, pending_read, failed_read}
use Rattle.proxy_net.proofs.link_sockets.LinkSocket.read_connection.Goals as goal

pub returns-in-Open-clause-told : goal.returns-in-Open-clause-told
returns-in-Open-clause-told g c = λ number own.
    open_read c.args.self.now.connection c.in-Open.stream c.in-Open.is number own c.read_stream.new.into c.read_stream.result c.read_stream.ensures.told

pub returns-in-Pending-clause-told : goal.returns-in-Pending-clause-told
returns-in-Pending-clause-told g c = λ number own. pending_read c.args.self.now.connection _ c.in-Pending.is number _ _

pub returns-in-Failed-clause-told : goal.returns-in-Failed-clause-told
returns-in-Failed-clause-told g c = λ number own. failed_read c.args.self.now.connection c.in-Failed.is number _ _
