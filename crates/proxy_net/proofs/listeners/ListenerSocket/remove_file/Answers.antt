use Rattle.std.proofs.Common.{rules}
use Rattle.proxy_net.proofs.Listening.{file_removed}
use Rattle.proxy_net.proofs.listeners.ListenerSocket.remove_file.Goals as goal

pub returns-in-Some-clause-told : goal.returns-in-Some-clause-told
returns-in-Some-clause-told g c = file_removed c.args.self.now.file c.in-Some.file (search rules) c.remove.ensures
