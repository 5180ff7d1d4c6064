use Rattle.proxy_net.proofs.Answering.{prepare_silent, told_silent}
use Rattle.proxy_net.proofs.Telling.{steps_weaker}
use Rattle.proxy_net.proofs.net.MioNetNet.prepare.Goals as goal

pub returns-in-Ok-clause-told : goal.returns-in-Ok-clause-told
returns-in-Ok-clause-told g c = told_silent c.args.self.now.sockets c.open_named.new.self.sockets c.args.self.now.starter c.open_named.new.self.starter (steps_weaker (prepare_silent _ c.args.setting.starter _) c.open_named.ensures.asked) c.open_named.ensures.goes.counts

pub returns-in-Err-clause-told : goal.returns-in-Err-clause-told
returns-in-Err-clause-told g c = told_silent c.args.self.now.sockets c.open_named.new.self.sockets c.args.self.now.starter c.open_named.new.self.starter (steps_weaker (prepare_silent _ c.args.setting.starter _) c.open_named.ensures.asked) c.open_named.ensures.goes.counts
