use Rattle.std.proofs.Common.{ap, refl}
use Rattle.proxy_net.specs.declared.link_sockets.LinkSocket.{LinkSocket}
use Rattle.proxy_net.proofs.Telling.{steps_weaker}
use Rattle.proxy_net.proofs.Attempting.{attempt_opens, attempt_fails, attempt_waits, attempt_put_off, attempt_before}
use Rattle.proxy_net.proofs.link_sockets.LinkSocket.attempt.Goals as goal

pub returns-in-To-clause-made : goal.returns-in-To-clause-made
returns-in-To-clause-made g c = steps_weaker (attempt_opens c.args.self.now.connection c.open.new.self.connection c.args.now c.in-To.stream (ap (λ (s : LinkSocket _). s.connection) c.open.ensures)) c.in-To.ensures.retried

pub returns-in-NotDue-clause-made : goal.returns-in-NotDue-clause-made
returns-in-NotDue-clause-made g c = steps_weaker (λ calls is. attempt_waits c.args.self.now.connection c.connect.new.self.connection c.args.now calls c.connect.ensures.pending is) c.in-NotDue.ensures.retried

pub returns-in-WouldBlock-clause-made : goal.returns-in-WouldBlock-clause-made
returns-in-WouldBlock-clause-made g c = steps_weaker (λ calls is. attempt_put_off c.args.self.now.connection c.connect.new.self.connection c.args.now calls c.connect.ensures.pending is) c.in-WouldBlock.ensures.retried

pub returns-in-Before-clause-made : goal.returns-in-Before-clause-made
returns-in-Before-clause-made g c = steps_weaker (λ calls is. attempt_before c.args.self.now.connection c.connect.new.self.connection c.args.now calls (c.in-Before.ensures.before refl) is) c.in-Before.ensures.retried

pub returns-in-Failed-clause-made : goal.returns-in-Failed-clause-made
returns-in-Failed-clause-made g c = steps_weaker (attempt_fails c.args.self.now.connection c.fail.new.self.connection c.args.now (ap (λ (s : LinkSocket _). s.connection) c.fail.ensures.failed)) c.in-Failed.ensures.retried
