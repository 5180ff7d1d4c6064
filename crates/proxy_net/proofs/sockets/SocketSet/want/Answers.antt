use Rattle.std.proofs.Common.{◌∙◌, sym, subst}
use Rattle.proxy_net.specs.Sockets.{IsJudgedAt}
use Rattle.std.proofs.Common.{arith}
use Rattle.proxy_net.proofs.Going.{grows_on}
use Rattle.proxy_net.proofs.sockets.SocketSet.want.Goals as goal

pub returns-then-set_wishes-clause-judged : goal.returns-then-set_wishes-clause-judged
returns-then-set_wishes-clause-judged g c = λ _. subst (IsJudgedAt c.judge.new.self) c.number_of.ensures.number (c.judge.ensures.judged ∙ sym (c.judge.ensures.same c.number_of.result))

pub returns-then-set_wishes-clause-grows : goal.returns-then-set_wishes-clause-grows
returns-then-set_wishes-clause-grows g c = grows_on (omega (arith, c.set_wishes.ensures.number)) c.set_wishes.ensures.grows c.judge.ensures.goes
