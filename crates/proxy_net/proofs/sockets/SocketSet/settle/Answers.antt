use Rattle.std.proofs.Common.{sym, subst, ◌∙◌}
use Rattle.proxy_net.specs.Sockets.{IsJudgedAt}
use Rattle.proxy_net.proofs.Going.{goes_through}
use Rattle.proxy_net.proofs.Judging.{judged_kept}
use Rattle.proxy_net.proofs.sockets.SocketSet.settle.Goals as goal

pub returns-clause-judged : goal.returns-clause-judged
returns-clause-judged g c =
    let number = c.other_number.result in
    let judged = c.judge.ensures.judged ∙ sym (c.judge.ensures.same number) in
    subst (IsJudgedAt c.revive_all.new.self) c.other_number.ensures (judged_kept c.judge.new.self c.revive_all.new.self number c.revive_all.ensures.links judged)

pub returns-clause-goes : goal.returns-clause-goes
returns-clause-goes g c = goes_through c.judge.ensures.goes c.revive_all.ensures.goes
