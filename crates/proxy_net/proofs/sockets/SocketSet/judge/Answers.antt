use Rattle.std.proofs.Common.{ap, ◌∙◌, true, unwrap_or}
use Rattle.std.specs.Option.{option_map}
use Rattle.std.specs.Ordering.{nat_cmp}
use Rattle.std.specs.BTreeMap as tree
use Rattle.proxy_net.specs.Naming.{is_to_fail, other_of}
use Rattle.proxy_net.specs.Sockets.{is_closed_at}
use Rattle.proxy_net.proofs.sockets.SocketSet.judge.Goals as goal

pub returns-clause-judged : goal.returns-clause-judged
returns-clause-judged g c =
    let closed = c.is_closed-is_other_closed.ensures ∙ ap (λ number. is_closed_at c.args.self.now number) c.other_number.ensures in
    ap (λ o. unwrap_or o true)
    (c.judge_by.ensures.judged ∙ ap (λ is_closed. option_map (is_to_fail is_closed) (tree.get nat_cmp c.args.self.now.links c.args.number)) closed)

pub returns-clause-same : goal.returns-clause-same
returns-clause-same g c = λ other.
    ap (λ is_closed. unwrap_or (option_map (is_to_fail is_closed) (tree.get nat_cmp c.judge_by.new.self.links other)) true)
    (c.judge_by.ensures.closed (other_of other))
    ∙ ap (λ o. unwrap_or o true) (c.judge_by.ensures.to_fail other (is_closed_at c.args.self.now (other_of other)))
