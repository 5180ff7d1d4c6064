use Rattle.std.proofs.Common.{◌≡◌, length, is_some}
use Rattle.link_traits.specs.Views.{KeepsWishes}
use Rattle.proxy_loop.specs.Works.{Any, queue_of, other_queue, Goes, WritesOn, KeepsEnd}
use Rattle.proxy_loop.proofs.link_work.write_all.Given as goal

abbrev pub invariant-loop-link : goal.invariant-loop-link
invariant-loop-link g l = record {
  goes : Goes Any l.link.session l.fn.session l.session (g.N.Net.view l.fn.net) (g.N.Net.view l.net) (WritesOn l.link l.fn.session l.session);
  ended : is_some l.session.ended ≡ is_some l.fn.session.ended;
  other : other_queue l.link.side l.session ≡ other_queue l.link.side l.fn.session;
  end : KeepsEnd l.fn.session l.session;
  wishes : KeepsWishes (g.N.Net.view l.fn.net) (g.N.Net.view l.net);
}

abbrev pub decreases-loop-link : goal.decreases-loop-link
decreases-loop-link g l = length (queue_of l.link.side l.session)
