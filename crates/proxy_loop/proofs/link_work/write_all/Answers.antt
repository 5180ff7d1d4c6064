use Rattle.std.proofs.Common.{refl, ◌∙◌, is_some, false, true, ap}
use Rattle.link_traits.specs.declared.links.Took.{Took}
use Rattle.proxy_loop.specs.Works.{Any, WritesOn, OneWrite, WroteOut, is_failed}
use Rattle.proxy_loop.proofs.Holding.{goes_none, goes_then, writes_none, one_more, then_waits, then_fails, wishes_none, wishes_then, end_none, end_then, not_failed}
use Rattle.proxy_loop.proofs.link_work.write_all.Goals as goal

pub loop-link-init : goal.loop-link-init
loop-link-init g c = record {
  goes = goes_none Any c.args.link.session c.args.session.now (g.N.Net.view c.args.net.now) (WritesOn c.args.link c.args.session.now c.args.session.now) (writes_none c.args.link c.args.session.now);
  ended = refl;
  other = refl;
  end = end_none c.args.session.now;
  wishes = wishes_none (g.N.Net.view c.args.net.now);
}

pub loop-link-preserved : goal.loop-link-preserved
loop-link-preserved g c = record {
  goes = goes_then Any c.args.link.session c.args.session.now c.loop-link.session c.write_once.new.session
      (g.N.Net.view c.args.net.now) (g.N.Net.view c.loop-link.net) (g.N.Net.view c.write_once.new.net) (WritesOn c.args.link c.args.session.now c.loop-link.session)
      (OneWrite c.args.link c.loop-link.session c.write_once.new.session c.write_once.result) (WritesOn c.args.link c.args.session.now c.write_once.new.session)
      (λ first second p q. one_more c.args.link c.args.session.now c.loop-link.session c.write_once.new.session first second p _ c.write_once.result c.in-Bytes.is q)
      c.loop-link.invariant.goes c.write_once.ensures.goes;
  ended = not_failed (is_some c.loop-link.session.ended) (is_some c.write_once.new.session.ended) (is_failed c.write_once.result) (ap (λ (t : Took). is_failed t) c.in-Bytes.is) c.write_once.ensures.ended ∙ c.loop-link.invariant.ended;
  other = c.write_once.ensures.other ∙ c.loop-link.invariant.other;
  end = end_then c.args.session.now c.loop-link.session c.write_once.new.session c.loop-link.invariant.end c.write_once.ensures.end;
  wishes = wishes_then (g.N.Net.view c.args.net.now) (g.N.Net.view c.loop-link.net) (g.N.Net.view c.write_once.new.net) c.loop-link.invariant.wishes c.write_once.ensures.wishes;
}

pub returns-in-NotReady-clause-goes : goal.returns-in-NotReady-clause-goes
returns-in-NotReady-clause-goes g c = goes_then Any c.args.link.session c.args.session.now c.loop-link.session c.write_once.new.session
    (g.N.Net.view c.args.net.now) (g.N.Net.view c.loop-link.net) (g.N.Net.view c.write_once.new.net) (WritesOn c.args.link c.args.session.now c.loop-link.session)
    (OneWrite c.args.link c.loop-link.session c.write_once.new.session c.write_once.result) (WroteOut c.args.link c.args.session.now c.write_once.new.session false)
    (λ first second p q. then_waits c.args.link c.args.session.now c.loop-link.session c.write_once.new.session first second p c.write_once.result c.in-NotReady.is q)
    c.loop-link.invariant.goes c.write_once.ensures.goes

pub returns-in-Failed-clause-goes : goal.returns-in-Failed-clause-goes
returns-in-Failed-clause-goes g c = goes_then Any c.args.link.session c.args.session.now c.loop-link.session c.write_once.new.session
    (g.N.Net.view c.args.net.now) (g.N.Net.view c.loop-link.net) (g.N.Net.view c.write_once.new.net) (WritesOn c.args.link c.args.session.now c.loop-link.session)
    (OneWrite c.args.link c.loop-link.session c.write_once.new.session c.write_once.result) (WroteOut c.args.link c.args.session.now c.write_once.new.session true)
    (λ first second p q. then_fails c.args.link c.args.session.now c.loop-link.session c.write_once.new.session first second p c.write_once.result c.in-Failed.is q)
    c.loop-link.invariant.goes c.write_once.ensures.goes
