use Rattle.std.proofs.Common.{◌++◌, ap, sym, ◌∙◌, arith}
use Rattle.proxy_core.specs.Sessions.{waits_for}
use Rattle.link_traits.proofs.Parts.{part_middle, part_so_far, then_all}
use Rattle.replay.proofs.Sides.{side-step}
use Rattle.replay.proofs.writing.write_waiting.Goals as goal

pub returns-in_err-write_all-clause-part : goal.returns-in_err-write_all-clause-part
returns-in_err-write_all-clause-part g c =
    part_middle _ _ _ (waits_for c.args.side c.args.session.now) c.loop-side.invariant.written c.piece-next.result.now c.piece-next.ensures.front.rest
    c.loop-side.invariant.got c.write_all.ensures.part (c.loop-side.invariant.split ∙ ap (λ t. c.loop-side.invariant.written ++ t) (sym c.piece-next.ensures.front.is))

pub loop-side-preserved : goal.loop-side-preserved
loop-side-preserved g c =
    let step = side-step c.args.side c.args.session.now c.loop-side.session c.took.new.session c.loop-side.invariant.written c.piece-next.result.now c.piece-next.ensures.front.rest
    c.loop-side.invariant.split c.loop-side.invariant.same c.piece-next.ensures.front.is c.took.ensures in
    record {
      written = c.loop-side.invariant.written ++ c.piece-next.result.now;
      split = step.split;
      got = then_all _ _ _ c.loop-side.invariant.written c.piece-next.result.now c.loop-side.invariant.got c.in_ok-write_all.ensures.ok;
      same = step.same;
      count = omega arith;
    }

pub returns-clause-part : goal.returns-clause-part
returns-clause-part g c =
    part_so_far _ _ (waits_for c.args.side c.args.session.now) c.loop-side.invariant.written (waits_for c.args.side c.loop-side.session) c.loop-side.invariant.got c.loop-side.invariant.split
