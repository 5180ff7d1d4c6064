use Rattle.std.proofs.Common.{◌++◌, [], ◌∷◌, sym, ap, ◌∙◌, arith, flat_map, subst}
use Rattle.link_traits.specs.Told.{added, Part}
use Rattle.link_traits.proofs.Parts.{added-none, part_middle, part_so_far, then_all}
use Rattle.recording.specs.Recording.{magic, spelled_event, spelled_recording}
use Rattle.sample.specs.Made.{made_events, to_come}
use Rattle.sample.specs.Sample.{opening, sample as sample_of}
use Rattle.sample.proofs.OneBehindTheOther.{at_first, at_last, moved_on, one_more}
use Rattle.sample.proofs.writing.sample.Goals as goal

pub loop-draws-init : goal.loop-draws-init
loop-draws-init g c = record {
  written = [];
  got = sym (added-none (g.S.Sink.view c.args.sink.now).told);
  split = at_first c.args.n c.args.seed c.put_opening.new.out.items (to_come c.new-draws.result) (c.in_ok-put_opening.ensures ∙ ap (λ t. t ++ (magic ++ 1 ∷ 0 ∷ flat_map spelled_event opening)) c.new-out.ensures.items) c.new-draws.ensures.all;
  count = omega arith;
}

pub returns-in_err-next-clause-part : goal.returns-in_err-next-clause-part
returns-in_err-next-clause-part g c =
    part_so_far _ _ _ c.loop-draws.invariant.written _ c.loop-draws.invariant.got (sym c.loop-draws.invariant.split)

pub returns-in_err-put_made-clause-part : goal.returns-in_err-put_made-clause-part
returns-in_err-put_made-clause-part g c =
    part_so_far _ _ _ c.loop-draws.invariant.written _ c.loop-draws.invariant.got (sym c.loop-draws.invariant.split)

pub loop-draws-preserved : goal.loop-draws-preserved
loop-draws-preserved g c =
    let inv = c.loop-draws.invariant in
    let moved = c.in_ok-write_much.ensures.ok in
    let rest = flat_map spelled_event (to_come c.next.new.self) in
    let made = one_more inv.written c.loop-draws.out.items (made_events c.next.new.made) (to_come c.next.new.self) (to_come c.loop-draws.draws) (spelled_recording (sample_of c.args.n c.args.seed)) c.in_ok-next.ensures.ok inv.split in
    record {
      written = inv.written ++ moved.piece;
      got = then_all _ _ _ inv.written moved.piece inv.got moved.got;
      split = moved_on inv.written moved.piece c.write_much.new.out.items _ rest _ (moved.left ∙ c.in_ok-put_made.ensures) made;
      count = omega arith;
    }

pub returns-in_err-write_much-clause-part : goal.returns-in_err-write_much-clause-part
returns-in_err-write_much-clause-part g c =
    let inv = c.loop-draws.invariant in
    let made = one_more inv.written c.loop-draws.out.items (made_events c.next.new.made) (to_come c.next.new.self) (to_come c.loop-draws.draws) (spelled_recording (sample_of c.args.n c.args.seed)) c.in_ok-next.ensures.ok inv.split in
    part_middle _ _ _ (spelled_recording (sample_of c.args.n c.args.seed)) inv.written c.put_made.new.out.items (flat_map spelled_event (to_come c.next.new.self)) inv.got c.in_err-write_much.ensures.part
    (sym made ∙ ap (λ t. inv.written ++ (t ++ flat_map spelled_event (to_come c.next.new.self))) (sym c.in_ok-put_made.ensures))

pub returns-in_err-write_all-clause-part : goal.returns-in_err-write_all-clause-part
returns-in_err-write_all-clause-part g c =
    let inv = c.loop-draws.invariant in
    part_middle _ _ _ (spelled_recording (sample_of c.args.n c.args.seed)) inv.written c.loop-draws.out.items (flat_map spelled_event (to_come c.loop-draws.draws)) inv.got (subst (λ t. Part (g.S.Sink.view c.loop-draws.sink).told (g.S.Sink.view c.write_all.new.sink).told t) c.as_slice.ensures c.write_all.ensures.part) (sym inv.split)

pub returns-clause-ok : goal.returns-clause-ok
returns-clause-ok g c =
    let inv = c.loop-draws.invariant in
    then_all _ _ _ inv.written c.loop-draws.out.items inv.got (c.in_ok-write_all.ensures.ok ∙ ap (λ t. added t (g.S.Sink.view c.loop-draws.sink).told) c.as_slice.ensures)
    ∙ ap (λ t. added t (g.S.Sink.view c.args.sink.now).told) (at_last inv.written c.loop-draws.out.items c.loop-draws.draws.left _ _ _ _ _ (omega arith) inv.split)

pub returns-clause-part : goal.returns-clause-part
returns-clause-part g c =
    let inv = c.loop-draws.invariant in
    part_middle _ _ _ (spelled_recording (sample_of c.args.n c.args.seed)) inv.written c.loop-draws.out.items (flat_map spelled_event (to_come c.loop-draws.draws)) inv.got (subst (λ t. Part (g.S.Sink.view c.loop-draws.sink).told (g.S.Sink.view c.write_all.new.sink).told t) c.as_slice.ensures c.write_all.ensures.part) (sym inv.split)
