use Rattle.std.proofs.Common.{◌≡◌, ◌+◌, ◌-◌, sym, ap, ◌∙◌, drop, arith}
use Rattle.std.specs.Prelude.{option_map}
use Rattle.dbus_types.specs.Scan.{scan_back, step}
use Rattle.dbus_types.specs.Places.{levels_at}
use Rattle.dbus_types.proofs.ScanLoop.{scan_from_end, scan_one_more, scan_refused, scan_ends}
use Rattle.dbus_types.proofs.scan.fault_by_levels.Goals as goal

pub loop-index-init : goal.loop-index-init
loop-index-init c = record { levels = scan_from_end c.args.bytes.now; within = omega arith }

pub loop-index-preserved : goal.loop-index-preserved
loop-index-preserved c =
    let before : c.loop-index.index ≡ c.loop-index.index - 1 + 1 = omega arith in
    record {
      levels =
          scan_one_more c.args.bytes.now c.loop-index.index (c.loop-index.index - 1) (levels_at c.loop-index.outer c.loop-index.place) before (omega arith) c.loop-index.invariant.levels
          ∙ ap (λ code. step code (levels_at c.loop-index.outer c.loop-index.place)) (sym c.code_of.ensures)
          ∙ sym c.step.ensures.levels
          ∙ ap (option_map (levels_at c.step.new.outer)) c.in-Some.is;
      within = omega (arith, c.in-Some.ensures.depth);
    }

pub returns-in-None : goal.returns-in-None
returns-in-None c =
    let before : c.loop-index.index ≡ c.loop-index.index - 1 + 1 = omega arith in
    scan_refused c.args.bytes.now (c.loop-index.index - 1) (
    scan_one_more c.args.bytes.now c.loop-index.index (c.loop-index.index - 1) (levels_at c.loop-index.outer c.loop-index.place) before (omega arith) c.loop-index.invariant.levels
    ∙ ap (λ code. step code (levels_at c.loop-index.outer c.loop-index.place)) (sym c.code_of.ensures)
    ∙ sym c.step.ensures.levels
    ∙ ap (option_map (levels_at c.step.new.outer)) c.in-None.is)

pub returns : goal.returns
returns c =
    let first : c.loop-index.index ≡ 0 = omega arith in
    c.fault.ensures
    ∙ scan_ends c.args.bytes.now c.loop-index.place.level c.loop-index.outer c.loop-index.place.depth (omega arith)
    (ap (λ i. scan_back (drop i c.args.bytes.now)) (sym first) ∙ c.loop-index.invariant.levels)
