use Rattle.std.proofs.Common.{◌∙◌, sym, arith}
use Rattle.dbus_values.specs.Walk.{walk_within, walk_element}
use Rattle.dbus_values.specs.Seen.{place_seen}
use Rattle.dbus_values.proofs.Walks.{walk_none, walk_down, not_empty, element_passed, member_passed}
use Rattle.dbus_values.proofs.containers.+walk.Goals as goal

pub walk_any-returns-then-containers-eq0 : goal.walk_any-returns-then-containers-eq0
walk_any-returns-then-containers-eq0 t c = walk_none c.args.order c.args.containers c.args.types.now (place_seen c.args.at) c.if-containers-eq0.true

pub walk_any-returns : goal.walk_any-returns
walk_any-returns t c = c.walk_within_one.ensures ∙ sym (walk_down c.args.order c.args.containers c.args.types.now (place_seen c.args.at) c.if-containers-eq0.false)

pub elements_to_end-loop-most-preserved : goal.elements_to_end-loop-most-preserved
elements_to_end-loop-most-preserved t c =
    element_passed (walk_element (walk_within c.args.containers c.args.order) c.args.types.now) c.loop-most.most (place_seen c.loop-most.at) (c.in-Some.field-0-0.now, place_seen c.in-Some.behind) c.loop-most-test.true (not_empty c.loop-most.at.bytes.now c.if-is_empty.ensures) (sym c.in-Some.ensures)
    ∙ c.loop-most.invariant

pub members-loop-most-preserved : goal.members-loop-most-preserved
members-loop-most-preserved t c =
    member_passed (walk_within c.args.containers c.args.order) c.loop-most.most c.loop-most.types.now (place_seen c.loop-most.at) (c.in_ok-types.field-0-0.now, place_seen c.in_ok-types.field-0-1) c.loop-most-test.true (grind arith) (sym c.in_ok-types.ensures)
    ∙ c.loop-most.invariant
