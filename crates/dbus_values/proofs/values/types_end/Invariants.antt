use Rattle.std.proofs.Common.{◌≡◌, suc, length}
use Rattle.dbus_values.specs.Walk.{walk_within, walk_types}
use Rattle.dbus_values.specs.Seen.{place_seen}
use Rattle.dbus_values.proofs.values.types_end.Given as goal

abbrev pub invariant-loop-most : goal.invariant-loop-most
invariant-loop-most l =
    walk_types (walk_within 65 l.order) l.most l.types (place_seen l.at)
    ≡ walk_types (walk_within 65 l.order) (suc (length l.first_types)) l.first_types (place_seen l.first)

abbrev pub decreases-loop-most : goal.decreases-loop-most
decreases-loop-most l = l.most
