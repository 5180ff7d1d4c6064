use Rattle.std.proofs.Common.{◌≡◌, ◌+◌, ◌*◌, suc, length}
use Rattle.dbus_values.specs.Walk.{walk_within, walk_members, walk_element, walk_to_end}
use Rattle.dbus_values.specs.Seen.{place_seen}
use Rattle.dbus_values.proofs.containers.+walk.Given as goal

-- Each container takes one from those that may still be around a value; the calls between two values go down step by
-- step.

abbrev pub decreases-walk : goal.decreases-walk
decreases-walk l = 8 * l.containers + 1

abbrev pub decreases-walk_any : goal.decreases-walk_any
decreases-walk_any l = 8 * l.containers

abbrev pub decreases-array : goal.decreases-array
decreases-array l = 8 * l.containers + 6

abbrev pub decreases-fills : goal.decreases-fills
decreases-fills l = 8 * l.containers + 5

abbrev pub decreases-elements_to_end : goal.decreases-elements_to_end
decreases-elements_to_end l = 8 * l.containers + 4

abbrev pub decreases-element : goal.decreases-element
decreases-element l = 8 * l.containers + 3

abbrev pub decreases-dict_entry : goal.decreases-dict_entry
decreases-dict_entry l = 8 * l.containers + 2

abbrev pub decreases-structure : goal.decreases-structure
decreases-structure l = 8 * l.containers + 3

abbrev pub decreases-members : goal.decreases-members
decreases-members l = 8 * l.containers + 2

abbrev pub decreases-variant : goal.decreases-variant
decreases-variant l = 8 * l.containers + 2

abbrev pub invariant-elements_to_end-loop-most : goal.invariant-elements_to_end-loop-most
invariant-elements_to_end-loop-most l =
    walk_to_end (walk_element (walk_within l.containers l.order) l.types) l.most (place_seen l.at)
    ≡ walk_to_end (walk_element (walk_within l.containers l.order) l.types) (suc (length l.first.bytes.now)) (place_seen l.first)

abbrev pub decreases-elements_to_end-loop-most : goal.decreases-elements_to_end-loop-most
decreases-elements_to_end-loop-most l = l.most

abbrev pub invariant-members-loop-most : goal.invariant-members-loop-most
invariant-members-loop-most l =
    walk_members (walk_within l.containers l.order) l.most l.types (place_seen l.at)
    ≡ walk_members (walk_within l.containers l.order) (suc (length l.member_types)) l.member_types (place_seen l.first)

abbrev pub decreases-members-loop-most : goal.decreases-members-loop-most
decreases-members-loop-most l = l.most

abbrev pub decreases-walk_within_one : goal.decreases-walk_within_one
decreases-walk_within_one l = 8 * l.containers + 7
