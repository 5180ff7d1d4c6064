use Rattle.std.proofs.Common.{◌≡◌, ◌+◌, ◌*◌, length}
use Rattle.message_text.specs.Printing.{print_within, print_element, print_items, print_elements, print_members}
use Rattle.message_text.specs.Seen.{place_seen}
use Rattle.message_text.proofs.print_values.+print_value.Given as goal

-- Each container takes one from those that may still lie round a value; the calls between two values go down step by
-- step.

abbrev pub decreases-value : goal.decreases-value
decreases-value l = 8 * l.containers

abbrev pub decreases-value_within : goal.decreases-value_within
decreases-value_within l = 8 * l.containers + 7

abbrev pub decreases-coded : goal.decreases-coded
decreases-coded l = 8 * l.containers + 6

abbrev pub decreases-array : goal.decreases-array
decreases-array l = 8 * l.containers + 5

abbrev pub decreases-elements : goal.decreases-elements
decreases-elements l = 8 * l.containers + 4

abbrev pub decreases-element : goal.decreases-element
decreases-element l = 8 * l.containers + 3

abbrev pub decreases-dict_entry : goal.decreases-dict_entry
decreases-dict_entry l = 8 * l.containers + 2

abbrev pub decreases-structure : goal.decreases-structure
decreases-structure l = 8 * l.containers + 3

abbrev pub decreases-members : goal.decreases-members
decreases-members l = 8 * l.containers + 2

abbrev pub decreases-typed : goal.decreases-typed
decreases-typed l = 8 * l.containers + 1

abbrev pub decreases-variant : goal.decreases-variant
decreases-variant l = 8 * l.containers + 2

abbrev pub invariant-elements-loop-most : goal.invariant-elements-loop-most
invariant-elements-loop-most l =
    print_items (λ text place. print_element (print_within l.containers l.order) text l.types place) l.most l.out.items (place_seen l.at)
    ≡ print_elements (λ text place. print_element (print_within l.containers l.order) text l.types place) l.fn.out.items (place_seen l.first)

abbrev pub decreases-elements-loop-most : goal.decreases-elements-loop-most
decreases-elements-loop-most l = l.most

abbrev pub invariant-members-loop-most : goal.invariant-members-loop-most
invariant-members-loop-most l =
    print_members (print_within l.containers l.order) l.most l.out.items l.types (place_seen l.at)
    ≡ print_members (print_within l.containers l.order) (length l.member_types) l.fn.out.items l.member_types (place_seen l.first)

abbrev pub decreases-members-loop-most : goal.decreases-members-loop-most
decreases-members-loop-most l = l.most
