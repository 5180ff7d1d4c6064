use Rattle.std.proofs.Common.{◌≡◌, ◌+◌, ◌*◌, length, suc}
use Rattle.message_text.specs.Reading.{read_within, read_element, read_items, read_members}
use Rattle.message_text.proofs.read_values.+read_value.Given as goal

-- Each container takes one from those that may still lie round a value; the calls between two values go down step by
-- step.

abbrev pub decreases-value : goal.decreases-value
decreases-value l = 8 * l.containers

abbrev pub decreases-value_within : goal.decreases-value_within
decreases-value_within l = 8 * l.containers + 7

abbrev pub decreases-coded : goal.decreases-coded
decreases-coded l = 8 * l.containers + 6

abbrev pub decreases-array : goal.decreases-array
decreases-array l = 8 * l.containers + 5

abbrev pub decreases-elements : goal.decreases-elements
decreases-elements l = 8 * l.containers + 4

abbrev pub decreases-items : goal.decreases-items
decreases-items l = 8 * l.containers + 3

abbrev pub decreases-element : goal.decreases-element
decreases-element l = 8 * l.containers + 2

abbrev pub decreases-dict_entry : goal.decreases-dict_entry
decreases-dict_entry l = 8 * l.containers + 1

abbrev pub decreases-structure : goal.decreases-structure
decreases-structure l = 8 * l.containers + 3

abbrev pub decreases-members : goal.decreases-members
decreases-members l = 8 * l.containers + 2

abbrev pub decreases-typed : goal.decreases-typed
decreases-typed l = 8 * l.containers + 1

abbrev pub decreases-variant : goal.decreases-variant
decreases-variant l = 8 * l.containers + 2

abbrev pub invariant-items-loop-most : goal.invariant-items-loop-most
invariant-items-loop-most l =
    read_items (λ bytes rest. read_element (read_within l.containers l.order) l.types bytes rest) l.most l.out.items l.rest
    ≡ read_items (λ bytes rest. read_element (read_within l.containers l.order) l.types bytes rest) (suc (length l.text)) l.fn.out.items l.text

abbrev pub decreases-items-loop-most : goal.decreases-items-loop-most
decreases-items-loop-most l = l.most

abbrev pub invariant-members-loop-most : goal.invariant-members-loop-most
invariant-members-loop-most l =
    read_members (read_within l.containers l.order) l.most l.types l.out.items l.rest
    ≡ read_members (read_within l.containers l.order) (suc (length l.member_types)) l.member_types l.fn.out.items l.text

abbrev pub decreases-members-loop-most : goal.decreases-members-loop-most
decreases-members-loop-most l = l.most
