-- The names of a list that are kept, and how names are spelled as the elements of an array of strings.
use Rattle.std.specs.Prelude.{ℕ, ◌+◌, ◌-◌, Bool, List, [], ◌∷◌, ◌++◌, filter, length}
use Rattle.dbus_names.specs.Texts.{Text}
use Rattle.dbus_header.specs.Message.{Message, string_values, text_list, with_number}
use Rattle.dbus_values.specs.Bodies.{texts_or_none}
use Rattle.dbus_values.specs.Values.{spelled_all, values_of}
use Rattle.dbus_values.specs.declared.Order.{Order}
use Rattle.policy_args.specs.Policy.{Policy, at_least}
use Rattle.policy_args.specs.declared.Level.TheVariants.{See}
use Rattle.unique_names.specs.Taught.{Ids, kept_level}

-- the tracker gives it See or more
abbrev pub is_kept : Policy → Ids → Text → Bool
is_kept policy ids name = at_least See (kept_level policy ids name)

-- the names to which the tracker gives See or more
abbrev pub kept_names : Policy → Ids → List Text → List Text
kept_names policy ids names = filter (is_kept policy ids) names

-- strings one after the other from a place on
abbrev pub names_bytes : Order → ℕ → List Text → List ℕ
names_bytes order place names = spelled_all order place (values_of (string_values names))

-- the beginning of a message, room for the array's length, and the names that are kept
abbrev pub cut_parts : Policy → Ids → Message → List ℕ → List ℕ
cut_parts policy ids m front = front ++ (0 ∷ 0 ∷ 0 ∷ 0 ∷ [] ++ names_bytes m.order (length front + 4) (kept_names policy ids (texts_or_none (text_list m))))

-- bytes that end with a message whose body begins at a place, with the lengths of its body and of the array that is the
-- body, and with a reply serial at its place
abbrev pub with_numbers : Order → ℕ → ℕ → ℕ → ℕ → List ℕ → List ℕ
with_numbers order start body place serial bytes =
    let len = length bytes - (start + body) in
    with_number order (start + place) serial (with_number order (start + body) (len - 4) (with_number order (start + 4) len bytes))
