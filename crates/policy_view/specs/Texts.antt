-- Functions on texts and options that the definitions share.
use Rattle.std.specs.Prelude.{nat_eq, Bool, false, ◌||◌, List, [], ◌∷◌, if◌then◌else◌, Option, Some, None}
use Rattle.std.specs.Str.{bytes_eq}
use Rattle.std.specs.List.{starts_with, list_any}
use Rattle.dbus_names.specs.Texts.{Text}
use Rattle.call_rules.specs.Rules.{Rule, matches as rule_matches}

-- the optional text is present and is this one
abbrev pub has_text : Option Text → Text → Bool
has_text None wanted = false
has_text (Some text) wanted = bytes_eq text wanted

abbrev pub is_one_of : Text → List Text → Bool
is_one_of text texts = list_any (bytes_eq text) texts

-- the word occurs in the text
abbrev pub stands_in : Text → Text → Bool
stands_in word [] = starts_with nat_eq [] word
stands_in word (b ∷ bs) = starts_with nat_eq (b ∷ bs) word || stands_in word bs

-- one item if the test holds, else none
abbrev pub only_if : {A : Type 0} → Bool → A → List A
only_if {A} b x = if b then x ∷ [] else []

-- a rule only matches a message with a path and a member
abbrev pub matches : Rule → Option Text → Option Text → Option Text → Bool
matches r None interface member = false
matches r (Some path) interface None = false
matches r (Some path) interface (Some member) = rule_matches r path interface member
