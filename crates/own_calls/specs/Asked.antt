-- Which of the names that a policy covers are asked for.
use Rattle.std.specs.Prelude.{Bool, ◌&&◌, not, List, bytes_eq}
use Rattle.std.specs.List.{list_any}
use Rattle.dbus_names.specs.Texts.{Text}
use Rattle.name_patterns.specs.Patterns.{covers}
use Rattle.policy_args.specs.declared.entry.Entry.{Entry}
use Rattle.policy_view.specs.Sent.{is_subtree}

abbrev pub is_below : Text → Entry → Bool
is_below name e = is_subtree e && covers e.pattern name

abbrev pub is_named_by : Text → Entry → Bool
is_named_by name e = e.pattern.exact && bytes_eq e.pattern.name name

-- a subtree covers the name, and no exact pattern names it
abbrev pub is_covered : List Entry → Text → Bool
is_covered entries name = list_any (is_below name) entries && not (list_any (is_named_by name) entries)
