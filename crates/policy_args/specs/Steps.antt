-- The effects of the private functions: one more entry, the parts of a word, and one part of a file.
use Rattle.std.specs.Prelude.{ℕ, suc, ◌==◌, Bool, nat_lt, List, [], length, Option, Some, None, Result, Ok, Err, if◌then◌else◌}
use Rattle.std.specs.List.{list_any, before_first, after_first}
use Rattle.std.specs.Str.{is_utf8}
use Rattle.name_patterns.specs.Patterns.{Pattern, pattern_of}
use Rattle.dbus_names.specs.Names.{parts_at}
use Rattle.policy_args.specs.Policy.{Policy, with_entry}
use Rattle.policy_args.specs.Words.{◌>>=◌, is_equals, or_kind}
use Rattle.policy_args.specs.declared.entry.Entry.{Entry}
use Rattle.policy_args.specs.declared.WordKind.{WordKind}
use Rattle.policy_args.specs.declared.WordKind.TheVariants.{UnknownOption, BadName, BadRule, TooMany}

-- a policy with one more entry
abbrev pub with_one_more : Policy → Entry → Result Policy WordKind
with_one_more policy e =
    let entries = with_entry policy.entries e in
    if nat_lt 65535 (length entries) then Err TooMany else Ok (record policy { entries = entries })

-- the text before the first '=', or all
abbrev pub name_before : List ℕ → List ℕ
name_before text = before_first is_equals text

abbrev pub rule_behind : List ℕ → Option (List ℕ)
rule_behind text = if list_any is_equals text then Some (after_first is_equals text) else None

-- NAME=RULE: NAME, and the text of RULE
abbrev pub name_and_rule : List ℕ → Result (Pattern × List ℕ) WordKind
name_and_rule text =
    or_kind BadName (pattern_of (name_before text)) >>= λ p. or_kind BadRule (rule_behind text) >>= λ rule. Ok (p, rule)

-- the text before the first occurrence of a byte, or all
abbrev pub front_at : ℕ → List ℕ → List ℕ
front_at separator text = before_first (λ c. c == separator) text

-- the text after it
abbrev pub behind_at : ℕ → List ℕ → Option (List ℕ)
behind_at separator text = if list_any (λ c. c == separator) text then Some (after_first (λ c. c == separator) text) else None

-- the parts of what is left
abbrev pub parts_left : ℕ → Option (List ℕ) → List (List ℕ)
parts_left separator None = []
parts_left separator (Some text) = parts_at separator text

abbrev pub bytes_left : Option (List ℕ) → ℕ
bytes_left None = 0
bytes_left (Some text) = suc (length text)

abbrev pub is_nul : ℕ → Bool
is_nul c = c == 0

-- a word that is UTF-8
abbrev pub text_in : List ℕ → Result (List ℕ) WordKind
text_in word = if is_utf8 word then Ok word else Err UnknownOption
