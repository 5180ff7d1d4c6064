-- The words of a policy file, and what they give.
use Rattle.std.specs.Prelude.{ℕ, ◌+◌, Bool, true, false, ◌==◌, nat_lt, List, [], ◌∷◌, ◌++◌, length, codes, Option, Some, None, Result, Ok, Err, if◌then◌else◌, bytes_eq}
use Rattle.std.specs.List.{list_any, before_first, after_first}
use Rattle.std.specs.Str.{is_utf8}
use Rattle.dbus_names.specs.Names.{parts_at}
pub use Rattle.dbus_names.specs.Texts.{behind}
use Rattle.name_patterns.specs.Patterns.{pattern_of}
use Rattle.call_rules.specs.Properties.{property_rule_of}
use Rattle.call_rules.specs.Rules.{rule_of}
use Rattle.policy_args.specs.Policy.{with_entry, Policy, policy_of}
use Rattle.policy_args.specs.declared.entry.Grant.{Grant}
use Rattle.policy_args.specs.declared.entry.Grant.TheVariants.{See as to_see, Talk as to_talk, Own as to_own, Call as to_call, Broadcast as to_broadcast, Property as to_property}
use Rattle.policy_args.specs.declared.entry.Entry.{Entry}
use Rattle.policy_args.specs.declared.WordKind.{WordKind}
use Rattle.policy_args.specs.declared.WordKind.TheVariants.{UnknownOption, BadName, BadRule, TooMany}
use Rattle.policy_args.specs.declared.BadWord.{BadWord}

infixl 10 ◌>>=◌
abbrev pub ◌>>=◌ : {A B E : Type 0} → Result A E → (A → Result B E) → Result B E
(Ok x) >>= f = f x
(Err e) >>= f = Err e

abbrev pub or_kind : {A : Type 0} → WordKind → Option A → Result A WordKind
or_kind kind None = Err kind
or_kind kind (Some x) = Ok x

-- what is wrong with a word, with the word's index
abbrev pub at_word : {A : Type 0} → ℕ → Result A WordKind → Result A BadWord
at_word index (Ok x) = Ok x
at_word index (Err kind) = Err (record { index = index; kind = kind })

-- the words one after the other, from an index on
abbrev pub each_word : {A : Type 0} → (A → List ℕ → Result A WordKind) → ℕ → A → List (List ℕ) → Result A BadWord
each_word step index state [] = Ok state
each_word step index state (w ∷ words) = at_word index (step state w) >>= λ next. each_word step (index + 1) next words

-- ---- options

-- what contracts see of options
pub record PolicyOptions : Type 0 where
  pub filter : Bool
  pub log : Bool
  pub policy : Policy

abbrev pub no_options : PolicyOptions
no_options = record { filter = false; log = false; policy = policy_of [] }

-- NAME
abbrev pub name_entry : Grant → List ℕ → Result Entry WordKind
name_entry grant name = or_kind BadName (pattern_of name) >>= λ p. Ok (record { pattern = p; grant = grant })

abbrev pub is_equals : ℕ → Bool
is_equals c = c == 61

-- NAME=RULE, with `read` for the rule of a text: NAME ends at the first '=', and is checked first
abbrev pub rule_entry : {R : Type 0} → (List ℕ → Option R) → (R → Grant) → List ℕ → Result Entry WordKind
rule_entry read grant text = do
  p ← or_kind BadName (pattern_of (before_first is_equals text))
  r ← or_kind BadRule (if list_any is_equals text then read (after_first is_equals text) else None)
  Ok (record { pattern = p; grant = grant r })

abbrev pub where_front : {A : Type 0} → Option (List ℕ) → (List ℕ → Result A WordKind) → Result A WordKind → Result A WordKind
where_front None reading other = other
where_front (Some text) reading other = reading text

-- the first prefix that the word has decides
abbrev pub first_front : {A : Type 0} → List (List ℕ × (List ℕ → Result A WordKind)) → List ℕ → Result A WordKind
first_front [] w = Err UnknownOption
first_front (f ∷ fronts) w = where_front (behind f.0 w) f.1 (first_front fronts w)

-- the entry that a word gives
abbrev pub entry_of : List ℕ → Result Entry WordKind
entry_of w = first_front (
    (codes "--see=", name_entry to_see)
    ∷ (codes "--talk=", name_entry to_talk)
    ∷ (codes "--own=", name_entry to_own)
    ∷ (codes "--call=", rule_entry rule_of to_call)
    ∷ (codes "--broadcast=", rule_entry rule_of to_broadcast)
    ∷ (codes "--property=", rule_entry property_rule_of to_property)
    ∷ []) w

-- there are at most 65,535 entries
abbrev pub with_policy : PolicyOptions → List Entry → Result PolicyOptions WordKind
with_policy o entries = if nat_lt 65535 (length entries) then Err TooMany else Ok (record o { policy = record (o.policy) { entries = entries } })

-- one more option
abbrev pub with_option : PolicyOptions → List ℕ → Result PolicyOptions WordKind
with_option o w =
    if bytes_eq w (codes "--filter") then Ok (record o { filter = true })
    else (if bytes_eq w (codes "--log") then Ok (record o { log = true })
    else (if bytes_eq w (codes "--sloppy-names") then Ok (record o { policy = record (o.policy) { sloppy = true } })
    else (if bytes_eq w (codes "--known-fields") then Ok (record o { policy = record (o.policy) { known_fields = true } })
    else (if bytes_eq w (codes "--start-called") then Ok (record o { policy = record (o.policy) { start_called = true } })
    else (entry_of w >>= λ e. with_policy o (with_entry o.policy.entries e))))))

unfoldable pub options_of : List (List ℕ) → Result PolicyOptions BadWord
options_of words = each_word with_option 0 no_options words

-- ---- the words of a file

abbrev pub without_last_empty : List (List ℕ) → List (List ℕ)
without_last_empty [] = []
without_last_empty ([] ∷ []) = []
without_last_empty (w ∷ words) = w ∷ without_last_empty words

-- a word that is UTF-8
abbrev pub with_word : List (List ℕ) → List ℕ → Result (List (List ℕ)) WordKind
with_word words w = if is_utf8 w then Ok (words ++ w ∷ []) else Err UnknownOption

-- words end at NUL, and the last one may lack it
unfoldable pub words_in : List ℕ → Result (List (List ℕ)) BadWord
words_in bytes = each_word with_word 0 [] (without_last_empty (parts_at 0 bytes))
