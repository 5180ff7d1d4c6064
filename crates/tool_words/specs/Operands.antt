-- The words that a command takes, told without a command.
use Rattle.std.specs.Prelude.{◌≡◌, ℕ, ◌+◌, ◌==◌, ◌&&◌, nat_le, Bool, true, false, List, [], ◌∷◌, Option, Some, None, length, drop, bytes_eq, if◌then◌else◌}
use Rattle.std.specs.Str.{IsUtf8}
use Rattle.clap.specs.Words.{Text, is_simple_and_free}
use Rattle.tool_words.specs.Tools.{command_of, command_with, in_front, taken, taken_with}

-- a word that begins with a dash is an option, but a dash alone is none
abbrev pub is_option : Text → Bool
is_option [] = false
is_option (first ∷ []) = false
is_option (first ∷ second ∷ word) = first == 45

-- all words but a first `--`, if no word before that is an option
abbrev pub operands : List Text → Option (List Text)
operands [] = Some []
operands (word ∷ words) =
    if bytes_eq word (45 ∷ 45 ∷ []) then Some words
    else (if is_option word then None else in_front (Some word) (operands words))

-- words of which the number passes the test
abbrev pub of_count : (ℕ → Bool) → Option (List Text) → Option (List Text)
of_count passes None = None
of_count passes (Some words) = if passes (length words) then Some words else None

-- words of this number
abbrev pub of_number : ℕ → Option (List Text) → Option (List Text)
of_number n words = of_count (λ k. k == n) words

-- words of a number from the one to the other
abbrev pub is_between : ℕ → ℕ → ℕ → Bool
is_between least most n = nat_le least n && nat_le n most

-- each word is a text
abbrev pub AllUtf8 : List Text → Type 0
AllUtf8 [] = Unit {0}
AllUtf8 (word ∷ words) = IsUtf8 word × AllUtf8 words

-- a command of which each place is for one word
pub record IsOneWordEach (tool : Text) (places : List Text) : Type 0 where
  pub is_simple : is_simple_and_free (command_of tool places) ≡ true
  pub takes : (words : List Text) → AllUtf8 (drop 1 words) → taken tool places words ≡ of_number (length places) (operands (drop 1 words))

-- .. and of which the other places may be left empty
pub record IsOneWordAtMost (tool : Text) (places others : List Text) : Type 0 where
  pub is_simple : is_simple_and_free (command_with tool places others) ≡ true
  pub takes : (words : List Text) → AllUtf8 (drop 1 words)
      → taken_with tool places others words ≡ of_count (is_between (length places) (length places + length others)) (operands (drop 1 words))
