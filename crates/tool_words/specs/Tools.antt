-- The words of each tool, as its command reads them.
--
--     replay POLICY RECORDING
--     explain POLICY RECORDING N
--     twin POLICY A B
--     sample N SEED
--     audit POLICY RECORDING..
--     within A B
--     suggest RECORDING..
--     show FILE
--     compose FILE
--     session RECORDING N
--     sessions RECORDING
--
-- The first word is the tool's name. Each place after it is for one word, which must be given. There are up to 16
-- places for recordings, of which only the first must be filled. The only option is the request for help, which every
-- command line has and which belongs to no command. Operands has the words that are taken without a command.
use Rattle.std.specs.Prelude.{◌≡◌, true, List, [], ◌∷◌, ◌++◌, Option, Some, None, Result, IfOk, codes, fold, option_to_list}
use Rattle.clap.specs.Words.{App, Row, Rule, Text, FailsBy, Kinds, fault_of, first_of, found_of, matches_of, new_app, new_rule, rows_of, with_rule}
use Rattle.clap.specs.declared.error.Error.{Error}
use Rattle.clap.specs.declared.parser.matches.ArgMatches.{ArgMatches}

-- a place for a word that has to be there
abbrev pub required_word : Text → Rule
required_word place = record (new_rule place) { required = true }

-- the command of this name with these places
abbrev pub command_of : Text → List Text → App
command_of name places = fold (λ command place. with_rule command (required_word place)) (new_app name) places

-- .. and then these, which may be left empty
abbrev pub command_with : Text → List Text → List Text → App
command_with name places others = fold (λ command place. with_rule command (new_rule place)) (command_of name places) others

-- a word in front of others, if all are there
abbrev pub in_front : Option Text → Option (List Text) → Option (List Text)
in_front None words = None
in_front (Some word) None = None
in_front (Some word) (Some words) = Some (word ∷ words)

-- what stands in each place
abbrev pub words_at : List Text → List Row → Option (List Text)
words_at [] rows = Some []
words_at (place ∷ places) rows = in_front (first_of place rows) (words_at places rows)

-- what stands in the places that are filled
abbrev pub filled_at : List Text → List Row → List Text
filled_at [] rows = []
filled_at (place ∷ places) rows = option_to_list (first_of place rows) ++ filled_at places rows

-- what is found, if nothing is at fault
abbrev pub unless_faulty : Kinds → Option (List Text) → Option (List Text)
unless_faulty [] found = found
unless_faulty (kind ∷ kinds) found = None

-- what is read of the rows that the command finds, if it takes the words
abbrev pub taken_by : App → (List Row → Option (List Text)) → List Text → Option (List Text)
taken_by command read words = unless_faulty (fault_of command words) (read (matches_of command words))

-- the words in the places of the command, if it takes them
unfoldable pub taken : Text → List Text → List Text → Option (List Text)
taken name places words = taken_by (command_of name places) (words_at places) words

-- the words in those places of the command that are filled, if it takes them
unfoldable pub taken_with : Text → List Text → List Text → List Text → Option (List Text)
taken_with name places others words = taken_by (command_with name places others) (λ rows. Some (filled_at (places ++ others) rows)) words

-- ---- the tools

abbrev pub replay_places : List Text
replay_places = codes "POLICY" ∷ codes "RECORDING" ∷ []

abbrev pub explain_places : List Text
explain_places = codes "POLICY" ∷ codes "RECORDING" ∷ codes "N" ∷ []

abbrev pub twin_places : List Text
twin_places = codes "POLICY" ∷ codes "A" ∷ codes "B" ∷ []

abbrev pub sample_places : List Text
sample_places = codes "N" ∷ codes "SEED" ∷ []

abbrev pub within_places : List Text
within_places = codes "A" ∷ codes "B" ∷ []

-- one recording has to be there
abbrev pub audit_places : List Text
audit_places = codes "POLICY" ∷ codes "RECORDING" ∷ []

abbrev pub suggest_places : List Text
suggest_places = codes "RECORDING" ∷ []

abbrev pub show_places : List Text
show_places = codes "FILE" ∷ []

abbrev pub compose_places : List Text
compose_places = codes "FILE" ∷ []

abbrev pub session_places : List Text
session_places = codes "RECORDING" ∷ codes "N" ∷ []

abbrev pub sessions_places : List Text
sessions_places = codes "RECORDING" ∷ []

-- the places of the other recordings
abbrev pub more_recordings : List Text
more_recordings =
    codes "RECORDING2" ∷ codes "RECORDING3" ∷ codes "RECORDING4" ∷ codes "RECORDING5" ∷ codes "RECORDING6" ∷ codes "RECORDING7" ∷ codes "RECORDING8"
    ∷ codes "RECORDING9" ∷ codes "RECORDING10" ∷ codes "RECORDING11" ∷ codes "RECORDING12" ∷ codes "RECORDING13" ∷ codes "RECORDING14"
    ∷ codes "RECORDING15" ∷ codes "RECORDING16" ∷ []

-- ---- what contracts see of a parse

-- what is read of the rows that a parse found
abbrev pub read_of : (List Row → Option (List Text)) → Option ArgMatches → Option (List Text)
read_of read None = None
read_of read (Some m) = read (rows_of (found_of m))

-- the words in the places of what a parse found
abbrev pub words_found : List Text → Option ArgMatches → Option (List Text)
words_found places m = read_of (words_at places) m

-- what a command's parse of words gave
pub record Parses (command : App) (words : List Text) (parse : Result ArgMatches Error) : Type 0 where
  pub fails : FailsBy (fault_of command words) parse
  pub finds : IfOk parse (λ m. rows_of (found_of m) ≡ matches_of command words)
