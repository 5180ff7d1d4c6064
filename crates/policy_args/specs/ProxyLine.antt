-- The words of a proxy line: [OPTIONS..] [ADDRESS PATH [OPTIONS..]]..
use Rattle.std.specs.Prelude.{ℕ, ◌+◌, ◌-◌, ◌*◌, Bool, true, false, not, ◌&&◌, ◌||◌, ◌==◌, nat_lt, nat_le, List, [], ◌∷◌, ◌++◌, length, codes, Option, Some, None, is_some, Result, Ok, Err, if◌then◌else◌, bytes_eq}
use Rattle.std.specs.Char.{is_ascii_digit}
use Rattle.std.specs.List.{list_all, list_any}
use Rattle.dbus_names.specs.Names.{is_empty}
use Rattle.dbus_names.specs.Texts.{begins_with, behind}
use Rattle.policy_args.specs.Addresses.{bus_path}
use Rattle.policy_args.specs.Words.{◌>>=◌, or_kind, each_word, PolicyOptions, no_options, with_option}
use Rattle.policy_args.specs.declared.WordKind.{WordKind}
use Rattle.policy_args.specs.declared.WordKind.TheVariants.{UnknownOption, BadAddress, NoPath, OptionBeforeAddress, BadNumber, TooMany}
use Rattle.policy_args.specs.declared.BadWord.{BadWord}

-- ---- numbers

abbrev pub has_leading_zero : List ℕ → Bool
has_leading_zero (c ∷ d ∷ text) = c == 48
has_leading_zero _ = false

abbrev pub digits_worth : ℕ → List ℕ → ℕ
digits_worth n [] = n
digits_worth n (c ∷ text) = digits_worth (n * 10 + (c - 48)) text

-- a decimal number without leading zeros
abbrev pub number_of : List ℕ → Option ℕ
number_of text = if not (is_empty text) && list_all is_ascii_digit text && not (has_leading_zero text) then Some (digits_worth 0 text) else None

-- the number of served sessions: 1 to 1,000,000
abbrev pub count_of : ℕ → Result ℕ WordKind
count_of n = if nat_lt 0 n && nat_le n 1000000 then Ok n else Err BadNumber

abbrev pub sessions_of : List ℕ → Result ℕ WordKind
sessions_of text = or_kind BadNumber (number_of text) >>= count_of

-- the number of a file descriptor, which is an int and so at most 2,147,483,647
abbrev pub descriptor_within : Option ℕ → Option ℕ
descriptor_within None = None
descriptor_within (Some n) = if nat_le n 2147483647 then Some n else None

abbrev pub descriptor_of : List ℕ → Option ℕ
descriptor_of text = descriptor_within (number_of text)

-- ---- what contracts see of a proxy line

-- the bus's path, the path of the socket that is listened on, and the options
pub record BlockValue : Type 0 where
  pub address : List ℕ
  pub path : List ℕ
  pub options : PolicyOptions

-- the blocks, the number of served sessions, the file in which they are recorded and the starter's descriptor, if there
-- are these, and whether sockets are replaced
pub record LineValue : Type 0 where
  pub blocks : List BlockValue
  pub sessions : ℕ
  pub record_to : Option (List ℕ)
  pub starter : Option ℕ
  pub replaces : Bool

-- what the words so far give, the options with which a block begins, and the bus's path of a block whose PATH is next
pub record SoFar : Type 0 where
  pub line : LineValue
  pub first : PolicyOptions
  pub pending : Option (List ℕ)

-- without --sessions the number of sessions isn't limited, without --record none is recorded, and without --fd there is
-- no starter
abbrev pub no_words : SoFar
no_words = record { line = record { blocks = []; sessions = 4294967295; record_to = None; starter = None; replaces = false }; first = no_options; pending = None }

-- ---- options of a block

abbrev pub is_option : List ℕ → Bool
is_option w = begins_with (codes "--") w

-- one more option of the last block
abbrev pub in_last : List ℕ → List BlockValue → Result (List BlockValue) WordKind
in_last w [] = Err OptionBeforeAddress
in_last w (b ∷ []) = with_option b.options w >>= λ o. Ok (record b { options = o } ∷ [])
in_last w (b ∷ blocks) = in_last w blocks >>= λ rest. Ok (b ∷ rest)

abbrev pub with_sessions : SoFar → List ℕ → Result SoFar WordKind
with_sessions s text = sessions_of text >>= λ n. Ok (record s { line = record (s.line) { sessions = n } })

abbrev pub with_block_option : SoFar → List ℕ → Result SoFar WordKind
with_block_option s w = in_last w s.line.blocks >>= λ blocks. Ok (record s { line = record (s.line) { blocks = blocks } })

-- the file in which the sessions are recorded
abbrev pub with_record : SoFar → List ℕ → Result SoFar WordKind
with_record s [] = Err UnknownOption
with_record s (c ∷ path) = Ok (record s { line = record (s.line) { record_to = Some (c ∷ path) } })

-- --record=FILE of any block, of which the last counts, or an option of the last block
abbrev pub record_option : SoFar → List ℕ → Option (List ℕ) → Result SoFar WordKind
record_option s w (Some path) = with_record s path
record_option s w None = with_block_option s w

abbrev pub other_option : SoFar → List ℕ → Result SoFar WordKind
other_option s w = record_option s w (behind (codes "--record=") w)

-- --sessions=N of any block, of which the last counts, or another option
abbrev pub line_option : SoFar → List ℕ → Option (List ℕ) → Result SoFar WordKind
line_option s w (Some text) = with_sessions s text
line_option s w None = other_option s w

-- ---- options before the first ADDRESS

-- the options that are allowed there and then hold for every block
abbrev pub is_for_all : List ℕ → Bool
is_for_all w = list_any (bytes_eq w) (codes "--sloppy-names" ∷ codes "--known-fields" ∷ codes "--start-called" ∷ [])

abbrev pub option_for_all : PolicyOptions → List ℕ → Result PolicyOptions WordKind
option_for_all o w = if is_for_all w then with_option o w else Err OptionBeforeAddress

-- every block begins with what they ask for
abbrev pub first_option : SoFar → List ℕ → Result SoFar WordKind
first_option s w = option_for_all s.first w >>= λ o. Ok (record s { first = o })

abbrev pub placed_option : SoFar → List ℕ → Result SoFar WordKind
placed_option s w = if length s.line.blocks == 0 then first_option s w else line_option s w (behind (codes "--sessions=") w)

-- ---- options before the first ADDRESS and of any block

-- --args=FD is replaced by the words of a file before a line is read. If one is left, it is no option, or its FD is no
-- descriptor.
abbrev pub args_option : SoFar → List ℕ → Option (List ℕ) → Result SoFar WordKind
args_option s w (Some text) = if is_some (descriptor_of text) then placed_option s w else Err BadNumber
args_option s w None = placed_option s w

abbrev pub args_word : SoFar → List ℕ → Result SoFar WordKind
args_word s w = args_option s w (behind (codes "--args=") w)

-- --replace
abbrev pub replace_option : SoFar → List ℕ → Result SoFar WordKind
replace_option s w =
    if bytes_eq w (codes "--replace") then Ok (record s { line = record (s.line) { replaces = true } })
    else args_word s w

-- --fd=FD, of which the last counts
abbrev pub with_starter : SoFar → List ℕ → Result SoFar WordKind
with_starter s text = or_kind BadNumber (descriptor_of text) >>= λ n. Ok (record s { line = record (s.line) { starter = Some n } })

abbrev pub starter_option : SoFar → List ℕ → Option (List ℕ) → Result SoFar WordKind
starter_option s w (Some text) = with_starter s text
starter_option s w None = replace_option s w

abbrev pub option_word : SoFar → List ℕ → Result SoFar WordKind
option_word s w = starter_option s w (behind (codes "--fd=") w)

-- ---- addresses and paths

-- there are at most 65,535 blocks
abbrev pub line_address : SoFar → List ℕ → Result SoFar WordKind
line_address s address = if length s.line.blocks == 65535 then Err TooMany else Ok (record s { pending = Some address })

-- a word in place of an ADDRESS or an option
abbrev pub line_word : SoFar → List ℕ → Result SoFar WordKind
line_word s w =
    if is_option w then option_word s w
    else (or_kind BadAddress (bus_path w) >>= line_address s)

-- a word in place of a PATH
abbrev pub line_path : SoFar → List ℕ → List ℕ → Result SoFar WordKind
line_path s address w =
    if is_empty w || is_option w then Err NoPath
    else Ok (record s { line = record (s.line) { blocks = s.line.blocks ++ record { address = address; path = w; options = s.first } ∷ [] }; pending = None })

abbrev pub line_step_at : SoFar → Option (List ℕ) → List ℕ → Result SoFar WordKind
line_step_at s None w = line_word s w
line_step_at s (Some address) w = line_path s address w

abbrev pub line_step : SoFar → List ℕ → Result SoFar WordKind
line_step s w = line_step_at s s.pending w

-- at the end no PATH may be missing, and there is a block
abbrev pub finished_at : ℕ → LineValue → Option (List ℕ) → Result LineValue BadWord
finished_at words line (Some address) = Err (record { index = words; kind = NoPath })
finished_at words line None = if length line.blocks == 0 then Err (record { index = words; kind = BadAddress }) else Ok line

abbrev pub finished : ℕ → SoFar → Result LineValue BadWord
finished words s = finished_at words s.line s.pending

unfoldable pub line_of : List (List ℕ) → Result LineValue BadWord
line_of words = each_word line_step 0 no_words words >>= finished (length words)
