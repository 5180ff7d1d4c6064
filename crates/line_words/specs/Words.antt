-- The words of a proxy line. `--args-file=FILE` is replaced by the words in FILE, and `--args=FD` by those in
-- /dev/fd/FD.
--
-- The files are read in the order of the words, and each is cut into words before the next is read. A NUL ends each
-- word of a file, and these two options can't be used in a file. Then all words are read as a line. An index counts all
-- of them, and the words of a file are counted in place of the word that names it.
use Rattle.std.specs.Prelude.{ℕ, ◌+◌, nat_lt, List, [], ◌∷◌, ◌++◌, length, codes, Option, Some, None, option_map, Result, Ok, Err, if◌then◌else◌}
use Rattle.std.specs.Option.{option_and_then}
use Rattle.policy_args.specs.declared.BadWord.{BadWord}
use Rattle.policy_args.specs.Words.{words_in, behind}
use Rattle.policy_args.specs.ProxyLine.{LineValue, descriptor_of, line_of}
use Rattle.line_words.specs.declared.reading.TheConstants.{ARGS_LIMIT}

-- the result of words
pub data Line : Type 0 where
  -- a file is needed of which nothing is known
  Untold : Line
  -- a file of words is above its limit
  TooLong : Line
  -- a word is bad
  Bad : BadWord → Line
  -- the words give a line
  Reads : LineValue → Line

-- what is known of the files, by their paths
abbrev pub Told : Type 0
Told = List ℕ → Option (List ℕ)

-- the path of a descriptor
abbrev pub descriptor_path : List ℕ → Option (List ℕ)
descriptor_path text = option_map (λ n. codes "/dev/fd/" ++ text) (descriptor_of text)

abbrev pub or_descriptor : List ℕ → Option (List ℕ) → Option (List ℕ)
or_descriptor word (Some path) = Some path
or_descriptor word None = option_and_then descriptor_path (behind (codes "--args=") word)

-- the path that a word names: FILE by --args-file=FILE, and /dev/fd/FD by --args=FD if FD is a descriptor
abbrev pub args_path : List ℕ → Option (List ℕ)
args_path word = or_descriptor word (behind (codes "--args-file=") word)

abbrev pub with_words : List (List ℕ) → Result (List (List ℕ)) BadWord → (List (List ℕ) → Line) → Line
with_words before (Ok words) next = next (before ++ words)
with_words before (Err bad) next = Bad (record { index = length before + bad.index; kind = bad.kind })

abbrev pub with_file : List (List ℕ) → Option (List ℕ) → (List (List ℕ) → Line) → Line
with_file before None next = Untold
with_file before (Some bytes) next = if nat_lt ARGS_LIMIT (length bytes) then TooLong else with_words before (words_in bytes) next

-- a word, or the words of the file that it names, after those before; and then what follows
abbrev pub with_word : Told → List (List ℕ) → List ℕ → Option (List ℕ) → (List (List ℕ) → Line) → Line
with_word told before word None next = next (before ++ word ∷ [])
with_word told before word (Some path) next = with_file before (told path) next

abbrev pub read_all : Result LineValue BadWord → Line
read_all (Ok line) = Reads line
read_all (Err bad) = Bad bad

-- the words one after the other, and then the line of all
abbrev pub line_from : Told → List (List ℕ) → List (List ℕ) → Line
line_from told before [] = read_all (line_of before)
line_from told before (word ∷ words) = with_word told before word (args_path word) (λ now. line_from told now words)

abbrev pub line_in : Told → List (List ℕ) → Line
line_in told words = line_from told [] words
