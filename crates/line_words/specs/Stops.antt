-- The result of reading words, given what is known of the files.
use Rattle.std.specs.Prelude.{◌≡◌, ◌≤◌, ◌<◌, ◌+◌, ◌⊎◌, ℕ, List, [], length, Option, None, Err, IfSome, bytes_eq, string_bytes, if◌then◌else◌}
use Rattle.policy_args.specs.Words.{words_in}
use Rattle.line_words.specs.declared.reading.TheConstants.{ARGS_LIMIT}
use Rattle.line_words.specs.declared.reading.LineStop.{LineStop}
use Rattle.line_words.specs.declared.reading.LineStop.TheVariants as stop
use Rattle.line_words.specs.Words.{Told, Line, Untold, TooLong, Bad, Reads, line_from}

-- all that the words need is known
abbrev pub IsSettled : Line → Type 0
IsSettled Untold = ⊥
IsSettled TooLong = Unit {0}
IsSettled (Bad bad) = Unit {0}
IsSettled (Reads line) = Unit {0}

-- if it is, this is the result of the words
abbrev pub Agrees : Line → Line → Type 0
Agrees line this = IsSettled line → line ≡ this

-- what is known if nothing is known of one path
abbrev pub without : List ℕ → Told → Told
without path told p = if bytes_eq p path then None else told p

-- why words give no line: what is known settles it, or a file wasn't read without which nothing is settled
abbrev pub StopsFrom : Told → List (List ℕ) → List (List ℕ) → LineStop → Type 0
StopsFrom told before words (stop.File path) = line_from (without (string_bytes path) told) before words ≡ Untold
StopsFrom told before words stop.TooLong = Agrees (line_from told before words) TooLong
StopsFrom told before words (stop.Bad bad) = Agrees (line_from told before words) (Bad bad)
StopsFrom told before words stop.Memory = Unit {0}

abbrev pub StopsBy : Told → List (List ℕ) → LineStop → Type 0
StopsBy told words why = StopsFrom told [] words why

-- a file is the reason only if the files' count of faults rose
abbrev pub CausedBy : Type 0 → LineStop → Type 0
CausedBy rose (stop.File path) = rose
CausedBy rose stop.TooLong = Unit {0}
CausedBy rose (stop.Bad bad) = Unit {0}
CausedBy rose stop.Memory = Unit {0}

-- of each file, `some` knows nothing or what is known
abbrev pub Knows : Told → Told → Type 0
Knows some told = (p : List ℕ) → (some p ≡ None) ⊎ (some p ≡ told p)

-- With the words that were taken, whatever is known of the files: nothing is settled, or the result of all words is
-- that of the rest after those.
abbrev pub Expands : Told → List (List ℕ) → List (List ℕ) → List (List ℕ) → List (List ℕ) → Type 0
Expands told before words after rest = (some : Told) → Knows some told → (line_from some before words ≡ Untold) ⊎ (line_from some before words ≡ line_from some after rest)

-- why a file gives no words
abbrev pub FileStops : Option (List ℕ) → List ℕ → LineStop → Type 0
FileStops told path (stop.File p) = string_bytes p ≡ path
FileStops told path stop.TooLong = IfSome told (λ bytes. ARGS_LIMIT < length bytes)
FileStops told path (stop.Bad bad) = IfSome told (λ bytes. (length bytes ≤ ARGS_LIMIT) × (words_in bytes ≡ Err bad))
FileStops told path stop.Memory = Unit {0}

-- the index of a bad word counts the words before the file's
abbrev pub IsBehind : ℕ → LineStop → LineStop → Type 0
IsBehind count (stop.File path) now = now ≡ stop.File path
IsBehind count stop.TooLong now = now ≡ stop.TooLong
IsBehind count (stop.Bad bad) now = (now ≡ stop.Bad (record { index = count + bad.index; kind = bad.kind })) ⊎ (now ≡ stop.Memory)
IsBehind count stop.Memory now = now ≡ stop.Memory
