-- The files that words name, and which of them were read.
use Rattle.std.specs.Prelude.{◌≡◌, ℕ, nat_lt, List, [], ◌∷◌, ◌++◌, length, Option, Some, None, Result, Ok, Err, string_bytes, if◌then◌else◌}
use Rattle.std.specs.List.{filter_map}
use Rattle.link_traits.specs.Told.{ReadFront, ReadTo}
use Rattle.policy_args.specs.declared.BadWord.{BadWord}
use Rattle.policy_args.specs.Words.{words_in}
use Rattle.line_words.specs.declared.reading.TheConstants.{ARGS_LIMIT}
use Rattle.line_words.specs.declared.reading.LineStop.{LineStop}
use Rattle.line_words.specs.declared.reading.LineStop.TheVariants as stop
use Rattle.line_words.specs.Words.{Told, args_path, line_from}
use Rattle.line_words.specs.Stops.{IsSettled}

-- the paths that words name, in the order of the words
abbrev pub paths_in : List (List ℕ) → List (List ℕ)
paths_in words = filter_map args_path words

-- If words stop, the files that were read are a prefix of those that they name. If one of these is the reason, it is
-- the last that was read.
abbrev pub ReadUntil : List (List ℕ) → List (List ℕ) → List (List ℕ) → LineStop → Type 0
ReadUntil named reads new_reads (stop.File path) = ReadTo (string_bytes path) named reads new_reads
ReadUntil named reads new_reads stop.TooLong = ReadFront named reads new_reads
ReadUntil named reads new_reads (stop.Bad bad) = ReadFront named reads new_reads
ReadUntil named reads new_reads stop.Memory = ReadFront named reads new_reads

-- a file that wasn't read is the one that a word names
abbrev pub IsNamedBy : List ℕ → LineStop → Type 0
IsNamedBy word (stop.File path) = args_path word ≡ Some (string_bytes path)
IsNamedBy word stop.TooLong = Unit {0}
IsNamedBy word (stop.Bad bad) = Unit {0}
IsNamedBy word stop.Memory = Unit {0}

-- ---- the files that are needed

-- more files are needed after words that aren't bad, ..
abbrev pub unless_bad : Result (List (List ℕ)) BadWord → List (List ℕ) → List (List ℕ)
unless_bad (Ok words) more = more
unless_bad (Err bad) more = []

-- .. and after a file of words that isn't known to be bad or above its limit
abbrev pub behind_file : Option (List ℕ) → List (List ℕ) → List (List ℕ)
behind_file None more = more
behind_file (Some bytes) more = if nat_lt ARGS_LIMIT (length bytes) then [] else unless_bad (words_in bytes) more

-- files of words, up to the first that is bad
abbrev pub up_to_bad : Told → List (List ℕ) → List (List ℕ)
up_to_bad told [] = []
up_to_bad told (path ∷ others) = path ∷ behind_file (told path) (up_to_bad told others)

-- the files that words need: those that they name, up to the first that is known to be bad
abbrev pub needed_by : Told → List (List ℕ) → List (List ℕ)
needed_by told words = up_to_bad told (paths_in words)

-- Which of the needed files were read before words stopped: a prefix of them; and all, if a refusal is settled by what
-- is known.
abbrev pub NeededUntil : Type 0 → List (List ℕ) → List (List ℕ) → List (List ℕ) → LineStop → Type 0
NeededUntil settled needed reads new_reads (stop.File path) = ReadFront needed reads new_reads
NeededUntil settled needed reads new_reads stop.TooLong = ReadFront needed reads new_reads × (settled → new_reads ≡ reads ++ needed)
NeededUntil settled needed reads new_reads (stop.Bad bad) = ReadFront needed reads new_reads × (settled → new_reads ≡ reads ++ needed)
NeededUntil settled needed reads new_reads stop.Memory = ReadFront needed reads new_reads

-- .. and before they gave something: all
abbrev pub ReadsNeeded : {A : Type 0} → Type 0 → List (List ℕ) → List (List ℕ) → List (List ℕ) → Result A LineStop → Type 0
ReadsNeeded settled needed reads new_reads (Ok x) = new_reads ≡ reads ++ needed
ReadsNeeded settled needed reads new_reads (Err why) = NeededUntil settled needed reads new_reads why

-- no file that these words name is bad, so files after them are needed too
abbrev pub NoneIsBad : Told → List (List ℕ) → Type 0
NoneIsBad told words = (others : List (List ℕ)) → up_to_bad told (paths_in words ++ others) ≡ paths_in words ++ up_to_bad told others

-- the file that this word names is bad, so none after it is needed
abbrev pub IsLast : Told → List ℕ → Type 0
IsLast told word = (others : List (List ℕ)) → up_to_bad told (paths_in (word ∷ []) ++ others) ≡ paths_in (word ∷ [])

-- the file of a word that is refused is bad, if the result of all words is settled
abbrev pub EndsNeeded : Told → List (List ℕ) → List ℕ → LineStop → Type 0
EndsNeeded told before word (stop.File path) = Unit {0}
EndsNeeded told before word stop.TooLong = (rest : List (List ℕ)) → IsSettled (line_from told before (word ∷ rest)) → IsLast told word
EndsNeeded told before word (stop.Bad bad) = (rest : List (List ℕ)) → IsSettled (line_from told before (word ∷ rest)) → IsLast told word
EndsNeeded told before word stop.Memory = Unit {0}
