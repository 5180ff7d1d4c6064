-- The line on standard error, and the status, of a process that ends before its work.
--
--     1    error: usage                      a word isn't UTF-8, and the first word names a tool
--     1    error: word INDEX: UnknownOption  the word at INDEX isn't UTF-8
--     5    error: standard streams
--     5    error: wait
--     8    error: memory
--
-- INDEX counts the words after the program's name from 0. It is written in decimal, with no zero in front.
use Rattle.std.specs.Prelude.{◌≡◌, ℕ, ◌||◌, Bool, false, List, [], ◌∷◌, ◌++◌, ◌⊎◌, Option, bytes_eq, codes, if◌then◌else◌, length}
use Rattle.std.specs.Fmt.{decimal}
use Rattle.link_traits.specs.Told.{added, Part}
use Rattle.link_traits.specs.Texts.{texts_of}
use Rattle.process_streams.specs.declared.faults.ProcessFault.{ProcessFault}
use Rattle.process_streams.specs.declared.faults.ProcessFault.TheVariants.{NotText, ClosedStream, NoNet, Memory}

-- the name of a tool
abbrev pub is_tool_name : List ℕ → Bool
is_tool_name word =
    bytes_eq word (codes "replay") || bytes_eq word (codes "explain") || bytes_eq word (codes "twin") || bytes_eq word (codes "sample")
    || bytes_eq word (codes "audit") || bytes_eq word (codes "within") || bytes_eq word (codes "suggest")
    || bytes_eq word (codes "show") || bytes_eq word (codes "compose") || bytes_eq word (codes "session") || bytes_eq word (codes "sessions")

-- whether the first of these words names a tool
abbrev pub begins_tool : List (List ℕ) → Bool
begins_tool [] = false
begins_tool (word ∷ words) = is_tool_name word

-- the line of the word at an index
abbrev pub word_line : ℕ → List ℕ
word_line index = codes "error: word " ++ decimal index ++ codes ": UnknownOption\n"

-- the line of the first word that isn't UTF-8, by the words before it
abbrev pub not_text_line : List (List ℕ) → List ℕ
not_text_line before = if begins_tool before then codes "error: usage\n" else word_line (length before)

abbrev pub memory_line : List ℕ
memory_line = codes "error: memory\n"

-- a sink got a line, or a prefix of it if its count of faults rose
pub data Said (rose : Type 0) (old new : Option (List ℕ)) (line : List ℕ) : Type 0 where
  Whole : new ≡ added line old → Said rose old new line
  Cut : rose → Part old new line → Said rose old new line

-- a line was written, and this is the status
pub record Ends (rose : Type 0) (old new : Option (List ℕ)) (status : ℕ) (line : List ℕ) (code : ℕ) : Type 0 where
  pub is : code ≡ status
  pub said : Said rose old new line

-- The words before the first one that isn't UTF-8. No memory is needed for the line of a tool.
abbrev pub NotTextEnds : Type 0 → Option (List ℕ) → Option (List ℕ) → List (List ℕ) → ℕ → Type 0
NotTextEnds rose old new before code =
    Ends rose old new 1 (not_text_line before) code ⊎ ((begins_tool before ≡ false) × Ends rose old new 8 memory_line code)

-- how a process ends by a fault
abbrev pub FaultEnds : Type 0 → Option (List ℕ) → Option (List ℕ) → ProcessFault → ℕ → Type 0
FaultEnds rose old new (NotText before) code = NotTextEnds rose old new (texts_of before.items) code
FaultEnds rose old new ClosedStream code = Ends rose old new 5 (codes "error: standard streams\n") code
FaultEnds rose old new NoNet code = Ends rose old new 5 (codes "error: wait\n") code
FaultEnds rose old new Memory code = Ends rose old new 8 memory_line code
