-- What the words of a process come to before a net is needed.
use Rattle.std.specs.Prelude.{◌≡◌, ℕ, true, false, List, Option, IfSome, drop}
use Rattle.link_traits.specs.Views.{FilesView, SinkView, SinkRose}
use Rattle.link_traits.specs.Texts.{texts_of}
use Rattle.process_streams.specs.Faults.{FaultEnds}
use Rattle.process_streams.specs.Words.{Explains}
use Rattle.process_streams.specs.declared.faults.ProcessFault.{ProcessFault}
use Rattle.proxy_main.specs.Words.{names_tool}
use Rattle.proxy_main.specs.ToolRuns.{ToolRun}
use Rattle.proxy_main.specs.declared.process.Start.{Start}
use Rattle.proxy_main.specs.declared.process.Start.TheVariants.{Ended, Line}

-- these are the words after the program's name
abbrev pub AreAfterName : Option (List (List ℕ)) → List (List ℕ) → Type 0
AreAfterName told words = IfSome told (λ all. words ≡ drop 1 all)

-- The process ends: a tool ran by all words, or the words aren't texts.
pub data Ends (arguments : Option (List (List ℕ))) (files files' : FilesView) (out out' err err' : SinkView) (code : ℕ) : Type 0 where
  OfTool : (texts : List (List ℕ)) → AreAfterName arguments texts → names_tool texts ≡ true → ToolRun texts files files' out out' err err' code
      → Ends arguments files files' out out' err err' code
  OfFault : (fault : ProcessFault) → IfSome arguments (λ all. Explains (drop 1 all) fault) → FaultEnds (SinkRose err err') err.told err'.told fault code
      → files'.reads ≡ files.reads → out'.told ≡ out.told
      → Ends arguments files files' out out' err err' code

-- A proxy line is to be served: these are all words, and they name no tool.
pub record IsLine (arguments : Option (List (List ℕ))) (words : List (List ℕ)) : Type 0 where
  pub are : AreAfterName arguments words
  pub no_tool : names_tool words ≡ false

abbrev pub Starts : Start → (ℕ → Type 0) → (List (List ℕ) → Type 0) → Type 0
Starts (Ended status) ends line = ends status.code
Starts (Line words) ends line = line (texts_of words.items)
