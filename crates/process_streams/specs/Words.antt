-- The words of a process that are text.
use Rattle.std.specs.Prelude.{◌≡◌, ◌++◌, ◌∷◌, ℕ, List, ⊤}
use Rattle.std.specs.Str.{IsUtf8}
use Rattle.link_traits.specs.Texts.{texts_of}
use Rattle.process_streams.specs.declared.faults.ProcessFault.{ProcessFault}
use Rattle.process_streams.specs.declared.faults.ProcessFault.TheVariants.{NotText, ClosedStream, NoNet, Memory}

-- the words before the first one that isn't text
pub record IsTextPrefix (words before : List (List ℕ)) : Type 0 where
  pub word : List ℕ
  pub after : List (List ℕ)
  pub are : words ≡ before ++ (word ∷ after)
  pub not_text : ¬ (IsUtf8 word)

-- why some words aren't texts
abbrev pub Explains : List (List ℕ) → ProcessFault → Type 0
Explains words (NotText before) = IsTextPrefix words (texts_of before.items)
Explains words ClosedStream = ⊥
Explains words NoNet = ⊥
Explains words Memory = ⊤
