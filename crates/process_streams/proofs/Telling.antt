-- How a process ends by a word that isn't UTF-8.
use Rattle.std.proofs.Common.{◌≡◌, ℕ, List, Option, subst, sym, inl, String, Vec, Global}
use Rattle.link_traits.specs.Texts.{texts_of}
use Rattle.process_streams.specs.Faults.{Ends, NotTextEnds, FaultEnds, not_text_line}
use Rattle.process_streams.specs.declared.faults.ProcessFault.{ProcessFault}
use Rattle.process_streams.specs.declared.faults.ProcessFault.TheVariants.{NotText}

pub by_line : (rose : Type 0) (old new : Option (List ℕ)) (before : List (List ℕ)) (line : List ℕ) (code : ℕ) → Ends rose old new 1 line code → line ≡ not_text_line before → NotTextEnds rose old new before code
by_line rose old new before line code e l = inl (subst (λ (t : List ℕ). Ends rose old new 1 t code) l e)

pub by_fault : (rose : Type 0) (old new : Option (List ℕ)) (fault : ProcessFault) (before : Vec (String Global) Global) (words : List (String Global)) (code : ℕ) → fault ≡ NotText before → words ≡ before.items → NotTextEnds rose old new (texts_of words) code → FaultEnds rose old new fault code
by_fault rose old new fault before words code f w e =
    subst (λ (x : ProcessFault). FaultEnds rose old new x code) (sym f) (subst (λ (l : List (String Global)). NotTextEnds rose old new (texts_of l) code) w e)
