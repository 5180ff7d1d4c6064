-- The record of an End by a malformed stream.
use Rattle.std.proofs.Common.{◌≡◌, ℕ, List, [], ◌∷◌, refl, ap, sym, ◌∙◌, get_or, length}
use Rattle.std.specs.Int.{w64, to_le_bytes}
use Rattle.policy_view.specs.declared.Fault.{Fault}
use Rattle.policy_view.specs.declared.Fault.TheVariants.{Line, Message}
use Rattle.replay_output.specs.Output.{fault_bytes}

-- its bytes, one by one
abbrev pub laid_out : ℕ → ℕ → ℕ → List ℕ → List ℕ
laid_out number form kind place =
    number ∷ form ∷ kind ∷ get_or place 0 0 ∷ get_or place 1 0 ∷ get_or place 2 0 ∷ get_or place 3 0
    ∷ get_or place 4 0 ∷ get_or place 5 0 ∷ get_or place 6 0 ∷ get_or place 7 0 ∷ []

pub malformed-is : (number form kind at : ℕ) (place : List ℕ) (fault : Fault) → fault_bytes fault ≡ form ∷ kind ∷ to_le_bytes w64 at → place ≡ to_le_bytes w64 at →
    laid_out number form kind place ≡ number ∷ fault_bytes fault
malformed-is number form kind at place fault parts place_is =
    ap (laid_out number form kind) place_is ∙ ap (λ (xs : List ℕ). number ∷ xs) (sym parts)

-- how many they are
pub malformed-length : (number : ℕ) (fault : Fault) → length (number ∷ fault_bytes fault) ≡ 11
malformed-length number (Line f) = refl
malformed-length number (Message m) = refl
