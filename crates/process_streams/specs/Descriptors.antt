-- The descriptors that are opened so that none of the three standard ones is closed.
use Rattle.std.specs.Prelude.{◌≡◌, ◌<◌, ◌++◌, ◌⊎◌, ℤ, pos, int_le, Bool, true, false, List, length, Option, ⊤, All, IfSome}
use Rattle.process_streams.specs.declared.faults.ProcessFault.{ProcessFault}
use Rattle.process_streams.specs.declared.faults.ProcessFault.TheVariants.{NotText, ClosedStream, NoNet, Memory}

-- standard input, output or error
abbrev pub is_standard : ℤ → Bool
is_standard number = int_le number (pos 2)

-- Of the descriptors that the system gave, those of at most 2 are held, and only others were closed again. The standard
-- descriptors are open then: three are held, or the system gave one above 2, or it says that none is closed.
pub record Filled (given new_given held : List ℤ) (closed : Option Bool) : Type 0 where
  pub others : List ℤ
  pub are : new_given ≡ given ++ (held ++ others)
  pub held_standard : All (λ number. is_standard number ≡ true) held
  pub others_above : All (λ number. is_standard number ≡ false) others
  pub all_open : (length held ≡ 3) ⊎ ((0 < length others) ⊎ IfSome closed (λ c. c ≡ false))

-- why they aren't filled
abbrev pub StopsFor : Option Bool → ProcessFault → Type 0
StopsFor closed (NotText before) = ⊥
StopsFor closed ClosedStream = IfSome closed (λ c. c ≡ true)
StopsFor closed NoNet = ⊥
StopsFor closed Memory = ⊤
