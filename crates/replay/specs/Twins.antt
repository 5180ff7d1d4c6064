-- The visible parts of two recordings under one policy, compared.
use Rattle.std.specs.Prelude.{◌≡◌, ℕ, true, false, List, Option}
use Rattle.policy_args.specs.Policy.{Policy}
use Rattle.policy_args.specs.Words.{PolicyOptions}
use Rattle.policy_view.specs.Elements.{DifferFirst}
use Rattle.policy_view.specs.Visible.{Visible, part}
use Rattle.policy_view.specs.declared.End.{End}
use Rattle.recording.specs.Recording.{Recording}
use Rattle.replay_output.specs.Output.{history_of}
use Rattle.replay.specs.declared.comparing.TwinAnswer.{TwinAnswer}
use Rattle.replay.specs.declared.comparing.TwinAnswer.TheVariants.{Same, Differ}

-- Recordings are compared as the policy filters them, whatever a policy file asks for.
abbrev pub compared_under : Policy → PolicyOptions
compared_under policy = record { filter = true; log = false; policy = policy }

-- what is left of a recording's history when all that the policy hides is erased
abbrev pub part_of_recording : Policy → Recording → List Visible
part_of_recording policy recording = part policy (history_of (compared_under policy) recording)

-- the parts are equal, or this is the first place at which they differ
abbrev pub Compares : List Visible → List Visible → TwinAnswer → Type 0
Compares one other Same = one ≡ other
Compares one other (Differ place) = DifferFirst place one other

-- and so the Ends, which have this index after equal elements
abbrev pub ComparesEnds : Option End → Option End → ℕ → TwinAnswer → Type 0
ComparesEnds one other place Same = one ≡ other
ComparesEnds one other place (Differ at) = (at ≡ place) × (one ≡ other → ⊥)
