-- What is explained of a note that was found, and of none.
use Rattle.std.proofs.Common.{◌≡◌, ℕ, true, List, Option, Some, None, Result, Ok, Err, OnOk, refl, ap, sym, ◌∙◌, option_map}
use Rattle.link_traits.specs.Told.{added}
use Rattle.policy_args.specs.Words.{PolicyOptions}
use Rattle.policy_view.specs.Notes.{Note, notes}
use Rattle.recording.specs.Recording.{Recording}
use Rattle.replay_output.specs.Output.{history_of}
use Rattle.replay_output.specs.Explained.{with_log, note_at, explanation, explained}

-- by the session's notes
pub explained_of : (o : PolicyOptions) (r : Recording) (ns : List Note) (number : ℕ) (found : Option Note) → (true ≡ true → ns ≡ notes o.policy (history_of (with_log o) r)) → found ≡ note_at ns number →
    explained o r number ≡ option_map (explanation o.policy) found
unfolding explained
explained_of o r ns number found noted is = sym (ap (option_map (explanation o.policy)) (is ∙ ap (λ xs. note_at xs number) (noted refl)))

some_is_not_none : {A : Type 0} (x : A) → Some x ≡ None → ⊥
some_is_not_none x e = cc

pub never_none : {A : Type 0} (o : Option A) (x : A) (B : Type 0) → o ≡ Some x → o ≡ None → B
never_none o x B is none = absurd (some_is_not_none x (sym is ∙ none))

-- all was written
pub written : {E : Type 0} (result : Result (Unit {0}) E) (o : Option (List ℕ)) (bytes : List ℕ) (old new : Option (List ℕ)) → o ≡ Some bytes → OnOk result (new ≡ added bytes old) →
    OnOk result ((all : List ℕ) × (o ≡ Some all) × (new ≡ added all old))
written (Ok x) o bytes old new is got = (bytes, is, got)
written (Err e) o bytes old new is got = tt
