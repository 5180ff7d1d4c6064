-- What a script has next, and what it names.
use Rattle.std.specs.Prelude.{◌+◌, ◌-◌, ◌^◌, ◌==◌, ◌++◌, min, ℕ, Bool, true, false, if◌then◌else◌, List, [], ◌∷◌, length, Option, Some, None}
use Rattle.link_traits.specs.Journals.{same_link}
use Rattle.link_traits.specs.Tables.{wishes_in, HasWish}
use Rattle.link_traits.specs.declared.tables.LinkTable.{LinkTable}
use Rattle.link_traits.specs.declared.links.Link.{Link as LinkOf}
use Rattle.link_traits.specs.declared.links.Ready.{Ready}
use Rattle.link_traits.specs.declared.links.Ready.TheVariants.{Listener, Link, Quiet, Failed}
use Rattle.memory_links.specs.declared.scripts.Event.{Event}
use Rattle.memory_links.specs.declared.scripts.Event.TheVariants.{Arrival, Piece, End, Room, Over}
use Rattle.memory_links.specs.declared.scripts.Step.{Step}
use Rattle.memory_links.specs.declared.scripts.Exception.{Exception}
use Rattle.memory_links.specs.declared.scripts.Pace.{Pace}
use Rattle.memory_links.specs.declared.scripts.Limit.{Limit}
use Rattle.memory_links.specs.declared.scripts.Script.{Script}

-- the number of a call among its kind, after this many others
abbrev pub next_place : ℕ → ℕ
next_place calls = min (calls + 1) (2 ^ 64 - 1)

-- the step of an event that wasn't named yet
abbrev pub step_of : Event → Step
step_of event = record { event = event; named = false }

-- what a script says: what happens in its order, the bytes of its pieces one after another, the exceptions, and how
-- many bytes links take in a write and in all
pub record ScriptView : Type 0 where
  pub steps : List Step
  pub bytes : List ℕ
  pub exceptions : List Exception
  pub paces : List Pace
  pub limits : List Limit

abbrev pub script_of : Script → ScriptView
script_of script = record {
  steps = script.steps.items;
  bytes = script.bytes.items;
  exceptions = script.exceptions.items;
  paces = script.paces.items;
  limits = script.limits.items;
}

abbrev pub nothing_said : ScriptView
nothing_said = record { steps = []; bytes = []; exceptions = []; paces = []; limits = [] }

-- a script with one more event
abbrev pub then_happens : Event → ScriptView → ScriptView
then_happens event script = record script { steps = script.steps ++ step_of event ∷ [] }

-- a script with one more piece, whose bytes follow those of the pieces before; an empty piece adds nothing
abbrev pub then_comes : LinkOf → List ℕ → ScriptView → ScriptView
then_comes link bytes script = if length bytes == 0 then script else record script {
  steps = script.steps ++ step_of (Piece link (length script.bytes) (length script.bytes + length bytes)) ∷ [];
  bytes = script.bytes ++ bytes;
}

-- a script with one more exception
abbrev pub then_excepts : Exception → ScriptView → ScriptView
then_excepts exception script = record script { exceptions = script.exceptions ++ exception ∷ [] }

-- a script with one more link that takes at most this number of bytes in a write
abbrev pub then_paces : LinkOf → ℕ → ScriptView → ScriptView
then_paces link most script = record script { paces = script.paces ++ (record { link = link; most = most }) ∷ [] }

-- a script with one more link that takes this number of bytes in all
abbrev pub then_limits : LinkOf → ℕ → ScriptView → ScriptView
then_limits link left script = record script { limits = script.limits ++ (record { link = link; left = left }) ∷ [] }

-- whether an event is bytes or the end of a link
abbrev pub comes_on : Event → LinkOf → Bool
comes_on (Piece at from end) link = same_link at link
comes_on (End at) link = same_link at link
comes_on (Arrival listener) link = false
comes_on (Room at) link = false
comes_on Over link = false

abbrev pub is_end : Event → Bool
is_end (End at) = true
is_end (Piece at from end) = false
is_end (Arrival listener) = false
is_end (Room at) = false
is_end Over = false

-- whether the end of a link is next on it
abbrev pub ends_next : LinkOf → List Step → Bool
ends_next link [] = false
ends_next link (step ∷ steps) = if comes_on step.event link then is_end step.event else ends_next link steps

-- what a wait returns for an event
abbrev pub hint_of : Event → Option Ready
hint_of (Arrival listener) = Some (Listener listener)
hint_of (Piece at from end) = Some (Link at)
hint_of (End at) = Some (Link at)
hint_of (Room at) = Some (Link at)
hint_of Over = None

-- a listener is named, or a link with a wish
abbrev pub IsWished : LinkTable → Ready → Type 0
IsWished table (Listener listener) = Unit {0}
IsWished table (Link link) = HasWish (wishes_in table link)
IsWished table Quiet = ⊥
IsWished table Failed = ⊥
