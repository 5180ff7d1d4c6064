-- A recording that is played event by event, and the elements of its visible part that it gives.
use Rattle.std.specs.Prelude.{◌≡◌, true, List, [], ◌∷◌, ◌++◌, take, Option, Some, None}
use Rattle.std.specs.List.{AllByRecursion}
use Rattle.policy_args.specs.Policy.{Policy}
use Rattle.policy_view.specs.Elements.{BringsBytes, elements}
use Rattle.policy_view.specs.History.{end_of}
use Rattle.policy_view.specs.declared.visible.Visible.{Visible as Element}
use Rattle.proxy_core.specs.Sessions.{SessionView, StandsFor, Taken}
use Rattle.recording.specs.Recording.{Recording}
use Rattle.replay_output.specs.Output.{events_of, history_of, mode_of}
use Rattle.replay.specs.Twins.{compared_under}
use Rattle.replay.specs.declared.watching.Watched.{Watched}

-- the session represents the events of the recording that were played, which bring bytes, and these elements were taken
-- from it
pub record Gave (policy : Policy) (recording : Recording) (watched : Watched) (given : List Element) : Type 0 where
  pub taken : Taken
  pub mode : watched.session.mode ≡ mode_of (compared_under policy) recording
  pub watches : watched.session.watches ≡ true
  pub stands : StandsFor policy watched.session (events_of (take watched.played recording.events)) taken
  pub bytes : AllByRecursion BringsBytes (events_of (take watched.played recording.events))
  pub visible : taken.visible ≡ given

-- no bytes wait for either side
pub record NothingWaits (view : SessionView) : Type 0 where
  pub for_bus : view.bus_side ≡ []
  pub for_client : view.client_side ≡ []

-- all events were played, these are all elements, and the session has the history's End
pub record GaveAll (policy : Policy) (recording : Recording) (watched : Watched) (given : List Element) : Type 0 where
  pub bytes : AllByRecursion BringsBytes (events_of recording.events)
  pub all : elements policy (history_of (compared_under policy) recording) ≡ given
  pub ended : watched.session.ended ≡ end_of (history_of (compared_under policy) recording)

-- the next element that waited was given, or none waits
abbrev pub GaveWaiting : Policy → Recording → Watched → List Element → Option Element → Type 0
GaveWaiting policy recording watched given None = Gave policy recording watched given × (watched.session.visible ≡ [])
GaveWaiting policy recording watched given (Some element) = Gave policy recording watched (given ++ element ∷ [])

-- the next element was given, or there are no more
abbrev pub GaveNext : Policy → Recording → Watched → List Element → Option Element → Type 0
GaveNext policy recording watched given None = GaveAll policy recording watched given
GaveNext policy recording watched given (Some element) = Gave policy recording watched (given ++ element ∷ [])
