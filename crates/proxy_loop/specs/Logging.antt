-- What a session and a sink are after new notes were logged.
use Rattle.std.specs.Prelude.{ℕ, ◌≡◌, ◌≤◌, Bool, true, false, List, [], ◌∷◌, ◌++◌, Option, Some, None}
use Rattle.link_traits.specs.Told.{Rose}
use Rattle.link_traits.specs.Views.{Appends, SinkView}
use Rattle.explain_log.specs.Lines.{log}
use Rattle.policy_args.specs.Policy.{Policy}
use Rattle.policy_view.specs.Notes.{Note}
use Rattle.policy_view.specs.History.{Event, Stopped}
use Rattle.policy_view.specs.declared.End.{End}
use Rattle.policy_view.specs.declared.End.TheVariants.{LogFault}
use Rattle.proxy_core.specs.Sessions.{SessionView, Taken, StandsFor}
use Rattle.proxy_core.specs.Messages.{ended_by}

-- a session that was told to stop: the first End stays
abbrev pub stopped_at : Option End → End → SessionView → SessionView
stopped_at None end session = ended_by end session
stopped_at (Some first) end session = session

-- the first notes of a session were taken, and of their lines these bytes are still to be written
pub record LogsSoFar (n : ℕ) (old now : SessionView) (before after : SinkView) (left : List ℕ) : Type 0 where
  pub taken : List Note
  pub split : old.notes ≡ taken ++ now.notes
  pub same : now ≡ record old { notes = now.notes }
  pub got : List ℕ
  pub lines : log n taken ≡ got ++ left
  pub appends : Appends before after got
  pub counts : before.faults ≤ after.faults
  pub stands : (policy : Policy) (events : List Event) (was : Taken) → StandsFor policy old events was →
      StandsFor policy now events (record was { notes = was.notes ++ taken })

-- the event that a log brings to its session: a stop, if the sink failed
abbrev pub stop_events : Bool → List Event
stop_events false = []
stop_events true = Stopped LogFault ∷ []

-- All notes were taken and their lines written; or the sink failed, whose count rose, and the session was told to stop.
abbrev pub LogEnds : Bool → SessionView → SessionView → List Note → List ℕ → SinkView → SinkView → Type 0
LogEnds false old new left rest before after = (left ≡ []) × (rest ≡ []) × (new ≡ record old { notes = [] })
LogEnds true old new left rest before after = Rose before.faults after.faults × (new ≡ stopped_at old.ended LogFault (record old { notes = left }))

-- The notes of a session were logged: the lines of those that were taken were written, or a prefix of these, and then
-- the sink failed.
pub record Logs (n : ℕ) (old new : SessionView) (before after : SinkView) : Type 0 where
  pub taken : List Note
  pub left : List Note
  pub split : old.notes ≡ taken ++ left
  pub got : List ℕ
  pub rest : List ℕ
  pub lines : log n taken ≡ got ++ rest
  pub appends : Appends before after got
  pub counts : before.faults ≤ after.faults
  pub failed : Bool
  pub ends : LogEnds failed old new left rest before after
  pub stands : (policy : Policy) (events : List Event) (was : Taken) → StandsFor policy old events was →
      StandsFor policy new (stop_events failed ++ events) (record was { notes = was.notes ++ taken })
