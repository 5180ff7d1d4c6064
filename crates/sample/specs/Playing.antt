-- How far a sample was played and counted.
use Rattle.std.specs.Prelude.{◌≡◌, ◌+◌, List, [], if◌then◌else◌}
use Rattle.policy_args.specs.Policy.{Policy}
use Rattle.policy_view.specs.declared.Decision.{Decision}
use Rattle.proxy_core.specs.Sessions.{StandsFor, Taken}
use Rattle.recording.specs.Recording.{Event}
use Rattle.replay_output.specs.Output.{events_of}
use Rattle.sample.specs.Summary.{counts_of, is_hidden, is_instead, is_passed, is_pinged, is_shown}
use Rattle.sample.specs.declared.counts.Counts.{Counts}
use Rattle.sample.specs.declared.playing.Play.{Play}
use Rattle.sample.specs.declared.playing.TheConstants.{MODE}

-- the counts with one more message
abbrev pub with_decision : Decision → Counts → Counts
with_decision decision c = record c {
  items = c.items + 1;
  passed = c.passed + (if is_passed decision then 1 else 0);
  pings = c.pings + (if is_pinged decision then 1 else 0);
  shown = c.shown + (if is_shown decision then 1 else 0);
  instead = c.instead + (if is_instead decision then 1 else 0);
  hidden = c.hidden + (if is_hidden decision then 1 else 0);
}

-- the session stands for events, and all that was taken from it is counted
pub record Counted (policy : Policy) (events : List Event) (play : Play) : Type 0 where
  pub taken : Taken
  pub mode : play.session.mode ≡ MODE
  pub stands : StandsFor policy play.session (events_of events) taken
  pub counts : play.counts ≡ counts_of taken.notes taken.bus_side taken.client_side

-- and nothing waits
pub record Played (policy : Policy) (events : List Event) (play : Play) : Type 0 where
  pub counted : Counted policy events play
  pub notes : play.session.notes ≡ []
  pub for_bus : play.session.bus_side ≡ []
  pub for_client : play.session.client_side ≡ []
