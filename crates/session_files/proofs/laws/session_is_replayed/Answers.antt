use Rattle.std.proofs.Common.{ap, ◌∙◌}
use Rattle.replay.specs.SessionsOutput.{session_output}
use Rattle.session_files.specs.OneSession.{session_recording}
use Rattle.session_files.proofs.Stops.{before-stop, whole-history}
use Rattle.session_files.proofs.laws.session_is_replayed.Goals as goal

pub returns-clause-history : goal.returns-clause-history
returns-clause-history c = before-stop

pub returns-clause-whole : goal.returns-clause-whole
returns-clause-whole c = whole-history

pub returns-clause-output : goal.returns-clause-output
returns-clause-output c = λ options s session runs.
    c.one_session_replays_alike.ensures.output options (session_recording s session) session ∙ ap (session_output options.policy session) (whole-history options s session runs)
