use Rattle.explain_log.proofs.EntriesNamed.{all_speak}
use Rattle.explain_log.proofs.notes_speak_of_their_policy.Goals as goal

pub returns : goal.returns
returns c = all_speak
