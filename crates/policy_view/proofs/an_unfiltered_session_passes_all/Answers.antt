use Rattle.policy_view.proofs.Unfiltered.{goes_on, passes_none, passes_each}
use Rattle.policy_view.proofs.an_unfiltered_session_passes_all.Goals as goal

pub returns-clause-at_start : goal.returns-clause-at_start
returns-clause-at_start c = λ policy mode unfiltered. passes_none policy mode unfiltered

pub returns-clause-with_each_event : goal.returns-clause-with_each_event
returns-clause-with_each_event c = λ policy mode event events unfiltered running. passes_each policy mode unfiltered event events running

pub returns-clause-goes_on : goal.returns-clause-goes_on
returns-clause-goes_on c = λ policy mode side piece events unfiltered running none room. goes_on policy mode unfiltered side piece events running none room
