use Rattle.recorded_run.proofs.Links.{links_recorded, links_replayed}
use Rattle.recorded_run.proofs.laws.recorded_links_stand.Goals as goal

pub returns-clause-links : goal.returns-clause-links
returns-clause-links c = links_recorded c.recorded_events_have_the_histories.ensures

pub returns-clause-replayed : goal.returns-clause-replayed
returns-clause-replayed c = links_replayed c.recorded_events_have_the_histories.ensures
