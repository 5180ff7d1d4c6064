use Rattle.recorded_run.proofs.Whole.{if_both, on_both, run_added, exact, read_back_of}
use Rattle.recorded_run.proofs.serving.serve_recorded.Goals as goal

pub returns-clause-exact : goal.returns-clause-exact
returns-clause-exact g c = if_both c.serve_from_start.result _ _ _
    (λ r s t. run_added _ _ _ _ _ _ _ s _ (λ was since b n stands. exact c.recorded_is_read.ensures.spelled _ _ _ _ _ t was since b n))
    c.serve_from_start.ensures.served c.serve_from_start.ensures.recording

pub returns-clause-fits : goal.returns-clause-fits
returns-clause-fits g c = on_both c.serve_from_start.result _ _ _
    (λ r s t. run_added _ _ _ _ _ _ _ s _ (λ was since b n stands none.
    c.what_a_server_records_fits.ensures.fits _ was since none (stands none) (t.fit was since b n)))
    c.serve_from_start.ensures.served c.serve_from_start.ensures.recording

pub returns-clause-read : goal.returns-clause-read
returns-clause-read g c = if_both c.serve_from_start.result _ _ _
    (λ r s t. run_added _ _ _ _ _ _ _ s _ (λ was since b n stands none.
    read_back_of c.recorded_is_read.ensures.spelled _ _ _ _ _ t was since b n
    (c.what_a_server_records_fits.ensures.read since (c.what_a_server_records_fits.ensures.fits _ was since none (stands none) (t.fit was since b n)))))
    c.serve_from_start.ensures.served c.serve_from_start.ensures.recording

pub returns-clause-histories : goal.returns-clause-histories
returns-clause-histories g c = on_both c.serve_from_start.result _ _ _
    (λ r s t. run_added _ _ _ _ _ _ _ s _ (λ was since b n stands none. c.recorded_events_have_the_histories.ensures was since none))
    c.serve_from_start.ensures.served c.serve_from_start.ensures.recording

pub returns-clause-recorded_links : goal.returns-clause-recorded_links
returns-clause-recorded_links g c = on_both c.serve_from_start.result _ _ _
    (λ r s t. run_added _ _ _ _ _ _ _ s _ (λ was since b n stands none. c.recorded_links_stand.ensures.links _ was since (stands none) none))
    c.serve_from_start.ensures.served c.serve_from_start.ensures.recording

pub returns-clause-replayed_links : goal.returns-clause-replayed_links
returns-clause-replayed_links g c = on_both c.serve_from_start.result _ _ _
    (λ r s t. run_added _ _ _ _ _ _ _ s _ (λ was since b n stands none. c.recorded_links_stand.ensures.replayed _ was since (stands none) none))
    c.serve_from_start.ensures.served c.serve_from_start.ensures.recording
