use Rattle.proxy_run.proofs.Whole.{run_links, run_counts, run_wait, run_listen}
use Rattle.proxy_run.proofs.RunLogging.{run_logs}
use Rattle.proxy_run.proofs.running.serve.Goals as goal

pub returns-clause-links : goal.returns-clause-links
returns-clause-links g c = run_links _ _ _ _ _ _ _ c.listen_and_serve.ensures

pub returns-clause-log : goal.returns-clause-log
returns-clause-log g c = run_logs _ _ _ _ _ _ _ c.listen_and_serve.ensures

pub returns-clause-listen : goal.returns-clause-listen
returns-clause-listen g c = λ k e. run_listen _ _ k _ _ _ _ _ e c.listen_and_serve.ensures

pub returns-clause-wait : goal.returns-clause-wait
returns-clause-wait g c = λ e. run_wait _ _ _ _ _ _ _ e c.listen_and_serve.ensures

pub returns-clause-count : goal.returns-clause-count
returns-clause-count g c = run_counts _ _ _ _ _ _ _ c.listen_and_serve.ensures
