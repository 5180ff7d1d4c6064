use Rattle.recorded_run.proofs.Fits.{fits, read_back}
use Rattle.recorded_run.proofs.laws.what_a_server_records_fits.Goals as goal

pub returns-clause-fits : goal.returns-clause-fits
returns-clause-fits c = fits

pub returns-clause-read : goal.returns-clause-read
returns-clause-read c = read_back c.recorded_is_read.ensures.spelled c.recorded_is_read.ensures.read
