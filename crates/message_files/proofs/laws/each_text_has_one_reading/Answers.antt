use Rattle.message_files.proofs.Readings.{one_reading, reads}
use Rattle.message_files.proofs.laws.each_text_has_one_reading.Goals as goal

pub returns-clause-reads : goal.returns-clause-reads
returns-clause-reads c = reads

pub returns-clause-one : goal.returns-clause-one
returns-clause-one c = one_reading
