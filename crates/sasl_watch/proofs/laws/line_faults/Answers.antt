use Rattle.sasl_watch.proofs.LineTableLaws.{client_fault-table, bus_fault-table, first_in-is, first_in-only, first_in-none}
use Rattle.sasl_watch.proofs.laws.line_faults.Goals as goal

pub returns-clause-client : goal.returns-clause-client
returns-clause-client c = client_fault-table

pub returns-clause-bus : goal.returns-clause-bus
returns-clause-bus c = bus_fault-table

pub returns-clause-first : goal.returns-clause-first
returns-clause-first c = first_in-is

pub returns-clause-only : goal.returns-clause-only
returns-clause-only c = first_in-only

pub returns-clause-none : goal.returns-clause-none
returns-clause-none c = first_in-none
