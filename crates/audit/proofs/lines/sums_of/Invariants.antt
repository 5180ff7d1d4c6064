use Rattle.std.proofs.Common.{List, drop}
use Rattle.std.specs.List.{AllZip}
use Rattle.policy_view.specs.Notes.{Note}
use Rattle.audit.specs.Tallies.{TallyOf}
use Rattle.audit.proofs.Added.{SummedTo}
use Rattle.audit.proofs.lines.sums_of.Given as goal

abbrev pub invariant-loop-tally : goal.invariant-loop-tally
invariant-loop-tally l = (recordings : List (List Note)) → AllZip (TallyOf l.policy) recordings l.tallies → SummedTo l.policy recordings (drop l.tally-index l.tallies) l.sums
