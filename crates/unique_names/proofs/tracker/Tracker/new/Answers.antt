use Rattle.std.proofs.Common.{[], sym, subst}
use Rattle.unique_names.specs.Taught.{Fits, Ids, Taught}
use Rattle.unique_names.proofs.Learned.{start-fits, start-taught}
use Rattle.unique_names.proofs.tracker.Tracker.new.Goals as goal

pub returns-clause-taught : goal.returns-clause-taught
returns-clause-taught c = λ policy. subst (λ (ids : Ids). Taught ids policy []) (sym c.empty.ensures) (start-taught policy)

pub returns-clause-fits : goal.returns-clause-fits
returns-clause-fits c = λ policy. subst (λ (ids : Ids). Fits ids policy) (sym c.empty.ensures) (start-fits policy)
