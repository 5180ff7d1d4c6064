use Rattle.audit.specs.Audit.{named}
use Rattle.audit.proofs.Added.{sums-add}
use Rattle.audit.proofs.sums.Sums.add.Goals as goal

pub returns : goal.returns
returns c = λ policy notes more one two.
    sums-add policy notes more (record { reasons = c.add.new.self; entries = c.add-2.new.self; named = c.add-3.new.self }) (c.in_ok-add.ensures _ _ _ one.reasons two.reasons) (c.in_ok-add-2.ensures _ _ _ one.entries two.entries)
    (c.add-3.ensures policy.entries (named notes) (named more) one.named_is two.named_is)
