use Rattle.std.proofs.Common.{◌+◌, ◌==◌, cond, length, subst}
use Rattle.std.proofs.lemmas.Result.{on_ok_weaker}
use Rattle.audit.specs.Audit.{denials, is_at, rests_on}
use Rattle.audit.specs.Tallies.{Counts}
use Rattle.audit.proofs.Added.{sums-deny}
use Rattle.audit.proofs.sums.Sums.deny.Goals as goal

pub returns : goal.returns
returns c = λ policy notes note is none sums.
    let reasons = subst (λ place. Counts 17 (λ i. denials (is_at i) notes + cond (place == i) 1 0) c.raise.new.self) c.reason_place.ensures.place (c.in_ok-raise.ensures 17 _ sums.reasons) in
    on_ok_weaker c.raise-2.result
    (λ entries. sums-deny policy notes note c.args.reason (record { reasons = c.raise.new.self; entries = c.raise-2.new.self; named = c.args.self.now.named }) is none reasons
    (subst (λ number. Counts (length policy.entries + 1) (λ i. denials (rests_on i) notes + cond (number == i) 1 0) c.raise-2.new.self) c.reason_entry_number.ensures entries) sums.named_is)
    (c.raise-2.ensures _ _ sums.entries)
