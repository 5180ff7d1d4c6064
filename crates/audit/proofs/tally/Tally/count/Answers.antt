use Rattle.std.proofs.Common.{◌+◌, ◌∙◌, ap, cond}
use Rattle.std.specs.Prelude.{is_some}
use Rattle.std.proofs.lemmas.Result.{on_ok_weaker}
use Rattle.audit.specs.Audit.{denied_by}
use Rattle.audit.proofs.Added.{tally-more}
use Rattle.audit.proofs.tally.Tally.count.Goals as goal

pub returns : goal.returns
returns c = λ notes tally.
    on_ok_weaker c.count.result
    (λ sums. tally-more c.args.policy.now notes c.args.note.now c.args.self.now (record { items = c.in_ok-self.field-0; denied = c.in_ok-self-2.field-0; sums = c.count.new.self }) c.in_ok-self.ensures
    (c.in_ok-self-2.ensures ∙ ap (λ n. c.args.self.now.denied + n) (c.denials_in.ensures ∙ ap (λ d. cond (is_some (denied_by d)) 1 0) c.decision.ensures)) sums tally)
    (c.count.ensures notes tally.sums)
