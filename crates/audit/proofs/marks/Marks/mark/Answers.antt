use Rattle.std.proofs.Common.{ap}
use Rattle.std.proofs.lemmas.Result.{on_ok_weaker}
use Rattle.audit.proofs.Named.{marked-again, marked-more}
use Rattle.audit.proofs.marks.Marks.mark.Goals as goal

pub returns-then-is_last : goal.returns-then-is_last
returns-then-is_last c = λ names marked. marked-again c.args.policy.now.entries names c.args.self.now c.args.name.now (c.is_last.ensures c.if-is_last.true) marked

pub returns : goal.returns
returns c = λ names marked.
    on_ok_weaker c.keep_last.result
    (λ last. marked-more c.args.policy.now.entries names c.args.self.now c.keep_last.new.self c.mark_covering.new.self.marks.items c.args.name.now c.mark_covering.ensures.len c.mark_covering.ensures.at
    (ap (λ marks. marks.items) c.keep_last.ensures.marks) last marked)
    c.keep_last.ensures.last
