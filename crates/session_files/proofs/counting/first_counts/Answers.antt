use Rattle.std.proofs.Common.{[], sym, subst}
use Rattle.session_files.specs.Counting.{AllCounted, only_session}
use Rattle.session_files.proofs.AllCounts.{all-none}
use Rattle.session_files.proofs.counting.first_counts.Goals as goal

pub returns : goal.returns
returns c =
    subst (λ v. AllCounted [] (only_session v) c.start_if_new.new.counts) (sym c.if-version-ne-VERSION.false)
    (c.in_ok-start_if_new.ensures.all [] [] (all-none c.new-counts.result c.new-counts.ensures.empty c.new-counts.ensures.ordered))
