use Rattle.sample.proofs.SummaryWords.{counts_pushed}
use Rattle.sample.proofs.counts.Counts.line.Goals as goal

pub returns : goal.returns
returns c =
    counts_pushed c.args.self.now _ _ _ _ _ _ _ _ _ _ c.in_ok-line.ensures.bytes c.in_ok-push_count.ensures c.in_ok-push_count-2.ensures c.in_ok-push_count-3.ensures
    c.in_ok-push_count-4.ensures c.in_ok-push_count-5.ensures c.in_ok-push_count-6.ensures c.in_ok-push_count-7.ensures c.in_ok-push_count-8.ensures c.in_ok-push_str.ensures.bytes
