use Rattle.std.proofs.Common.{sym, ◌∙◌}
use Rattle.session_files.proofs.AllCounts.{all-made, all-there, none-is}
use Rattle.session_files.proofs.counting.start_if_new.Goals as goal

pub returns-then-contains_key-clause-all : goal.returns-then-contains_key-clause-all
returns-then-contains_key-clause-all c = λ events sessions all. all-there events sessions c.args.counts.now c.args.session all (sym c.contains_key.ensures ∙ c.if-contains_key.true)

pub returns-clause-all : goal.returns-clause-all
returns-clause-all c = λ events sessions all.
    all-made events sessions c.args.counts.now c.insert.new.self c.args.session c.new.result all (none-is _ (sym c.contains_key.ensures ∙ c.if-contains_key.false)) c.in_ok-insert.ensures.updates.0
    c.in_ok-insert.ensures.entries c.insert.ensures.ordered c.new.ensures
