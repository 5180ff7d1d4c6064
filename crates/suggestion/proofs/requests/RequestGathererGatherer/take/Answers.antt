use Rattle.std.proofs.lemmas.Result.{on_ok_weaker}
use Rattle.suggestion.proofs.Joining.{gathered-more}
use Rattle.suggestion.proofs.requests.RequestGathererGatherer.take.Goals as goal

pub returns : goal.returns
returns c = λ notes so_far.
    on_ok_weaker c.take.result (λ added. gathered-more notes c.args.note.now c.args.gathered.now c.take.new.self so_far added c.take.ensures.grammar) c.take.ensures.added
