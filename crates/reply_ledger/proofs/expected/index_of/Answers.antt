use Rattle.std.proofs.Common.{rules, subst}
use Rattle.std.specs.List.Sorted.{IsSearchInRange}
use Rattle.std.proofs.lemmas.List.Sorted.{answers_always}
use Rattle.reply_ledger.proofs.Queue.{searched}
use Rattle.reply_ledger.proofs.expected.index_of.Goals as goal

pub returns : goal.returns
returns g c =
    let queue = c.args.queue.now in
    let facts = c.binary_search_by_key.ensures in
    let by_position = facts.position (λ a. a.position) (answers_always _ _ _ (λ f a r g called. search rules)) in
    let within = subst (IsSearchInRange c.binary_search_by_key.result) queue.ok.0 facts.bound in
    let is = searched queue.items c.args.position c.binary_search_by_key.result within by_position in
    rw c.ok.ensures.value (record { found = is.0; absent = is.1; cost = c.tick.ensures })
