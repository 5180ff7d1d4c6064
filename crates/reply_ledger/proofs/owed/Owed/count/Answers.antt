use Rattle.std.proofs.Common.{ap, sym, ◌∙◌, unwrap_or}
use Rattle.std.specs.FinMap as map
use Rattle.reply_ledger.specs.Owed.{count_in, count_of}
use Rattle.reply_ledger.proofs.Counting.{count_empty}
use Rattle.byte_lists.proofs.TextMaps.{get_text}
use Rattle.reply_ledger.proofs.owed.Owed.count.Goals as goal

pub returns-in-Some-clause-count : goal.returns-in-Some-clause-count
returns-in-Some-clause-count c =
    c.count.ensures
    ∙ ap (λ o. count_in (unwrap_or o map.empty) c.args.serial) (c.in-Some.ensures.value ∙ sym (get_text c.self.inside.senders.entries c.args.sender.now))
    ∙ ap (λ owed. count_of owed c.args.sender.now c.args.serial) c.self.view_is

pub returns-in-None-clause-count : goal.returns-in-None-clause-count
returns-in-None-clause-count c =
    sym (count_empty c.args.serial)
    ∙ ap (λ o. count_in (unwrap_or o map.empty) c.args.serial) (c.in-None.ensures.value ∙ sym (get_text c.self.inside.senders.entries c.args.sender.now))
    ∙ ap (λ owed. count_of owed c.args.sender.now c.args.serial) c.self.view_is
