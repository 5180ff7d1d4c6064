use Rattle.std.proofs.Common.{◌∙◌, Err, ap, arith, map, string_bytes, sym}
use Rattle.policy_suggest.proofs.EntriesRead.{words-few, words-good, words-policy}
use Rattle.policy_suggest.proofs.suggesting.suggest.Goals as goal

pub returns-in-Ok-clause-few : goal.returns-in-Ok-clause-few
returns-in-Ok-clause-few c = words-few c.args.asked.now c.in_ok-words.words.items c.in_ok-words.ensures (omega (arith, c.len.ensures, c.if-len-gt-MOST_ENTRIES.false))

pub returns-in-Ok-clause-policy : goal.returns-in-Ok-clause-policy
returns-in-Ok-clause-policy c =
    words-policy c.args.asked.now c.in_ok-words.words.items c.in_ok-words.ensures c.requires (omega (arith, c.len.ensures, c.if-len-gt-MOST_ENTRIES.false)) c.read_options.result
    _ (ap (map (λ w. string_bytes w)) c.deref.ensures.value) c.read_options.ensures c.in-Ok.options c.in-Ok.is

pub unreachable-requires : goal.unreachable-requires
unreachable-requires c =
    words-good c.args.asked.now c.in_ok-words.words.items c.in_ok-words.ensures c.requires (omega (arith, c.len.ensures, c.if-len-gt-MOST_ENTRIES.false)) c.read_options.result
    _ (ap (map (λ w. string_bytes w)) c.deref.ensures.value) c.read_options.ensures c.in-Err-Bad.field-0-0 (c.in-Err-Bad.is ∙ ap Err c.in-Err-Bad.field-0-is)
