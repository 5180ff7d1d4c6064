use Rattle.std.proofs.Common.{◌++◌, ap, sym, ◌∙◌}
use Rattle.proxy_core.proofs.Taking.{has_place, on_ok, with_reply_bytes}
use Rattle.proxy_core.proofs.queue.push_reply.Goals as goal

pub unreachable-requires : goal.unreachable-requires
unreachable-requires c = has_place c.args.incoming.now.message.now c.requires (sym c.reply_serial_place.ensures.seen ∙ c.in-None.is)

pub returns-clause-ok : goal.returns-clause-ok
returns-clause-ok c =
    on_ok c.push_with.result _ _ (λ is. is ∙ ap (λ all. c.args.queue.now ++ all) (with_reply_bytes c.args.incoming.now.message.now c.in-Some.place c.args.serial c.is_spelled.ensures c.requires (sym c.reply_serial_place.ensures.seen ∙ c.in-Some.is))) c.push_with.ensures.ok
