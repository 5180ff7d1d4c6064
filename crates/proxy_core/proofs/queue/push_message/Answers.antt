use Rattle.std.proofs.Common.{◌++◌, ap, ◌∙◌}
use Rattle.proxy_core.proofs.Taking.{on_ok, with_serial_bytes}
use Rattle.proxy_core.proofs.queue.push_message.Goals as goal

pub returns-clause-ok : goal.returns-clause-ok
returns-clause-ok c =
    on_ok c.push_with.result _ _ (λ is. is ∙ ap (λ all. c.args.queue.now ++ all) (with_serial_bytes c.args.incoming.now.message.now c.args.serial c.is_spelled.ensures)) c.push_with.ensures.ok
