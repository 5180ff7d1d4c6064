use Rattle.std.proofs.Common.{◌++◌, ap, ◌∙◌}
use Rattle.proxy_core.proofs.Taking.{bytes_in, on_ok}
use Rattle.proxy_core.proofs.queue.push_whole.Goals as goal

pub returns-clause-ok : goal.returns-clause-ok
returns-clause-ok c =
    on_ok c.push_bytes.result _ _ (λ is. is ∙ ap (λ bytes. c.args.queue.now ++ bytes) (bytes_in c.args.incoming.now.message.now c.is_spelled.ensures)) c.push_bytes.ensures.ok
