use Rattle.std.proofs.Common.{◌∙◌}
use Rattle.ping_rewrite.proofs.CallBytes.{ping_bytes}
use Rattle.ping_rewrite.proofs.calls.ping.Goals as goal

pub returns : goal.returns
returns c = c.write_u32.ensures ∙ ping_bytes c.args.serial
