use Rattle.std.proofs.Common.{◌∙◌}
use Rattle.ping_rewrite.proofs.CallBytes.{list_names_bytes}
use Rattle.ping_rewrite.proofs.calls.list_names.Goals as goal

pub returns : goal.returns
returns c = c.write_u32.ensures ∙ list_names_bytes c.args.serial
