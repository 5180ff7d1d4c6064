use Rattle.std.proofs.Common.{rules}
use Rattle.call_rules.proofs.Cutting.{bytes_cut_at_last}
use Rattle.call_rules.proofs.parts.last_dot.Goals as goal

pub returns : goal.returns
returns c = bytes_cut_at_last c.args.text.now _ c.args.end _ c.as_bytes.ensures.value c.requires (search rules)
