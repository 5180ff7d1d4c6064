use Rattle.std.proofs.Common.{ap, sym, ◌∙◌}
use Rattle.proxy_core.specs.Sessions.{is_memory}
use Rattle.sample.proofs.Counting.{at_end}
use Rattle.sample.proofs.playing.Play.counted.Goals as goal

pub returns : goal.returns
returns c = λ n seed played. at_end n seed c.args.self.now played (ap is_memory (sym c.ended.ensures) ∙ sym c.is_memory.ensures ∙ c.if-is_memory.false)
