use Rattle.std.proofs.Common.{map}
use Rattle.tool_words.proofs.Parsing.{is_taken, not_taken}
use Rattle.tool_words.proofs.accepted.Goals as goal

pub returns-in-Ok : goal.returns-in-Ok
returns-in-Ok c read = is_taken _ read _ c.in-Ok.matches c.in-Ok.ensures

pub returns-else-is_memory : goal.returns-else-is_memory
returns-else-is_memory c read = not_taken _ read _ c.in-Err.error c.is_memory.result c.in-Err.ensures c.is_memory.ensures c.if-is_memory.false
