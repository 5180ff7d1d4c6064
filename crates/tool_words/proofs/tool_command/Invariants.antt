use Rattle.std.proofs.Common.{◌≡◌, map, take}
use Rattle.clap.specs.Words.{app_of}
use Rattle.tool_words.specs.Tools.{command_of}
use Rattle.tool_words.proofs.tool_command.Given as goal

abbrev pub invariant-loop-place : goal.invariant-loop-place
invariant-loop-place l = app_of l.command ≡ command_of l.tool (take l.place-index (map (λ p. p.now) l.places))
