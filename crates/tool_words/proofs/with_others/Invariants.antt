use Rattle.std.proofs.Common.{◌≡◌, fold, map, take}
use Rattle.clap.specs.Words.{app_of, new_rule, with_rule}
use Rattle.tool_words.proofs.with_others.Given as goal

abbrev pub invariant-loop-place : goal.invariant-loop-place
invariant-loop-place l = app_of l.command ≡ fold (λ command place. with_rule command (new_rule place)) (app_of l.fn.command) (take l.place-index (map (λ p. p.now) l.others))
