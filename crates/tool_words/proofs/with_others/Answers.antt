use Rattle.std.proofs.Common.{◌∙◌, ap₂, sym}
use Rattle.clap.specs.Words.{app_of, new_rule, with_rule}
use Rattle.tool_words.proofs.Places.{folded-more}
use Rattle.tool_words.proofs.with_others.Goals as goal

pub loop-place-preserved : goal.loop-place-preserved
loop-place-preserved c =
    c.in_ok-command.ensures.shape c.optional.ensures.local ∙ ap₂ with_rule c.loop-place.invariant c.optional.ensures.rule
    ∙ sym (folded-more (λ command place. with_rule command (new_rule place)) (app_of c.args.command) c.args.others.now c.loop-place.place-index _ c.loop-place-test.true)
