use Rattle.std.proofs.Common.{◌∙◌, ap₂, sym}
use Rattle.clap.specs.Words.{new_app, with_rule}
use Rattle.tool_words.specs.Tools.{required_word}
use Rattle.tool_words.proofs.Places.{folded-more}
use Rattle.tool_words.proofs.tool_command.Goals as goal

pub loop-place-preserved : goal.loop-place-preserved
loop-place-preserved c =
    c.in_ok-command.ensures.shape c.required.ensures.local ∙ ap₂ with_rule c.loop-place.invariant c.required.ensures.rule
    ∙ sym (folded-more (λ command place. with_rule command (required_word place)) (new_app c.args.tool.now) c.args.places.now c.loop-place.place-index _ c.loop-place-test.true)
