use Rattle.std.proofs.Common.{ℕ, List, [], ◌∷◌, ◌++◌, ◌∙◌, ap, sym}
use Rattle.sample.specs.Fronts.{with_numbers}
use Rattle.sample.proofs.MessageBytes.{tick_bytes}
use Rattle.sample.proofs.messages.tick_front.Goals as goal

pub returns : goal.returns
returns c = λ t long.
    ap (λ (f : List ℕ). f ++ (t ++ 0 ∷ [])) (c.set_numbers.ensures ∙ ap (λ n. with_numbers 96 c.args.serial n c.tick_template-front.result) (sym long))
    ∙ tick_bytes c.args.peer c.tick_template-front.result c.args.serial t c.tick_template-front.ensures
