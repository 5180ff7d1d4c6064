use Rattle.std.proofs.Common.{ℕ, List, [], ◌∷◌, ◌++◌, ◌∙◌, ap, sym}
use Rattle.sample.specs.Fronts.{with_numbers}
use Rattle.sample.proofs.MessageBytes.{echo_bytes}
use Rattle.sample.proofs.messages.echo_front.Goals as goal

pub returns : goal.returns
returns c = λ t long.
    ap (λ (f : List ℕ). f ++ (t ++ 0 ∷ [])) (c.set_numbers.ensures ∙ ap (λ n. with_numbers 104 c.args.serial n c.echo_template-front.result) (sym long))
    ∙ echo_bytes c.args.peer c.echo_template-front.result c.args.serial t c.echo_template-front.ensures
