use Rattle.std.proofs.Common.{◌≡◌, ap, ◌∙◌, [], ◌++◌, rules}
use Rattle.std.specs.List.{concat}
use Rattle.out_queue.proofs.Parts.{concat_one_more}
use Rattle.out_queue.proofs.queue.seal_with.Goals as goal

pub returns-clause-sealed : goal.returns-clause-sealed
returns-clause-sealed c =
    let sealed : concat c.seal.new.parts.items ≡ concat c.args.parts.now.items ++ c.args.joined.now.items = search rules in
    let none : c.seal.new.joined.items ≡ [] = search rules in (
      none,
      ap concat c.push_back_reserved.ensures.items
          ∙ concat_one_more c.seal.new.parts.items c.args.part
          ∙ ap (λ t. t ++ c.args.part) sealed,
    )
