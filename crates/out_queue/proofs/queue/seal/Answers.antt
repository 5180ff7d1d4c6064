use Rattle.std.proofs.Common.{◌≡◌, ap, ap₂, ◌∙◌, sym, subst, ◌++◌, ◌<◌, ◌==◌, false, length, rules, arith}
use Rattle.std.proofs.lemmas.Bool.Decides.{nat_tests}
use Rattle.std.proofs.lemmas.List.Elements.{All-push, All-same}
use Rattle.std.specs.List.{concat}
use Rattle.out_queue.proofs.Parts.{concat_one_more}
use Rattle.out_queue.proofs.queue.seal.Goals as goal

pub returns-in-Ok-clause-sealed : goal.returns-in-Ok-clause-sealed
returns-in-Ok-clause-sealed c is_sealed =
    let same : c.in-Ok.part ≡ c.args.joined.now.items = search rules in
    (search rules, ap concat c.push_back_reserved.ensures.items ∙ concat_one_more c.reserve.new.self.items c.in-Ok.part ∙ ap₂ (λ a b. concat a ++ b) c.reserve.ensures.items same)

pub returns-in-Ok-clause-some : goal.returns-in-Ok-clause-some
returns-in-Ok-clause-some c all =
    let same : c.in-Ok.part ≡ c.args.joined.now.items = search rules in
    let test : (length c.args.joined.now.items == 0) ≡ false = sym c.is_empty.ensures ∙ c.if-is_empty.false in
    let some : 0 < length c.args.joined.now.items = grind (arith, nat_tests, test) in
    let part : 0 < length c.in-Ok.part = subst (λ t. 0 < length t) (sym same) some in
    All-same (λ part. 0 < length part) _ _ c.push_back_reserved.ensures.items (All-push (λ part. 0 < length part) _ c.in-Ok.part (search rules) part)
