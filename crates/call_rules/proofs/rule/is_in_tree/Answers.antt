use Rattle.std.proofs.Common.{◌∙◌, ◌&&◌, Bool, List, ℕ, ap, ap₂, sym, length, drop}
use Rattle.std.proofs.lemmas.List.{take_rest}
use Rattle.call_rules.proofs.Trees.{goes_on, goes_on-end, goes_on-next, matches-goes_on}
use Rattle.call_rules.proofs.rule.is_in_tree.Goals as goal

pub returns-then-not-starts_with : goal.returns-then-not-starts_with
returns-then-not-starts_with c =
    ap (λ b. b && goes_on c.args.below (drop (length c.args.path.now) c.args.given.now)) (sym c.if-not-starts_with.true ∙ c.starts_with.ensures.value)
    ∙ sym (matches-goes_on c.args.path.now c.args.given.now c.args.below)

pub returns-in-empty : goal.returns-in-empty
returns-in-empty c =
    goes_on-end c.args.below _ c.in-empty.len_below
    ∙ ap₂ (λ (b : Bool) (rest : List ℕ). b && goes_on c.args.below rest) (sym c.if-not-starts_with.false ∙ c.starts_with.ensures.value) (take_rest c.args.given.now (length c.args.path.now))
    ∙ sym (matches-goes_on c.args.path.now c.args.given.now c.args.below)

pub returns-then-below : goal.returns-then-below
returns-then-below c =
    goes_on-next c.args.below _ c.in-len1-up.len_at_least c.if-below.true
    ∙ ap₂ (λ (b : Bool) (rest : List ℕ). b && goes_on c.args.below rest) (sym c.if-not-starts_with.false ∙ c.starts_with.ensures.value) (take_rest c.args.given.now (length c.args.path.now))
    ∙ sym (matches-goes_on c.args.path.now c.args.given.now c.args.below)
