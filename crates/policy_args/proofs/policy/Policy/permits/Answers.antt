use Rattle.std.proofs.Common.{◌≡◌, Bool, true, false, ◌||◌, refl, ap, ap₂, sym, ◌∙◌}
use Rattle.policy_args.specs.Policy.{at_least, level}
use Rattle.policy_args.specs.Requests.{asked_name, has_entry, level_asked, rule_matches}
use Rattle.policy_args.proofs.PermitsLaws.{permits-parts}
use Rattle.policy_args.proofs.policy.Policy.permits.Goals as goal

or-true : (a b : Bool) → a ≡ true → a ≡ (a || b)
or-true true b is = refl
or-true false b is = absurd cc

or-false : (a b : Bool) → a ≡ false → b ≡ (a || b)
or-false true b is = absurd cc
or-false false b is = refl

pub returns-then-is_at_least : goal.returns-then-is_at_least
returns-then-is_at_least c =
    let policy = c.args.self.now in
    let asked = c.args.asked.now in
    let rules = has_entry policy (asked_name asked) (rule_matches asked) in
    let reached : c.is_at_least.result ≡ at_least (level_asked asked) (level policy (asked_name asked)) =
    c.is_at_least.ensures ∙ ap₂ at_least c.level-2.ensures (c.level.ensures ∙ ap (level policy) c.name.ensures) in
    or-true c.is_at_least.result rules c.if-is_at_least.true ∙ ap (λ b. b || rules) reached ∙ sym (permits-parts policy asked)

pub returns-else-is_at_least : goal.returns-else-is_at_least
returns-else-is_at_least c =
    let policy = c.args.self.now in
    let asked = c.args.asked.now in
    let rules = has_entry policy (asked_name asked) (rule_matches asked) in
    let reached : c.is_at_least.result ≡ at_least (level_asked asked) (level policy (asked_name asked)) =
    c.is_at_least.ensures ∙ ap₂ at_least c.level-2.ensures (c.level.ensures ∙ ap (level policy) c.name.ensures) in
    c.has_rule.ensures ∙ or-false c.is_at_least.result rules c.if-is_at_least.false ∙ ap (λ b. b || rules) reached ∙ sym (permits-parts policy asked)
