use Rattle.std.proofs.Common.{◌-◌, sym, ◌∙◌, ap, option_map, slice_get, Some as Just}
use Rattle.policy_args.specs.Policy.{Policy, entry_word}
use Rattle.std.specs.Option.{option_copied}
use Rattle.policy_args.proofs.WordOf.{word-at}
use Rattle.policy_args.proofs.policy.Policy.word.Goals as goal

-- src/policy.rt:85:5
pub returns : goal.returns
returns c =
    ap (λ entries. option_map entry_word (slice_get entries (c.args.number - 1))) (sym (ap (λ (p : Policy). p.entries) c.self.view_is))
    ∙ word-at _ _ (c.args.number - 1) _ (c.self.invariant).0 (sym c.get_index.ensures.key ∙ ap option_copied c.in-Some.is)
    ∙ ap Just (sym c.as_str.ensures.value)
