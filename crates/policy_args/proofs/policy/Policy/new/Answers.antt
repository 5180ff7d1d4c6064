use Rattle.std.proofs.Common.{◌≡◌, [], List, length, map, refl, ap, sym, ◌∙◌, subst, arith, string_bytes}
use Rattle.std.specs.List.{list_all}
use Rattle.name_patterns.specs.Patterns.{is_pattern}
use Rattle.policy_args.specs.Policy.{entry_word, patterns_of}
use Rattle.policy_args.specs.Distinct.{AreOf, no_patterns}
use Rattle.name_patterns.specs.PatternIndex.{Indexes}
use Rattle.policy_args.specs.EntryRanks.{ranked}
use Rattle.policy_args.specs.declared.entry.Entry.{Entry}
use Rattle.policy_args.proofs.policy.Policy.new.Goals as goal

none-of : AreOf [] no_patterns
unfolding patterns_of
none-of = (refl, refl)

pub invariant_of-result : goal.invariant_of-result
invariant_of-result c =
    let none : c.new-2.result.items ≡ [] = c.new-2.ensures.items in (
      ap (map (λ k. string_bytes k)) c.new.ensures.empty ∙ sym (ap (map entry_word) none),
      (let short = ap length none in omega arith),
      subst (λ (es : List Entry). AreOf es c.new-3.result) (sym none) (subst (AreOf []) (sym c.new-3.ensures) none-of),
      ap (list_all (λ e. is_pattern e.pattern)) none,
      subst (λ (es : List Entry). Indexes (ranked es) c.new-4.result) (sym none) c.new-4.ensures,
    )
