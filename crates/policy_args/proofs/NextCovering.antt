-- The entries that cover a name, one entry after the other.
use Rattle.std.proofs.Common.{◌≡◌, ℕ, ◌+◌, ◌-◌, true, false, List, ◌∷◌, Some, drop, slice_get, if◌then◌else◌, ap, sym, ◌∙◌}
use Rattle.std.proofs.Math.Nat.{add-sub_cancel}
use Rattle.std.proofs.lemmas.List.{drop_more}
use Rattle.std.proofs.lemmas.Option.{get_or_from_slice_get, slice_get_within}
use Rattle.name_patterns.specs.Patterns.{covers}
use Rattle.policy_args.specs.Covering.{covering_from, next_covering}
use Rattle.policy_args.specs.Levels.{numbers_where}
use Rattle.policy_args.specs.declared.entry.Entry.{Entry}

module _ (es : List Entry) (name : List ℕ) (k : ℕ) (e : Entry) (at : slice_get es (k + 1 - 1) ≡ Some e) where
  here : drop (k + 1 - 1) es ≡ e ∷ drop (k + 1 + 1 - 1) es
  here =
      let found : slice_get es k ≡ Some e = ap (slice_get es) (sym (add-sub_cancel k 1)) ∙ at in
      ap (λ n. drop n es) (add-sub_cancel k 1)
      ∙ drop_more es k e (slice_get_within es k e found)
      ∙ ap (λ x. x ∷ drop (k + 1) es) (get_or_from_slice_get es k e e found)
      ∙ ap (λ n. e ∷ drop n es) (sym (add-sub_cancel (k + 1) 1))

  -- an entry that covers the name, or not
  pub covering-step : covering_from es name (k + 1) ≡ (if covers e.pattern name then (k + 1) ∷ covering_from es name (k + 1 + 1) else covering_from es name (k + 1 + 1))
  covering-step = ap (numbers_where (λ x. covers x.pattern name) (k + 1)) here

  pub next-here : covers e.pattern name ≡ true → next_covering es name (k + 1) ≡ Some (k + 1)
  next-here is =
      ap (λ ns. slice_get ns 0) (covering-step ∙ ap (λ b. if b then (k + 1) ∷ covering_from es name (k + 1 + 1) else covering_from es name (k + 1 + 1)) is)

  pub next-later : covers e.pattern name ≡ false → next_covering es name (k + 1) ≡ next_covering es name (k + 1 + 1)
  next-later is =
      ap (λ ns. slice_get ns 0) (covering-step ∙ ap (λ b. if b then (k + 1) ∷ covering_from es name (k + 1 + 1) else covering_from es name (k + 1 + 1)) is)
