use Rattle.std.proofs.Common.{◌≡◌, ◌<◌, ◌↔◌, List, [], ◌∷◌, Option, Some, None, IfSome, IfNone, IsSome, length, ap, sym, ◌∙◌, refl, arith}
use Rattle.std.specs.FinMap as map
use Rattle.byte_lists.proofs.NumberMaps.{get_at, one_taken}
use Rattle.reply_ledger.proofs.counts.Counts.pop.Goals as goal

both : {X : Type 0} (o : Option X) {P Q R : X → Type 0} → IfSome o P → IfSome o Q → ((x : X) → P x → Q x → R x) → IfSome o R
both None p q f = tt
both (Some x) p q f = f x p q

no-entries : {X : Type 0} (es : List X) → ((0 < length es) → ⊥) → es ≡ []
no-entries [] none = refl
no-entries (e ∷ es) none = absurd (none (omega arith))

none_left : {X Y : Type 0} (o : Option X) (es fs : List Y) (R : Type 0) → IsSome o ↔ (0 < length es) → IfNone o (fs ≡ es) → (es ≡ [] → fs ≡ [] → R) → IfNone o R
none_left {X} None es fs R variant same f =
    let none : es ≡ [] = no-entries es (λ lt. let some : IsSome {T = X} None = variant.1 lt in cc) in f none (same ∙ none)
none_left (Some x) es fs R variant same f = tt

pub returns-clause-some : goal.returns-clause-some
returns-clause-some c =
    both c.pop_first.result c.pop_first.ensures.value c.pop_first.ensures.updates
    (λ p at updates. (
      ap (λ m. map.get m p.0) (sym c.self.view_is) ∙ get_at c.self.inside.counts.entries p.0 ∙ at,
      one_taken c.self.inside.counts.entries c.pop_first.new.self.entries p.0 (λ q. updates.0 q) ∙ ap (λ m. map.remove m p.0) c.self.view_is,
    ))

pub returns-clause-none : goal.returns-clause-none
returns-clause-none c =
    none_left c.pop_first.result c.self.inside.counts.entries c.pop_first.new.self.entries _ c.pop_first.ensures.variant c.pop_first.ensures.unchanged
    (λ was is. (sym c.self.view_is ∙ ap map.from_entries was, ap map.from_entries is))
