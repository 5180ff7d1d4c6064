use Rattle.std.proofs.Common.{◌≡◌, ℕ, false, List, [], ◌∷◌, length, ap, sym, ◌∙◌, arith, is_some}
use Rattle.std.specs.Ordering.{nat_cmp}
use Rattle.std.specs.FinMap as map
use Rattle.byte_lists.proofs.NumberMaps.{get_at}
use Rattle.reply_ledger.specs.declared.kind.Kind.{Kind}
use Rattle.reply_ledger.proofs.expected.has.Goals as goal

none_there : (es : List (ℕ × Kind)) (p : ℕ) → (length es ≡ 0) → false ≡ map.contains_key {R = nat_cmp} (map.from_entries es) p
none_there [] p none = ap is_some (sym (get_at [] p))
none_there (e ∷ es) p none = absurd (omega arith)

pub returns-then-is_empty-clause-has : goal.returns-then-is_empty-clause-has
returns-then-is_empty-clause-has g c = none_there c.args.others.now.entries c.args.position (c.is_empty.ensures.0 c.if-is_empty.true)

pub returns-clause-has : goal.returns-clause-has
returns-clause-has g c = c.contains_key.ensures ∙ ap is_some (sym (get_at c.args.others.now.entries c.args.position))
