use Rattle.std.proofs.Common.{◌≡◌, false, None, Some, Option, is_some, refl, ap, sym, ◌∙◌, string_bytes}
use Rattle.std.proofs.lemmas.Map.Text.{hash_map_updates_text}
use Rattle.name_patterns.specs.PatternIndex.{kept_in}
use Rattle.name_patterns.proofs.PatternsAdded.{still-index}
use Rattle.name_patterns.proofs.index.PatternIndex.add_name.Goals as goal

no-value : {A : Type 0} (o : Option A) → is_some o ≡ false → o ≡ None
no-value None is = refl
no-value (Some x) is = absurd cc

pub returns-clause-same : goal.returns-clause-same
returns-clause-same c =
    let sets = hash_map_updates_text (string_bytes c.in_ok-key.key) c.args.self.now.by_name c.insert.new.self _ c.in_ok-insert.ensures.updates in
    still-index c.args.self.now (record { by_name = c.insert.new.self }) c.args.name.now c.new.result (rw c.in_ok-key.ensures.ok at sets)
    (c.new.ensures ∙ ap kept_in (sym (no-value _ (sym c.contains_key.ensures ∙ c.if-contains_key.false))))
