-- A rule keeps its text: so two texts give the same rule only if they are equal byte for byte.
use Rattle.std.proofs.Common.{◌≡◌, ℕ, Bool, true, false, cond, List, Option, Some, None, ap, sym, ◌∙◌}
use Rattle.std.specs.List.{list_any, before_first, after_first}
use Rattle.std.proofs.lemmas.Option.{same_Some}
use Rattle.byte_lists.proofs.Options.{some}
use Rattle.call_rules.specs.Rules.{Method, Place, Rule, is_at, method_of, place_of, rule_of, rule_of_parts}

parts_text : (text : List ℕ) (m : Option Method) (p : Option Place) (r : Rule) → rule_of_parts text m p ≡ Some r → r.text ≡ text
parts_text text (Some m) (Some p) r e = ap (λ (q : Rule). q.text) (sym (same_Some (record { text = text; interface = m.interface; member = m.member; path = p.path; below = p.below }) r e))
parts_text text (Some m) None r e = absurd cc
parts_text text None (Some p) r e = absurd cc
parts_text text None None r e = absurd cc

pub rule_of-text : (text : List ℕ) (r : Rule) → rule_of text ≡ Some r → r.text ≡ text
rule_of-text text r e = go (list_any is_at text) e
  where
    go : (b : Bool) → cond b (rule_of_parts text (method_of (before_first is_at text)) (place_of (after_first is_at text))) (rule_of_parts text (method_of text) (some (record { path = None; below = false }))) ≡ Some r → r.text ≡ text
    go true e = parts_text text (method_of (before_first is_at text)) (place_of (after_first is_at text)) r e
    go false e = parts_text text (method_of text) (some (record { path = None; below = false })) r e

-- a rule that a text says is said by its own text
pub rule_of-again : (text : List ℕ) (r : Rule) → rule_of text ≡ Some r → rule_of r.text ≡ Some r
rule_of-again text r e = ap rule_of (rule_of-text text r e) ∙ e

-- one rule has one text
pub rule_of-one_text : (text other : List ℕ) (r : Rule) → rule_of text ≡ Some r → rule_of other ≡ Some r → text ≡ other
rule_of-one_text text other r e k = sym (rule_of-text text r e) ∙ rule_of-text other r k
