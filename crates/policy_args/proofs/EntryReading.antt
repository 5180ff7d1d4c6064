-- How a word is read as an entry.
use Rattle.std.proofs.Common.{◌≡◌, ℕ, suc, ◌+◌, Bool, true, false, not, cond, ◌||◌, List, [], ◌∷◌, length, Option, Some, None, Result, Ok, Err, refl, ap, sym, ◌∙◌, arith}
use Rattle.std.specs.List.{list_any, before_first, after_first, position_or_len}
use Rattle.name_patterns.specs.Patterns.{Pattern, pattern_of}
use Rattle.call_rules.specs.declared.BadRule.{BadRule as RuleRefusal}
use Rattle.call_rules.specs.declared.BadRule.TheVariants.{Form, Memory as NoRoom}
use Rattle.policy_args.specs.declared.entry.Grant.{Grant}
use Rattle.policy_args.specs.declared.entry.Entry.{Entry}
use Rattle.policy_args.specs.declared.WordKind.{WordKind}
use Rattle.policy_args.specs.declared.WordKind.TheVariants.{BadName, BadRule}
use Rattle.policy_args.specs.declared.refusals.WordRefusal.{WordRefusal}
use Rattle.policy_args.specs.declared.refusals.WordRefusal.TheVariants.{Bad, Memory}
use Rattle.policy_args.specs.Gives.{StepFails, refusal_of_rule}
use Rattle.policy_args.specs.Words.{◌>>=◌, or_kind, is_equals, rule_entry, where_front}
use Rattle.policy_args.specs.Steps.{name_and_rule, rule_behind}

abbrev both_ok : Pattern → List ℕ → Result (Pattern × List ℕ) WordKind
both_ok p rule = Ok (p, rule)

module _ {R : Type 0} (read : List ℕ → Option R) (grant : R → Grant) where
  abbrev entry_ok : Pattern → R → Result Entry WordKind
  entry_ok p r = Ok (record { pattern = p; grant = grant r })

  -- the entry of a NAME and the text of a RULE
  abbrev with_rule : Pattern × List ℕ → Result Entry WordKind
  with_rule x = or_kind BadRule (read x.1) >>= λ r. entry_ok x.0 r

  parts_step : (p : Result Pattern WordKind) (b : Bool) (rule : List ℕ) →
      (p >>= λ p. or_kind BadRule (cond b (read rule) None) >>= λ r. entry_ok p r)
      ≡ ((p >>= λ p. or_kind BadRule (cond b (Some rule) None) >>= λ rule. both_ok p rule) >>= with_rule)
  parts_step (Ok p) true rule = refl
  parts_step (Ok p) false rule = refl
  parts_step (Err k) b rule = refl

  -- the entry of NAME=RULE, by its two parts
  rule_entry-parts : (text : List ℕ) → rule_entry read grant text ≡ (name_and_rule text >>= with_rule)
  rule_entry-parts text = parts_step (or_kind BadName (pattern_of (before_first is_equals text))) (list_any is_equals text) (after_first is_equals text)

  pub rule_entry-fails : (text : List ℕ) (refusal : WordRefusal) → StepFails refusal (name_and_rule text) → StepFails refusal (rule_entry read grant text)
  rule_entry-fails text Memory h = tt
  rule_entry-fails text (Bad kind) h = rule_entry-parts text ∙ ap (λ (x : Result (Pattern × List ℕ) WordKind). x >>= with_rule) h

  by_rule : (text : List ℕ) (p : Pattern) (rule : List ℕ) (found : Option R) → name_and_rule text ≡ Ok (p, rule) → read rule ≡ found →
      rule_entry read grant text ≡ (or_kind BadRule found >>= λ r. entry_ok p r)
  by_rule text p rule found e k =
      rule_entry-parts text ∙ ap (λ (x : Result (Pattern × List ℕ) WordKind). x >>= with_rule) e
      ∙ ap (λ (o : Option R). or_kind BadRule o >>= λ r. entry_ok p r) k

  pub rule_entry-reads : (text : List ℕ) (p : Pattern) (rule : List ℕ) (r : R) → name_and_rule text ≡ Ok (p, rule) → read rule ≡ Some r → rule_entry read grant text ≡ Ok (record { pattern = p; grant = grant r })
  rule_entry-reads text p rule r e k = by_rule text p rule (Some r) e k

  -- a RULE that was not read
  pub rule_entry-lacks : (text : List ℕ) (p : Pattern) (rule : List ℕ) (refusal : RuleRefusal) → name_and_rule text ≡ Ok (p, rule) → (refusal ≡ Form → read rule ≡ None) →
      StepFails (refusal_of_rule refusal) (rule_entry read grant text)
  rule_entry-lacks text p rule Form e k = by_rule text p rule None e (k refl)
  rule_entry-lacks text p rule NoRoom e k = tt

-- a text without '=' has no rule
no-equals : (text : List ℕ) → position_or_len is_equals text ≡ length text → list_any is_equals text ≡ false
no-equals [] e = refl
no-equals (c ∷ text) e = go (is_equals c) e (no-equals text)
  where
    go : (b : Bool) → cond (not b) (1 + position_or_len is_equals text) 0 ≡ suc (length text) → (position_or_len is_equals text ≡ length text → list_any is_equals text ≡ false) → (b || list_any is_equals text) ≡ false
    go true e rest = absurd (omega (arith, e))
    go false e rest = rest (omega (arith, e))

pub no-rule : (text : List ℕ) → position_or_len is_equals text ≡ length text → None ≡ rule_behind text
no-rule text e = ap (λ b. cond b (Some (after_first is_equals text)) None) (sym (no-equals text e))

-- the word doesn't have this prefix
pub next_front : {A : Type 0} (front : Option (List ℕ)) (reading : List ℕ → Result A WordKind) (other read : Result A WordKind) → None ≡ front → other ≡ read → where_front front reading other ≡ read
next_front front reading other read none e = ap (λ f. where_front f reading other) (sym none) ∙ e
