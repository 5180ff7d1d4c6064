-- The word of an entry that a word can give gives that entry again.
use Rattle.std.proofs.Common.{◌≡◌, ℕ, suc, ◌+◌, Bool, true, false, cond, List, [], ◌∷◌, ◌++◌, length, take, drop, Option, Some, None, Result, Ok, refl, sym, ap, ◌∙◌, arith, inl, inr}
use Rattle.std.specs.Prelude.{codes, not, ◌==◌, ◌||◌, ◌&&◌, ◌⊎◌, nat_le}
use Rattle.std.specs.List.{list_all, list_any, onto_first, before_first, after_first, position_or_len}
use Rattle.std.proofs.lemmas.List.{take_at}
use Rattle.std.proofs.lemmas.Bool.{and_parts, and_from, eqb-true}
use Rattle.dbus_names.specs.Names.{are_joined, is_bus_byte, is_bus_element, is_short, is_well_known, parts_at}
use Rattle.dbus_names.proofs.Texts.{elements-bytes}
use Rattle.name_patterns.specs.Patterns.{Pattern, is_pattern, is_subtree_name, pattern_of, pattern_text}
use Rattle.name_patterns.proofs.PatternLaws.{pattern_of-text}
use Rattle.call_rules.specs.Properties.{PropertyRule, property_rule_of}
use Rattle.call_rules.specs.Rules.{Rule, rule_of}
use Rattle.policy_args.specs.declared.WordKind.TheVariants.{BadName, BadRule}
use Rattle.policy_args.specs.declared.entry.Grant.{Grant}
use Rattle.policy_args.specs.declared.entry.Grant.TheVariants.{See as to_see, Talk as to_talk, Own as to_own, Call as to_call, Broadcast as to_broadcast, Property as to_property}
use Rattle.policy_args.specs.declared.entry.Entry.{Entry}
use Rattle.policy_args.specs.Policy.{InGrammar, entry_word}
use Rattle.policy_args.specs.Words.{◌>>=◌, or_kind, name_entry, is_equals, rule_entry, entry_of}

-- ---- the text of a pattern has no '='

abbrev is_other : ℕ → Bool
is_other c = not (is_equals c)

bus_byte : (c : ℕ) → is_bus_byte c ≡ true → is_other c ≡ true
bus_byte c e = go (c == 61) refl
  where
    impossible : is_bus_byte 61 ≡ true → ⊥
    impossible e = absurd cc

    go : (b : Bool) → (c == 61) ≡ b → not b ≡ true
    go false k = refl
    go true k = absurd (impossible (ap is_bus_byte (sym (eqb-true c 61 k)) ∙ e))

dot : (c : ℕ) → (c == 46) ≡ true → is_other c ≡ true
dot c e = ap is_other (eqb-true c 46 e)

element_other : (text : List ℕ) → list_all is_bus_byte text ≡ true → list_all is_other text ≡ true
element_other [] e = refl
element_other (c ∷ text) e = let a = and_parts (is_bus_byte c) (list_all is_bus_byte text) e in and_from (is_other c) (list_all is_other text) (bus_byte c a.0) (element_other text a.1)

parts_other : (text : List ℕ) → list_all (list_all is_bus_byte) (parts_at 46 text) ≡ true → list_all is_other text ≡ true
parts_other [] e = refl
parts_other (c ∷ text) e = go (c == 46) refl (parts_other text) e
  where
    first : (parts : List (List ℕ)) → list_all (list_all is_bus_byte) (onto_first c parts) ≡ true → (is_bus_byte c ≡ true) × (list_all (list_all is_bus_byte) parts ≡ true)
    first [] e = ((and_parts (is_bus_byte c) true (and_parts (is_bus_byte c && true) true e).0).0, refl)
    first (part ∷ parts) e =
        let a = and_parts (is_bus_byte c && list_all is_bus_byte part) (list_all (list_all is_bus_byte) parts) e in
        let b = and_parts (is_bus_byte c) (list_all is_bus_byte part) a.0 in
        (b.0, and_from (list_all is_bus_byte part) (list_all (list_all is_bus_byte) parts) b.1 a.1)

    go : (b : Bool) → (c == 46) ≡ b → (list_all (list_all is_bus_byte) (parts_at 46 text) ≡ true → list_all is_other text ≡ true) →
        list_all (list_all is_bus_byte) (cond b ([] ∷ parts_at 46 text) (onto_first c (parts_at 46 text))) ≡ true → list_all is_other (c ∷ text) ≡ true
    go true h ih e = and_from (is_other c) (list_all is_other text) (dot c h) (ih e)
    go false h ih e = let a = first (parts_at 46 text) e in and_from (is_other c) (list_all is_other text) (bus_byte c a.0) (ih a.1)

joined_other : (text : List ℕ) → are_joined is_bus_element text ≡ true → list_all is_other text ≡ true
joined_other text e = parts_other text (elements-bytes (parts_at 46 text) e)

both_other : (xs ys : List ℕ) → list_all is_other xs ≡ true → list_all is_other ys ≡ true → list_all is_other (xs ++ ys) ≡ true
both_other [] ys h k = k
both_other (x ∷ xs) ys h k = let a = and_parts (is_other x) (list_all is_other xs) h in and_from (is_other x) (list_all is_other (xs ++ ys)) a.0 (both_other xs ys a.1 k)

text_other : (p : Pattern) → is_pattern p ≡ true → list_all is_other (pattern_text p) ≡ true
text_other p e = go p.exact e
  where
    go : (b : Bool) → cond b (is_well_known p.name) (is_subtree_name p.name) ≡ true → list_all is_other (cond b p.name (p.name ++ codes ".*")) ≡ true
    go true e = joined_other p.name (and_parts (nat_le 2 (length (parts_at 46 p.name))) (are_joined is_bus_element p.name) (and_parts (is_short p.name) _ e).1).1
    go false e = both_other p.name (codes ".*") (joined_other p.name (and_parts (is_short p.name) (are_joined is_bus_element p.name) e).1) refl

-- ---- a text without '=', and one after it

record Cut (name text : List ℕ) : Type 0 where
  stands : list_any is_equals (name ++ 61 ∷ text) ≡ true
  before : before_first is_equals (name ++ 61 ∷ text) ≡ name
  after : after_first is_equals (name ++ 61 ∷ text) ≡ text

place_is : (name text : List ℕ) → list_all is_other name ≡ true → (list_any is_equals (name ++ 61 ∷ text) ≡ true) × (position_or_len is_equals (name ++ 61 ∷ text) ≡ length name)
place_is [] text e = (refl, refl)
place_is (c ∷ name) text e = let a = and_parts (is_other c) (list_all is_other name) e in go (is_equals c) a.0 (place_is name text a.1)
  where
    go : (b : Bool) → not b ≡ true → (list_any is_equals (name ++ 61 ∷ text) ≡ true) × (position_or_len is_equals (name ++ 61 ∷ text) ≡ length name) →
        ((b || list_any is_equals (name ++ 61 ∷ text)) ≡ true) × (cond (not b) (1 + position_or_len is_equals (name ++ 61 ∷ text)) 0 ≡ suc (length name))
    go true h ih = absurd cc
    go false h ih = (ih.0, omega (arith, ih.1))

cut_at : (name text : List ℕ) → list_all is_other name ≡ true → Cut name text
cut_at name text e =
    let p = place_is name text e in
    record {
      stands = p.0;
      before = ap (λ (n : ℕ). take n (name ++ 61 ∷ text)) p.1 ∙ take_at name (61 ∷ text) (length name) refl;
      after = ap (λ (n : ℕ). drop (n + 1) (name ++ 61 ∷ text)) p.1 ∙ past name;
    }
  where
    next : (k : ℕ) → suc k + 1 ≡ suc (k + 1)
    next k = omega arith

    past : (name : List ℕ) → drop (length name + 1) (name ++ 61 ∷ text) ≡ text
    past [] = refl
    past (c ∷ name) = ap (λ (n : ℕ). drop n (c ∷ name ++ 61 ∷ text)) (next (length name)) ∙ past name

-- ---- entries

then_ok : {A B E : Type 0} (r : Result A E) (f : A → Result B E) (x : A) (z : Result B E) → r ≡ Ok x → f x ≡ z → (r >>= f) ≡ z
then_ok r f x z e k = ap (λ (q : Result _ _). q >>= f) e ∙ k

name_again : (p : Pattern) (grant : Grant) → is_pattern p ≡ true → name_entry grant (pattern_text p) ≡ Ok (record { pattern = p; grant = grant })
name_again p grant e = then_ok _ (λ q. Ok (record { pattern = q; grant = grant })) p _ (ap (or_kind BadName) (pattern_of-text p e)) refl

rule_again : {R : Type 0} (read : List ℕ → Option R) (p : Pattern) (grant : R → Grant) (r : R) (rule : List ℕ) → is_pattern p ≡ true → read rule ≡ Some r →
    rule_entry read grant (pattern_text p ++ 61 ∷ rule) ≡ Ok (record { pattern = p; grant = grant r })
rule_again read p grant r rule e k =
    let q = cut_at (pattern_text p) rule (text_other p e) in
    let text = pattern_text p ++ 61 ∷ rule in
    then_ok _ (λ x. or_kind BadRule (cond (list_any is_equals text) (read (after_first is_equals text)) None) >>= λ y. Ok (record { pattern = x; grant = grant y })) p _
    (ap (λ (t : List ℕ). or_kind BadName (pattern_of t)) q.before ∙ ap (or_kind BadName) (pattern_of-text p e))
    (then_ok _ (λ y. Ok (record { pattern = p; grant = grant y })) r _
    (ap (λ (b : Bool). or_kind BadRule (cond b (read (after_first is_equals text)) None)) q.stands ∙ ap (λ (t : List ℕ). or_kind BadRule (read t)) q.after ∙ ap (or_kind BadRule) k) refl)

-- with entry_word-entry_of: words give the same entry exactly if they are equal byte for byte
pub entry_of-entry_word : (e : Entry) → InGrammar e → entry_of (entry_word e) ≡ Ok e
entry_of-entry_word e g = by_word e.grant g.rule g.property_rule
  where
    of : Grant → Entry
    of grant = record { pattern = e.pattern; grant = grant }

    by_word : (grant : Grant) → ((r : Rule) → (grant ≡ to_call r) ⊎ (grant ≡ to_broadcast r) → rule_of r.text ≡ Some r) →
        ((r : PropertyRule) → grant ≡ to_property r → property_rule_of r.text ≡ Some r) → entry_of (entry_word (of grant)) ≡ Ok (of grant)
    by_word to_see h k = name_again e.pattern to_see g.pattern
    by_word to_talk h k = name_again e.pattern to_talk g.pattern
    by_word to_own h k = name_again e.pattern to_own g.pattern
    by_word (to_call r) h k = rule_again rule_of e.pattern to_call r r.text g.pattern (h r (inl refl))
    by_word (to_broadcast r) h k = rule_again rule_of e.pattern to_broadcast r r.text g.pattern (h r (inr refl))
    by_word (to_property r) h k = rule_again property_rule_of e.pattern to_property r r.text g.pattern (k r refl)
