-- An entry has the word that gave it: so two words give the same entry only if they are equal byte for byte.
use Rattle.std.proofs.Common.{◌≡◌, ℕ, suc, ◌+◌, Bool, true, false, cond, List, [], ◌∷◌, ◌++◌, take, drop, Option, Some, None, Result, Ok, Err, refl, sym, ap, ◌∙◌, arith}
use Rattle.std.specs.Prelude.{codes, not, ◌==◌, ◌||◌}
use Rattle.std.specs.List.{list_any, before_first, after_first, position_or_len}
use Rattle.std.proofs.lemmas.Bool.{eqb-true}
use Rattle.dbus_names.specs.Texts.{behind}
use Rattle.dbus_names.proofs.Texts.{behind_is}
use Rattle.name_patterns.specs.Patterns.{Pattern, pattern_of, pattern_text}
use Rattle.name_patterns.proofs.PatternLaws.{pattern_of-is}
use Rattle.call_rules.specs.Properties.{PropertyRule, property_rule_of, property_rule_in, of_interface}
use Rattle.call_rules.specs.Rules.{Rule, rule_of}
use Rattle.call_rules.proofs.RuleLaws.{rule_of-text}
use Rattle.policy_args.specs.declared.WordKind.{WordKind}
use Rattle.policy_args.specs.declared.WordKind.TheVariants.{BadName, BadRule}
use Rattle.policy_args.specs.declared.entry.Grant.{Grant}
use Rattle.policy_args.specs.declared.entry.Grant.TheVariants.{See as to_see, Talk as to_talk, Own as to_own, Call as to_call, Broadcast as to_broadcast, Property as to_property}
use Rattle.policy_args.specs.declared.entry.Entry.{Entry}
use Rattle.policy_args.specs.Policy.{entry_word}
use Rattle.policy_args.specs.Words.{◌>>=◌, or_kind, name_entry, is_equals, rule_entry, where_front, entry_of}

abbrev ok : {A : Type 0} → A → Result A WordKind
ok x = Ok x

abbrev some : {A : Type 0} → A → Option A
some x = Some x

-- a text with '=' is the text before it, '=', and the text after it
cut_at_equals : (text : List ℕ) → list_any is_equals text ≡ true → before_first is_equals text ++ 61 ∷ after_first is_equals text ≡ text
cut_at_equals [] e = absurd cc
cut_at_equals (c ∷ text) e = go (c == 61) refl (cut_at_equals text) e
  where
    place : ℕ
    place = position_or_len is_equals text

    at_it : ℕ → List ℕ
    at_it k = take k (c ∷ text) ++ 61 ∷ drop (k + 1) (c ∷ text)

    first : (k : ℕ) → 1 + k ≡ suc k
    first k = omega arith

    next : (k : ℕ) → suc k + 1 ≡ suc (k + 1)
    next k = omega arith

    go : (b : Bool) → (c == 61) ≡ b → (list_any is_equals text ≡ true → before_first is_equals text ++ 61 ∷ after_first is_equals text ≡ text) → (b || list_any is_equals text) ≡ true → at_it (cond (not b) (1 + place) 0) ≡ c ∷ text
    go true h ih e = ap (λ (k : ℕ). k ∷ text) (sym (eqb-true c 61 h))
    go false h ih e = ap at_it (first place) ∙ ap (λ (k : ℕ). (c ∷ take place text) ++ 61 ∷ drop k (c ∷ text)) (next place) ∙ ap (λ (t : List ℕ). c ∷ t) (ih e)

result_bind : {A B P : Type 0} (r : Result A WordKind) (f : A → Result B WordKind) (y : B) → (r >>= f) ≡ Ok y → ((x : A) → r ≡ Ok x → f x ≡ Ok y → P) → P
result_bind (Ok x) f y e k = k x refl e
result_bind (Err d) f y e k = absurd cc

ok_is : {A : Type 0} (x y : A) → ok x ≡ ok y → x ≡ y
ok_is x y e = cc

some_is : {A : Type 0} (x y : A) → some x ≡ some y → x ≡ y
some_is x y e = cc

or_kind_is : {A : Type 0} (kind : WordKind) (o : Option A) (x : A) → or_kind kind o ≡ Ok x → o ≡ Some x
or_kind_is kind None x e = absurd cc
or_kind_is kind (Some y) x e = ap (λ z. Some z) (ok_is y x e)

-- only NAME
name_entry_is : (grant : Grant) (front : List ℕ) (h : (p : Pattern) → entry_word (record { pattern = p; grant = grant }) ≡ front ++ pattern_text p) (name : List ℕ) (e : Entry) → name_entry grant name ≡ Ok e → entry_word e ≡ front ++ name
name_entry_is grant front h name e r =
    result_bind (or_kind BadName (pattern_of name)) (λ p. Ok (record { pattern = p; grant = grant })) e r (λ p ep e1.
    ap entry_word (sym (ok_is (record { pattern = p; grant = grant }) e e1)) ∙ h p ∙ ap (λ (t : List ℕ). front ++ t) (pattern_of-is name p (or_kind_is BadName (pattern_of name) p ep)))

-- a rule of properties keeps the text that says it
property_rule_of-text : (text : List ℕ) (r : PropertyRule) → property_rule_of text ≡ Some r → r.text ≡ text
property_rule_of-text text r e = go (rule_of text) refl e
  where
    kept : (rule : Rule) → rule.text ≡ text → (i : Option (List ℕ)) → of_interface rule i ≡ Some r → r.text ≡ text
    kept rule same None e = absurd cc
    kept rule same (Some i) e = ap (λ (q : PropertyRule). q.text) (sym (some_is (record { text = rule.text; interface = i; property = rule.member; path = rule.path; below = rule.below }) r e)) ∙ same

    go : (o : Option Rule) → rule_of text ≡ o → property_rule_in o ≡ Some r → r.text ≡ text
    go None is e = absurd cc
    go (Some rule) is e = kept rule (rule_of-text text rule is) rule.interface e

-- NAME=RULE
rule_entry_is : {R : Type 0} (read : List ℕ → Option R) (text_of : R → List ℕ) (spelled : (text : List ℕ) (r : R) → read text ≡ Some r → text_of r ≡ text) (grant : R → Grant) (front : List ℕ) (h : (p : Pattern) (r : R) → entry_word (record { pattern = p; grant = grant r }) ≡ front ++ (pattern_text p ++ 61 ∷ text_of r)) (text : List ℕ) (e : Entry) → rule_entry read grant text ≡ Ok e → entry_word e ≡ front ++ text
rule_entry_is read text_of spelled grant front h text e k =
    result_bind (or_kind BadName (pattern_of (before_first is_equals text))) (λ p. or_kind BadRule (cond (list_any is_equals text) (read (after_first is_equals text)) None) >>= λ r. Ok (record { pattern = p; grant = grant r })) e k (λ p ep k1.
    result_bind (or_kind BadRule (cond (list_any is_equals text) (read (after_first is_equals text)) None)) (λ r. Ok (record { pattern = p; grant = grant r })) e k1 (λ r er k2.
    let name : pattern_text p ≡ before_first is_equals text = pattern_of-is (before_first is_equals text) p (or_kind_is BadName (pattern_of (before_first is_equals text)) p ep) in
    let rule = found (list_any is_equals text) refl r (or_kind_is BadRule (cond (list_any is_equals text) (read (after_first is_equals text)) None) r er) in
    ap entry_word (sym (ok_is (record { pattern = p; grant = grant r }) e k2)) ∙ h p r
    ∙ ap (λ (t : List ℕ). front ++ (t ++ 61 ∷ text_of r)) name ∙ ap (λ (t : List ℕ). front ++ (before_first is_equals text ++ 61 ∷ t)) rule.1
    ∙ ap (λ (t : List ℕ). front ++ t) (cut_at_equals text rule.0)))
  where
    found : (b : Bool) → list_any is_equals text ≡ b → (r : _) → cond b (read (after_first is_equals text)) None ≡ Some r → (list_any is_equals text ≡ true) × (text_of r ≡ after_first is_equals text)
    found true q r m = (q, spelled (after_first is_equals text) r m)
    found false q r m = absurd cc

-- one prefix of the table
front_is : (front w : List ℕ) (reading : List ℕ → Result Entry WordKind) (other : Result Entry WordKind) (e : Entry) → ((text : List ℕ) → reading text ≡ Ok e → entry_word e ≡ front ++ text) → (other ≡ Ok e → entry_word e ≡ w) → where_front (behind front w) reading other ≡ Ok e → entry_word e ≡ w
front_is front w reading other e here there k = go (behind front w) refl k
  where
    go : (o : Option (List ℕ)) → behind front w ≡ o → where_front o reading other ≡ Ok e → entry_word e ≡ w
    go None h k = there k
    go (Some text) h k = here text k ∙ sym (behind_is front w text h)

-- the word that gave an entry is the entry's word
pub entry_word-entry_of : (w : List ℕ) (e : Entry) → entry_of w ≡ Ok e → entry_word e ≡ w
entry_word-entry_of w e k =
    front_is (codes "--see=") w (name_entry to_see) _ e (λ t r. name_entry_is to_see (codes "--see=") (λ p. refl) t e r)
    (front_is (codes "--talk=") w (name_entry to_talk) _ e (λ t r. name_entry_is to_talk (codes "--talk=") (λ p. refl) t e r)
    (front_is (codes "--own=") w (name_entry to_own) _ e (λ t r. name_entry_is to_own (codes "--own=") (λ p. refl) t e r)
    (front_is (codes "--call=") w (rule_entry rule_of to_call) _ e (λ t r. rule_entry_is rule_of (λ r. r.text) rule_of-text to_call (codes "--call=") (λ p r. refl) t e r)
    (front_is (codes "--broadcast=") w (rule_entry rule_of to_broadcast) _ e (λ t r. rule_entry_is rule_of (λ r. r.text) rule_of-text to_broadcast (codes "--broadcast=") (λ p r. refl) t e r)
    (front_is (codes "--property=") w (rule_entry property_rule_of to_property) _ e (λ t r. rule_entry_is property_rule_of (λ r. r.text) property_rule_of-text to_property (codes "--property=") (λ p r. refl) t e r)
    (λ m. absurd cc)))))) k
