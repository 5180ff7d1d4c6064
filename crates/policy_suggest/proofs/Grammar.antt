-- The entries of the suggested policy are ones that words give.
use Rattle.std.proofs.Common.{◌≡◌, ◌≢◌, ℕ, zero, suc, ◌+◌, ◌-◌, ◌<◌, ◌≤◌, ◌==◌, Bool, true, false, not, ◌&&◌, ◌||◌, nat_eq, List, [], ◌∷◌, ◌++◌, length, get_or, take, drop, Option, Some, None, cond, if◌then◌else◌, refl, ap, ap₂, sym, ◌∙◌, subst, arith, length-append}
use Rattle.std.specs.Prelude.{codes, nat_le}
use Rattle.std.specs.List.{list_all, list_any, onto_first, before_first, after_first, before_last, after_last, position_or_len}
use Rattle.std.specs.Str.{bytes_eq}
use Rattle.std.specs.Cmp.Lexicographic.{bytes_decides}
use Rattle.std.proofs.Math.Bool.{and-false}
use Rattle.std.proofs.lemmas.Bool.{and_parts, and_from, eqb-true}
use Rattle.std.proofs.lemmas.List.{get_or-append_right, take-append-drop, take_all, take_at}
use Rattle.std.proofs.lemmas.List.Folds.{list_all-append, list_all_at}
use Rattle.call_rules.specs.Parts.{IsLastDot}
use Rattle.call_rules.specs.Rules.{Method, Place, is_at, is_dot, is_star, method_of, method_of_parts, place_of, rule_of, rule_of_parts}
use Rattle.call_rules.proofs.Cutting.{EndsAtDot, bytes_cut_at_last}
use Rattle.dbus_names.specs.Names.{are_joined, begins_with_digit, is_element, is_empty, is_interface, is_member, is_path, is_path_element, is_short, is_word_byte, parts_at}
use Rattle.dbus_names.specs.Texts.{Text, has_end, without_last}
use Rattle.policy_suggest.specs.Suggest.{method_rule, path_rule}

-- ---- the bytes of texts in parts

module _ (sep : ℕ) (inner outer : ℕ → Bool) (seps : (c : ℕ) → (c == sep) ≡ true → outer c ≡ true) (inners : (c : ℕ) → inner c ≡ true → outer c ≡ true) where
  bytes-outer : (text : List ℕ) → list_all inner text ≡ true → list_all outer text ≡ true
  bytes-outer [] e = refl
  bytes-outer (c ∷ text) e = let a = and_parts (inner c) (list_all inner text) e in and_from (outer c) (list_all outer text) (inners c a.0) (bytes-outer text a.1)

  parts-outer : (text : List ℕ) → list_all (list_all inner) (parts_at sep text) ≡ true → list_all outer text ≡ true
  parts-outer [] e = refl
  parts-outer (c ∷ text) e = go (c == sep) refl (parts-outer text) e
    where
      first : (parts : List (List ℕ)) → list_all (list_all inner) (onto_first c parts) ≡ true → (inner c ≡ true) × (list_all (list_all inner) parts ≡ true)
      first [] e = ((and_parts (inner c) true (and_parts (inner c && true) true e).0).0, refl)
      first (part ∷ parts) e =
          let a = and_parts (inner c && list_all inner part) (list_all (list_all inner) parts) e in
          let b = and_parts (inner c) (list_all inner part) a.0 in
          (b.0, and_from (list_all inner part) (list_all (list_all inner) parts) b.1 a.1)

      go : (b : Bool) → (c == sep) ≡ b → (list_all (list_all inner) (parts_at sep text) ≡ true → list_all outer text ≡ true) →
          list_all (list_all inner) (cond b ([] ∷ parts_at sep text) (onto_first c (parts_at sep text))) ≡ true → list_all outer (c ∷ text) ≡ true
      go true h ih e = and_from (outer c) (list_all outer text) (seps c h) (ih e)
      go false h ih e = let a = first (parts_at sep text) e in and_from (outer c) (list_all outer text) (inners c a.0) (ih a.1)

elements-words : (parts : List (List ℕ)) → list_all is_element parts ≡ true → list_all (list_all is_word_byte) parts ≡ true
elements-words [] e = refl
elements-words (part ∷ parts) e =
    let a = and_parts (is_element part) (list_all is_element parts) e in
    and_from (list_all is_word_byte part) (list_all (list_all is_word_byte) parts) (element-words part a.0) (elements-words parts a.1)
  where
    element-words : (part : List ℕ) → is_element part ≡ true → list_all is_word_byte part ≡ true
    element-words [] e = refl
    element-words (c ∷ part) e = (and_parts (not (is_empty (c ∷ part)) && not (begins_with_digit (c ∷ part))) (list_all is_word_byte (c ∷ part)) e).1

path-words : (parts : List (List ℕ)) → list_all is_path_element parts ≡ true → list_all (list_all is_word_byte) parts ≡ true
path-words [] e = refl
path-words (part ∷ parts) e =
    let a = and_parts (is_path_element part) (list_all is_path_element parts) e in
    and_from (list_all is_word_byte part) (list_all (list_all is_word_byte) parts) (and_parts (not (is_empty part)) (list_all is_word_byte part) a.0).1 (path-words parts a.1)

-- ---- a text without '@', and one after it

abbrev is_other : ℕ → Bool
is_other c = not (is_at c)

word-other : (c : ℕ) → is_word_byte c ≡ true → is_other c ≡ true
word-other c e = go (c == 64) refl
  where
    impossible : is_word_byte 64 ≡ true → ⊥
    impossible e = absurd cc

    go : (b : Bool) → (c == 64) ≡ b → not b ≡ true
    go false k = refl
    go true k = absurd (impossible (ap is_word_byte (sym (eqb-true c 64 k)) ∙ e))

place_is : (front text : List ℕ) → list_all is_other front ≡ true → (list_any is_at (front ++ 64 ∷ text) ≡ true) × (position_or_len is_at (front ++ 64 ∷ text) ≡ length front)
place_is [] text e = (refl, refl)
place_is (c ∷ front) text e = let a = and_parts (is_other c) (list_all is_other front) e in go (is_at c) a.0 (place_is front text a.1)
  where
    go : (b : Bool) → not b ≡ true → (list_any is_at (front ++ 64 ∷ text) ≡ true) × (position_or_len is_at (front ++ 64 ∷ text) ≡ length front) →
        ((b || list_any is_at (front ++ 64 ∷ text)) ≡ true) × (cond (not b) (1 + position_or_len is_at (front ++ 64 ∷ text)) 0 ≡ suc (length front))
    go true h ih = absurd cc
    go false h ih = (ih.0, omega (arith, ih.1))

past : (c : ℕ) (front text : List ℕ) → drop (length front + 1) (front ++ c ∷ text) ≡ text
past c [] text = refl
past c (d ∷ front) text = ap (λ (n : ℕ). drop n (d ∷ front ++ c ∷ text)) (next (length front)) ∙ past c front text
  where
    next : (k : ℕ) → suc k + 1 ≡ suc (k + 1)
    next k = omega arith

rule-at : (front path : Text) (m : Method) (p : Place) → list_all is_other front ≡ true → method_of front ≡ Some m → place_of path ≡ Some p → rule_of (front ++ 64 ∷ path) ≡ rule_of_parts (front ++ 64 ∷ path) (Some m) (Some p)
rule-at front path m p other method place =
    let found = place_is front path other in
    let text = front ++ 64 ∷ path in
    let before : before_first is_at (front ++ 64 ∷ path) ≡ front = ap (λ (n : ℕ). take n (front ++ 64 ∷ path)) found.1 ∙ take_at front (64 ∷ path) (length front) refl in
    let after : after_first is_at (front ++ 64 ∷ path) ≡ path = ap (λ (n : ℕ). drop (n + 1) (front ++ 64 ∷ path)) found.1 ∙ past 64 front path in
    ap (λ b. if b then rule_of_parts text (method_of (before_first is_at text)) (place_of (after_first is_at text)) else rule_of_parts text (method_of text) (Some (record { path = None; below = false }))) found.0
    ∙ ap₂ (λ a b. rule_of_parts text (method_of a) (place_of b)) before after
    ∙ ap₂ (rule_of_parts text) method place

-- ---- PATH

is_path_byte : ℕ → Bool
is_path_byte c = is_word_byte c || c == 47

path-bytes : (p : Text) → is_path p ≡ true → list_all is_path_byte p ≡ true
unfolding is_path_byte
path-bytes [] e = refl
path-bytes (c ∷ text) e =
    let a = and_parts (c == 47) (is_empty text || list_all is_path_element (parts_at 47 text)) e in
    and_from (is_path_byte c) (list_all is_path_byte text) (slash c a.0) (rest text a.1)
  where
    slash : (c : ℕ) → (c == 47) ≡ true → is_path_byte c ≡ true
    slash c h = ap is_path_byte (eqb-true c 47 h)

    word : (c : ℕ) → is_word_byte c ≡ true → is_path_byte c ≡ true
    word c h = ap (λ b. b || c == 47) h

    rest : (text : Text) → (is_empty text || list_all is_path_element (parts_at 47 text)) ≡ true → list_all is_path_byte text ≡ true
    rest [] h = refl
    rest (d ∷ text) h = parts-outer 47 is_word_byte is_path_byte slash word (d ∷ text) (path-words (parts_at 47 (d ∷ text)) h)

-- no path ends with the text of all below one
no-star : (p : Text) → is_path p ≡ true → has_end (codes "/*") p ≡ false
unfolding is_path_byte
no-star p e = by (has_end (codes "/*") p) refl
  where
    tail : list_all is_path_byte (drop (length p - 2) p) ≡ true
    tail = (and_parts (list_all is_path_byte (take (length p - 2) p)) (list_all is_path_byte (drop (length p - 2) p))
        (sym (list_all-append is_path_byte (take (length p - 2) p) (drop (length p - 2) p)) ∙ ap (list_all is_path_byte) (take-append-drop (length p - 2) p) ∙ path-bytes p e)).1

    impossible : list_all is_path_byte (codes "/*") ≡ true → ⊥
    impossible h = absurd cc

    by : (b : Bool) → has_end (codes "/*") p ≡ b → b ≡ false
    by false h = refl
    by true h = absurd (impossible (ap (list_all is_path_byte) ((bytes_decides (codes "/*") (drop (length p - 2) p)).0 h) ∙ tail))

not-all : (p : Text) → is_path p ≡ true → bytes_eq p (codes "/*") ≡ false
not-all p e = by (bytes_eq p (codes "/*")) refl
  where
    impossible : is_path (codes "/*") ≡ true → ⊥
    impossible h = absurd cc

    by : (b : Bool) → bytes_eq p (codes "/*") ≡ b → b ≡ false
    by false h = refl
    by true h = absurd (impossible (ap is_path (sym ((bytes_decides p (codes "/*")).0 h)) ∙ e))

abbrev any_place : Option Place
any_place = Some (record { path = None; below = false })

abbrev at_place : Text → Option Place
at_place p = Some (record { path = Some p; below = false })

place-of : (p : Text) → is_path p ≡ true → place_of p ≡ at_place p
place-of p e =
    ap (λ b. if b then any_place else (if has_end (codes "/*") p then below else (if is_path p then at_place p else None))) (not-all p e)
    ∙ ap (λ b. if b then below else (if is_path p then at_place p else None)) (no-star p e)
    ∙ ap (λ b. if b then at_place p else None) e
  where
    below : Option Place
    below = if is_path (without_last 2 p) && not (bytes_eq (without_last 2 p) (codes "/")) then Some (record { path = Some (without_last 2 p); below = true }) else None

pub path-rule-read : (p : Text) → is_path p ≡ true → rule_of (path_rule p).text ≡ Some (path_rule p)
path-rule-read p e = rule-at [] p (record { interface = None; member = None }) (record { path = Some p; below = false }) refl refl (place-of p e)

-- ---- METHOD

some-text : (i m : Text) → (is_empty (i ++ 46 ∷ m) || is_star (i ++ 46 ∷ m)) ≡ false
some-text [] m = refl
some-text (c ∷ []) m = and-false (nat_eq c 42)
some-text (c ∷ d ∷ i) m = and-false (nat_eq c 42)

any-dot : (i m : Text) → list_any is_dot (i ++ 46 ∷ m) ≡ true
any-dot [] m = refl
any-dot (c ∷ i) m = or-right (is_dot c) (any-dot i m)
  where
    or-right : (a : Bool) {b : Bool} → b ≡ true → (a || b) ≡ true
    or-right true h = refl
    or-right false h = h

member-words : (m : Text) → is_member m ≡ true → list_all is_word_byte m ≡ true
member-words m e = (and_parts (list_all is_word_byte m) true (elements-words (m ∷ []) (and_from (is_element m) true (and_parts (is_short m) (is_element m) e).1 refl))).0

interface-words : (i : Text) → is_interface i ≡ true → list_all (list_all is_word_byte) (parts_at 46 i) ≡ true
interface-words i e = elements-words (parts_at 46 i) (and_parts (nat_le 2 (length (parts_at 46 i))) (are_joined is_element i) (and_parts (is_short i) (nat_le 2 (length (parts_at 46 i)) && are_joined is_element i) e).1).1

no-dot-in : (m : Text) → list_all is_word_byte m ≡ true → (j : ℕ) → j < length m → get_or m j 0 ≢ 46
no-dot-in m words j within is = impossible (sym words ∙ list_all_at is_word_byte m j 0 within (ap is_word_byte is))
  where
    impossible : true ≡ false → ⊥
    impossible h = absurd cc

last-dot : (i m : Text) → list_all is_word_byte m ≡ true → EndsAtDot (i ++ 46 ∷ m) (Some (length i))
last-dot i m words = (omega (arith, length-append i (46 ∷ m)), here, none)
  where
    here : get_or (i ++ 46 ∷ m) (length i) 0 ≡ 46
    here = get_or-append_right i (46 ∷ m) (length i) (length i) 0 refl (omega arith) ∙ ap (λ n. get_or (46 ∷ m) n 0) {x = length i - length i} {y = 0} (omega arith)

    after : (n : ℕ) → 1 ≤ n → n < length (46 ∷ m) → get_or (46 ∷ m) n 0 ≢ 46
    after zero low high = absurd (omega (arith, low))
    after (suc j) low high = no-dot-in m words j (omega (arith, high))

    none : (k : ℕ) → length i + 1 ≤ k → k < length (i ++ 46 ∷ m) → get_or (i ++ 46 ∷ m) k 0 ≢ 46
    none k low high is =
        after (k - length i) (omega (arith, low)) (omega (arith, high, low, length-append i (46 ∷ m)))
        (sym (get_or-append_right i (46 ∷ m) (length i) k 0 refl (omega (arith, low))) ∙ is)

cut-method : (i m : Text) → list_all is_word_byte m ≡ true → (before_last is_dot (i ++ 46 ∷ m) ≡ i) × (after_last is_dot (i ++ 46 ∷ m) ≡ m)
cut-method i m words =
    let front = i ++ 46 ∷ m in
    let whole : take (length (i ++ 46 ∷ m)) (i ++ 46 ∷ m) ≡ i ++ 46 ∷ m = take_all (length (i ++ 46 ∷ m)) (i ++ 46 ∷ m) (omega arith) in
    let cut : IsLastDot (i ++ 46 ∷ m) (length (i ++ 46 ∷ m)) (length i) = bytes_cut_at_last front front (length front) (Some (length i)) refl (omega arith) (subst (λ (t : List ℕ). EndsAtDot t (Some (length i))) (sym whole) (last-dot i m words)) in (
      ap (before_last is_dot) (sym whole) ∙ cut.before ∙ take_at i (46 ∷ m) (length i) refl,
      ap (after_last is_dot) (sym whole) ∙ cut.after ∙ ap (take (length (i ++ 46 ∷ m) - (length i + 1))) (past 46 i m) ∙ take_all (length (i ++ 46 ∷ m) - (length i + 1)) m (omega (arith, length-append i (46 ∷ m))),
    )

not-star : (m : Text) → is_member m ≡ true → is_star m ≡ false
not-star m e = by (is_star m) refl
  where
    impossible : is_member (42 ∷ []) ≡ true → ⊥
    impossible h = absurd cc

    by : (b : Bool) → is_star m ≡ b → b ≡ false
    by false h = refl
    by true h = absurd (impossible (ap is_member (sym ((bytes_decides m (42 ∷ [])).0 h)) ∙ e))

abbrev any_method : Option Method
any_method = Some (record { interface = None; member = None })

abbrev one_method : Text → Option Text → Option Method
one_method i m = Some (record { interface = Some i; member = m })

method-is : (i m : Text) → is_interface i ≡ true → is_member m ≡ true → method_of (i ++ 46 ∷ m) ≡ Some (record { interface = Some i; member = Some m })
method-is i m e k =
    let front = i ++ 46 ∷ m in
    let cut = cut-method i m (member-words m k) in
    ap (λ b. if b then any_method else (if list_any is_dot front then method_of_parts (before_last is_dot front) (after_last is_dot front) else None)) (some-text i m)
    ∙ ap (λ b. if b then method_of_parts (before_last is_dot front) (after_last is_dot front) else None) (any-dot i m)
    ∙ ap₂ method_of_parts cut.0 cut.1
    ∙ by (is_interface i) (is_star m) (is_member m) e (not-star m k) k
  where
    by : (a b c : Bool) → a ≡ true → b ≡ false → c ≡ true →
        (if not a then None else (if b then one_method i None else (if c then one_method i (Some m) else None))) ≡ one_method i (Some m)
    by false b c x y z = absurd cc
    by true true c x y z = absurd cc
    by true false true x y z = refl
    by true false false x y z = absurd cc

method-other : (i m : Text) → is_interface i ≡ true → is_member m ≡ true → list_all is_other (i ++ 46 ∷ m) ≡ true
method-other i m e k =
    list_all-append is_other i (46 ∷ m)
    ∙ and_from (list_all is_other i) (list_all is_other m)
    (parts-outer 46 is_word_byte is_other (λ c h. ap is_other (eqb-true c 46 h)) word-other i (interface-words i e))
    (bytes-outer 46 is_word_byte is_other (λ c h. ap is_other (eqb-true c 46 h)) word-other m (member-words m k))

pub method-rule-read : (p i m : Text) → is_path p ≡ true → is_interface i ≡ true → is_member m ≡ true → rule_of (method_rule p i m).text ≡ Some (method_rule p i m)
method-rule-read p i m e k h =
    rule-at (i ++ 46 ∷ m) p (record { interface = Some i; member = Some m }) (record { path = Some p; below = false }) (method-other i m k h) (method-is i m k h) (place-of p e)
