-- Texts cut at their first '@' and at their last dot.
use Rattle.std.proofs.Common.{◌≡◌, ◌≢◌, ◌≤◌, ℕ, ◌+◌, ◌-◌, ◌<◌, true, false, cond, not, nat_lt, Bool, List, length, get_or, take, drop, Option, Some, None, MatchOption, IsUtf8, ap, ap₂, refl, subst, sym, ◌∙◌, arith, length-take-le, take-take}
use Rattle.std.specs.Prelude.{IsCharBoundary, option_map, position}
use Rattle.std.specs.List.{list_any, suffix_len, position_or_len, before_first, after_first}
use Rattle.std.proofs.lemmas.Bool.{eq-eqb, eqb-true, ltb-false, ne_eqb}
use Rattle.std.proofs.lemmas.List.{drop-take, get_or-take}
use Rattle.std.proofs.lemmas.List.Elements.{All-from_get_or}
use Rattle.std.proofs.lemmas.List.Folds.{list_any_at, list_any_none}
use Rattle.std.proofs.lemmas.List.Quantifiers.{position-Some}
use Rattle.std.proofs.lemmas.List.Sums.{fails_before_first, position_or_len_is, suffix_len_is}
use Rattle.std.proofs.lemmas.Str.{IsCharBoundary-start, IsCharBoundary-before_ascii, IsCharBoundary-after_ascii}
use Rattle.call_rules.specs.Parts.{IsCut, IsLastDot, joined, method_in, place_in, rule_in}
use Rattle.call_rules.specs.Rules.{Method, Place, is_at, is_dot, method_of, place_of, rule_of, rule_of_parts}
use Rattle.call_rules.specs.declared.parts.Method.{Method as MethodParts}
use Rattle.call_rules.specs.declared.parts.Place.{Place as PlaceParts}

-- ---- the last dot

abbrev pub EndsAtDot : List ℕ → Option ℕ → Type 0
EndsAtDot text r =
    MatchOption r ((i : ℕ) → i < length text → get_or text i 0 ≢ 46)
    (λ k. (k < length text) × (get_or text k 0 ≡ 46) × ((i : ℕ) → k + 1 ≤ i → i < length text → get_or text i 0 ≢ 46))

cut_at_last : (text : List ℕ) (end : ℕ) (r : Option ℕ) → end ≤ length text → EndsAtDot (take end text) r → MatchOption r (list_any is_dot (take end text) ≡ false) (λ dot. IsLastDot text end dot)
cut_at_last text end None within none = list_any_none is_dot (take end text) (All-from_get_or (λ c. is_dot c ≡ false) (take end text) 0 (λ i l. ne_eqb (get_or (take end text) i 0) 46 (none i l)))
cut_at_last text end (Some dot) within found =
    let method = take end text in
    let long : length method ≡ end = length-take-le end text within in
    let here : is_dot (get_or method dot 0) ≡ true = eq-eqb (get_or method dot 0) 46 found.1 in
    let behind : suffix_len (λ c. not (is_dot c)) method ≡ length method - (dot + 1) =
    suffix_len_is (λ c. not (is_dot c)) method (dot + 1) 0 (omega (arith, found.0)) (λ k l m. ap not (ne_eqb (get_or method k 0) 46 (found.2 k l m))) (λ l. ap (λ n. not (is_dot (get_or method n 0))) {x = dot + 1 - 1} {y = dot} (omega arith) ∙ ap not here) in
    let first : dot < end = omega (arith, long, found.0) in
    record {
      any = list_any_at is_dot method dot 0 found.0 here;
      within = first;
      here = sym (get_or-take end text dot 0 first) ∙ found.1;
      before = ap (λ n. take n method) {y = dot} (omega (arith, found.0, behind)) ∙ take-take dot end text (omega arith);
      after = ap (λ n. drop n method) {y = dot + 1} (omega (arith, found.0, behind)) ∙ ap (λ n. drop (dot + 1) (take n text)) {x = end} {y = (dot + 1) + (end - (dot + 1))} (omega arith) ∙ drop-take (dot + 1) (end - (dot + 1)) text;
    }

pub interface-IsCut : (text : List ℕ) (end dot : ℕ) → IsUtf8 text → end ≤ length text → IsLastDot text end dot → IsCut text (record { start = 0; end = dot })
interface-IsCut text end dot u l f =
    record { order = omega arith; start = IsCharBoundary-start text u; end = IsCharBoundary-before_ascii text dot (omega (arith, f.within)) (omega (arith, f.here)) }

pub member-IsCut : (text : List ℕ) (end dot : ℕ) → IsUtf8 text → IsCharBoundary text end → IsLastDot text end dot → IsCut text (record { start = dot + 1; end = end })
member-IsCut text end dot u b f =
    record { order = omega (arith, f.within); start = IsCharBoundary-after_ascii text dot u (omega (arith, f.within, b.0)) (omega (arith, f.here)); end = b }

-- for the text's bytes
pub bytes_cut_at_last : (text bytes : List ℕ) (end : ℕ) (r : Option ℕ) → bytes ≡ text → end ≤ length text → EndsAtDot (take end bytes) r → MatchOption r (list_any is_dot (take end text) ≡ false) (λ dot. IsLastDot text end dot)
bytes_cut_at_last text bytes end r e within found = cut_at_last text end r within (subst (λ (t : List ℕ). EndsAtDot (take end t) r) e found)

-- ---- the first '@'

pub record IsFirstAt (text : List ℕ) (at : ℕ) : Type 0 where
  pub any : list_any is_at text ≡ true
  pub within : at < length text
  pub here : get_or text at 0 ≡ 64
  pub before : before_first is_at text ≡ take at text
  pub after : after_first is_at text ≡ drop (at + 1) text

pub cut_at_first : (text : List ℕ) (at : ℕ) → Some at ≡ position is_at text → IsFirstAt text at
cut_at_first text at e =
    let found = position-Some is_at text at 0 (sym e) in
    let place : position_or_len is_at text ≡ at = position_or_len_is is_at text at 0 (omega (arith, found.0)) found.2 (λ _. found.1) in
    record {
      any = list_any_at is_at text at 0 found.0 found.1;
      within = found.0;
      here = eqb-true (get_or text at 0) 64 found.1;
      before = ap (λ n. take n text) place;
      after = ap (λ n. drop (n + 1) text) place;
    }

pub not_cut : (text : List ℕ) → None ≡ position is_at text → list_any is_at text ≡ false
not_cut text e = go (nat_lt (position_or_len is_at text) (length text)) refl e
  where
    go : (b : Bool) → nat_lt (position_or_len is_at text) (length text) ≡ b → None ≡ cond b (Some (position_or_len is_at text)) None → list_any is_at text ≡ false
    go true l e = absurd cc
    go false l e =
        list_any_none is_at text (All-from_get_or (λ c. is_at c ≡ false) text 0 (λ i m. fails_before_first is_at text i 0 (omega (arith, m, ltb-false (position_or_len is_at text) (length text) l))))

pub before-IsCut : (text : List ℕ) (at : ℕ) → IsFirstAt text at → IsCharBoundary text at
before-IsCut text at f = IsCharBoundary-before_ascii text at f.within (omega (arith, f.here))

pub after-IsCut : (text : List ℕ) (at : ℕ) → IsUtf8 text → IsFirstAt text at → IsCharBoundary text (at + 1)
after-IsCut text at u f = IsCharBoundary-after_ascii text at u f.within (omega (arith, f.here))

-- ---- the rule

joined-is : (text : List ℕ) (m : Option MethodParts) (p : Option PlaceParts) → option_map (rule_in text) (joined m p) ≡ rule_of_parts text (option_map (method_in text) m) (option_map (place_in text) p)
joined-is text (Some m) (Some p) = refl
joined-is text (Some m) None = refl
joined-is text None (Some p) = refl
joined-is text None None = refl

pub rule-at : (text : List ℕ) (at : ℕ) (m : Option MethodParts) (p : Option PlaceParts) → IsFirstAt text at
    → option_map (method_in text) m ≡ method_of (take at text) → option_map (place_in text) p ≡ place_of (drop (at + 1) text)
    → option_map (rule_in text) (joined m p) ≡ rule_of text
rule-at text at m p f em ep =
    joined-is text m p
    ∙ ap₂ (λ (m : Option Method) (p : Option Place). rule_of_parts text m p) (em ∙ ap method_of (sym f.before)) (ep ∙ ap place_of (sym f.after))
    ∙ ap (λ b. cond b (rule_of_parts text (method_of (before_first is_at text)) (place_of (after_first is_at text))) (rule_of_parts text (method_of text) (Some (record { path = None; below = false })))) (sym f.any)

pub rule-anywhere : (text : List ℕ) (m : Option MethodParts) → list_any is_at text ≡ false
    → option_map (method_in text) m ≡ method_of text
    → option_map (rule_in text) (joined m (Some (record { path = None; below = false }))) ≡ rule_of text
rule-anywhere text m none em =
    joined-is text m (Some (record { path = None; below = false }))
    ∙ ap (λ (m : Option Method). rule_of_parts text m (Some (record { path = None; below = false }))) em
    ∙ ap (λ b. cond b (rule_of_parts text (method_of (before_first is_at text)) (place_of (after_first is_at text))) (rule_of_parts text (method_of text) (Some (record { path = None; below = false })))) (sym none)
