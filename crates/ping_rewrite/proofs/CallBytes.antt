-- The calls are the bytes that the code has for them.
use Rattle.std.proofs.Common.{ℕ, ◌≡◌, ◌+◌, ◌++◌, [], ◌∷◌, List, length, refl, sym, ap, ap₂, ◌∙◌, arith, append_assoc, append-nil, length-append}
use Rattle.dbus_values.specs.Values.{a_string}
use Rattle.dbus_values.specs.declared.Order.TheVariants.{Little}
use Rattle.dbus_header.specs.Message.{spell, with_serial, with_number, spelled_list}
use Rattle.name_patterns.specs.Patterns.{Pattern}
use Rattle.policy_view.specs.Own.{ping, list_names, add_match, get_owner, match_text}
use Rattle.ping_rewrite.specs.Fronts.{front_with, rule_before}
use Rattle.ping_rewrite.specs.declared.calls.TheConstants.{PING, LIST_NAMES, ADD_MATCH, GET_OWNER}

-- ---- calls without a text

pub ping_bytes : (n : ℕ) → with_number Little 8 n PING ≡ spell (with_serial n ping)
unfolding spell ping
ping_bytes n = refl

pub list_names_bytes : (n : ℕ) → with_number Little 8 n LIST_NAMES ≡ spell (with_serial n list_names)
unfolding spell list_names
list_names_bytes n = refl

-- ---- calls with a text

-- a body of one text has four bytes of length before it and a NUL after it
body_length : (text : List ℕ) → length text + 5 ≡ length (spelled_list Little 144 (a_string text ∷ []))
body_length text = simp length-append (omega arith)

behind_length : (text : List ℕ) → text ++ 0 ∷ [] ≡ (text ++ 0 ∷ []) ++ []
behind_length text = sym (append-nil (text ++ 0 ∷ []))

-- a match rule is its beginning, the name, and an apostrophe
rule_length : (p : Pattern) → length (rule_before p.exact) + length p.name + 1 ≡ length (match_text p)
rule_length p = simp length-append (omega arith)

rule_parts : (p : Pattern) → match_text p ++ 0 ∷ [] ≡ rule_before p.exact ++ (p.name ++ 39 ∷ 0 ∷ [])
rule_parts p = simp append_assoc

pub add_match_bytes : (serial : ℕ) (p : Pattern) →
    front_with serial (length (rule_before p.exact) + length p.name + 1) ADD_MATCH ++ (rule_before p.exact ++ (p.name ++ 39 ∷ 0 ∷ [])) ≡ spell (with_serial serial (add_match p))
unfolding spell add_match
add_match_bytes serial p =
    ap₂ (λ n behind. front_with serial n ADD_MATCH ++ behind) (rule_length p) (sym (rule_parts p))
    ∙ ap₂ (λ n behind. with_number Little 144 (length (match_text p)) (with_number Little 8 serial (with_number Little 4 n ADD_MATCH)) ++ behind) (body_length (match_text p)) (behind_length (match_text p))

-- for the parts that the code appends: the call up to the text, the rule up to the name, and the name
pub add_match_parts : {front rule name : List ℕ} (serial : ℕ) (p : Pattern) → rule ≡ rule_before p.exact → name ≡ p.name →
    front ≡ front_with serial (length rule + length name + 1) ADD_MATCH → front ++ (rule ++ (name ++ 39 ∷ 0 ∷ [])) ≡ spell (with_serial serial (add_match p))
add_match_parts serial p r n f =
    ap₂ (λ (front : List ℕ) (behind : List ℕ). front ++ behind)
    (f ∙ ap₂ (λ (rule : List ℕ) (name : List ℕ). front_with serial (length rule + length name + 1) ADD_MATCH) r n)
    (ap₂ (λ (rule : List ℕ) (name : List ℕ). rule ++ (name ++ 39 ∷ 0 ∷ [])) r n)
    ∙ add_match_bytes serial p

pub get_owner_bytes : (serial : ℕ) (name : List ℕ) → front_with serial (length name) GET_OWNER ++ (name ++ 0 ∷ []) ≡ spell (with_serial serial (get_owner name))
unfolding spell get_owner
get_owner_bytes serial name =
    ap₂ (λ n behind. with_number Little 144 (length name) (with_number Little 8 serial (with_number Little 4 n GET_OWNER)) ++ behind) (body_length name) (behind_length name)

pub get_owner_parts : {front : List ℕ} (serial : ℕ) (name : List ℕ) → front ≡ front_with serial (length name) GET_OWNER → front ++ (name ++ 0 ∷ []) ≡ spell (with_serial serial (get_owner name))
get_owner_parts serial name f = ap (λ (front : List ℕ). front ++ (name ++ 0 ∷ [])) f ∙ get_owner_bytes serial name

-- the lengths of a call's parts
pub parts_length : {bytes : List ℕ} (front rule name end : List ℕ) → front ++ (rule ++ (name ++ end)) ≡ bytes → length front + length rule + length name + length end ≡ length bytes
parts_length front rule name end e = omega (arith, simp length-append at (ap length e))

pub get_owner_count : (serial : ℕ) (name : List ℕ) → 148 + length name + 1 ≡ length (spell (with_serial serial (get_owner name)))
get_owner_count serial name = parts_length (front_with serial (length name) GET_OWNER) [] name (0 ∷ []) (get_owner_bytes serial name)

pub add_match_count : (serial : ℕ) (p : Pattern) → 148 + length (rule_before p.exact) + length p.name + 2 ≡ length (spell (with_serial serial (add_match p)))
add_match_count serial p =
    parts_length (front_with serial (length (rule_before p.exact) + length p.name + 1) ADD_MATCH) (rule_before p.exact) p.name (39 ∷ 0 ∷ []) (add_match_bytes serial p)
