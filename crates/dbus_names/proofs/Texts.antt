-- Texts: what follows a prefix, and texts that are ASCII without NUL.
use Rattle.std.proofs.Common.{◌≡◌, ◌≢◌, ℕ, zero, suc, Bool, true, false, cond, not, ◌&&◌, List, [], ◌∷◌, ◌++◌, length, take, drop, Option, Some, None, option_map, MatchOption, Bor, refl, sym, ap, ◌∙◌, arith}
use Rattle.std.specs.Prelude.{nat_lt}
use Rattle.std.specs.List.{list_all}
use Rattle.std.specs.Str.{bytes_eq, IsAscii}
use Rattle.std.proofs.lemmas.Bool.{and_parts, and_from, ltb-true}
use Rattle.std.proofs.lemmas.List.{take-append-drop, take_at, drop_at}
use Rattle.std.proofs.lemmas.Option.{same_Some}
use Rattle.byte_lists.proofs.Bytes.{bytes_eq-true, bytes_eq-refl}
use Rattle.byte_lists.proofs.Options.{some}
use Rattle.dbus_names.specs.Names.{is_ascii_text_byte, is_empty, begins_with_digit, is_bus_byte, is_bus_element}
use Rattle.dbus_names.specs.Texts.{begins_with, behind}

-- ---- the prefix of a text

begins : (front text : List ℕ) → begins_with front text ≡ true → text ≡ front ++ drop (length front) text
begins front text e =
    sym (take-append-drop (length front) text)
    ∙ ap (λ (t : List ℕ). t ++ drop (length front) text) (sym (bytes_eq-true front (take (length front) text) e))

-- a text with a prefix is that prefix and what follows it
pub behind_is : (front text rest : List ℕ) → behind front text ≡ Some rest → text ≡ front ++ rest
behind_is front text rest e = go (begins_with front text) refl e
  where
    go : (b : Bool) → begins_with front text ≡ b → cond b (some (drop (length front) text)) None ≡ Some rest → text ≡ front ++ rest
    go true h e = begins front text h ∙ ap (λ (t : List ℕ). front ++ t) (same_Some (drop (length front) text) rest e)
    go false h e = absurd cc

pub behind-Some : (front text rest : List ℕ) → text ≡ front ++ rest → behind front text ≡ Some rest
behind-Some front text rest e =
    let there : begins_with front (front ++ rest) ≡ true = ap (bytes_eq front) (take_at front rest (length front) refl) ∙ bytes_eq-refl front in
    ap (behind front) e ∙ ap (λ b. cond b (some (drop (length front) (front ++ rest))) None) there ∙ ap some (drop_at front rest (length front) refl)

pub behind-None : (front text : List ℕ) → ((rest : List ℕ) → text ≢ front ++ rest) → behind front text ≡ None
behind-None front text lacks = go (begins_with front text) refl
  where
    go : (b : Bool) → begins_with front text ≡ b → cond b (some (drop (length front) text)) None ≡ None
    go true h = absurd (lacks (drop (length front) text) (begins front text h))
    go false h = refl

-- what `strip_prefix` answers at a text
pub behind_stripped : (front text : List ℕ) (r : Option (Bor (List ℕ))) → MatchOption r ((rest : List ℕ) → text ≢ front ++ rest) (λ x. text ≡ front ++ x.now)
    → option_map (λ x. x.now) r ≡ behind front text
behind_stripped front text None lacks = sym (behind-None front text lacks)
behind_stripped front text (Some x) is = sym (behind-Some front text x.now is)

-- ---- ASCII with no NUL

pub no_nul : (text : List ℕ) → list_all is_ascii_text_byte text ≡ true → list_all (nat_lt 0) text ≡ true
no_nul [] e = refl
no_nul (c ∷ text) e =
    let h = and_parts (is_ascii_text_byte c) (list_all is_ascii_text_byte text) e in
    and_from (nat_lt 0 c) _ (and_parts (nat_lt 0 c) (nat_lt c 128) h.0).0 (no_nul text h.1)

pub is_ascii : (text : List ℕ) → list_all is_ascii_text_byte text ≡ true → IsAscii text
is_ascii [] e i = omega arith
is_ascii (c ∷ text) e zero = ltb-true c 128 (and_parts (nat_lt 0 c) (nat_lt c 128) (and_parts (is_ascii_text_byte c) (list_all is_ascii_text_byte text) e).0).1
is_ascii (c ∷ text) e (suc i) = is_ascii text (and_parts (is_ascii_text_byte c) (list_all is_ascii_text_byte text) e).1 i

-- ---- the elements of a bus name

pub elements-bytes : (parts : List (List ℕ)) → list_all is_bus_element parts ≡ true → list_all (list_all is_bus_byte) parts ≡ true
elements-bytes [] e = refl
elements-bytes (part ∷ parts) e =
    let both = and_parts (is_bus_element part) (list_all is_bus_element parts) e in
    and_from (list_all is_bus_byte part) (list_all (list_all is_bus_byte) parts)
    (and_parts (not (is_empty part) && not (begins_with_digit part)) (list_all is_bus_byte part) both.0).1 (elements-bytes parts both.1)
