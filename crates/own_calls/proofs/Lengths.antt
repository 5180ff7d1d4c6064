-- The lengths of the proxy's own calls.
use Rattle.std.proofs.Common.{◌≡◌, ℕ, ◌+◌, ◌*◌, ◌≤◌, Bool, true, false, cond, List, [], ◌∷◌, ◌++◌, length, map, Some, refl, ap, sym, ◌∙◌, arith, length-append, append-nil}
use Rattle.std.specs.Int.{w32}
use Rattle.std.specs.List.{filter, flat_map, list_all, list_any}
use Rattle.std.specs.Prelude.{◌&&◌}
use Rattle.std.proofs.lemmas.Bool.{and_parts}
use Rattle.std.proofs.lemmas.Bool.Decides.{nat_tests}
use Rattle.std.specs.Bool.{if◌then◌else◌}
use Rattle.dbus_names.specs.Names.{is_short, is_well_known}
use Rattle.dbus_names.specs.Texts.{Text}
use Rattle.dbus_types.specs.Signature.{basic, string, path, signature, number, variant, array, struct, entry}
use Rattle.dbus_values.specs.Bodies.{list_in, strings}
use Rattle.dbus_values.specs.Values.{Value, a_number, a_string, a_path, a_signature, a_variant, an_array, a_struct, an_entry, Values, no_values, value, alignment, elements_place, number_bytes, padding, spelled, spelled_all, zeros}
use Rattle.dbus_values.specs.declared.Order.{Order}
use Rattle.dbus_values.proofs.ValueLaws.{text_len_is}
use Rattle.dbus_header.specs.Message.{Message, body_place, order_byte, spell, spelled_fields, spelled_list, text_list, with_serial}
use Rattle.name_patterns.specs.Patterns.{Pattern, is_pattern, is_subtree_name}
use Rattle.policy_args.specs.Policy.{Policy, patterns_of}
use Rattle.policy_view.specs.Own.{add_match, get_owner, list_names}
use Rattle.policy_view.specs.Sent.{asked, calls_for, is_asked, is_subtree, own_calls, spelled_from, OwnNames, OwnOwner}
use Rattle.policy_view.specs.Texts.{only_if}
use Rattle.ping_rewrite.proofs.Lengths.{add_match_lengths, get_owner_lengths, list_names_lengths}
use Rattle.own_calls.proofs.ListedCalls.{asked-well-known}
use Rattle.own_calls.proofs.SendingLaws.{spelled_from-append}
use Rattle.own_calls.proofs.NameLengths.{well-known-long}

-- ---- the calls after the first Hello

name-short : (p : Pattern) → is_pattern p ≡ true → length p.name ≤ 255
name-short p is = by p.exact is
  where
    short : (rest : Bool) → (is_short p.name && rest) ≡ true → length p.name ≤ 255
    short rest both = grind (arith, nat_tests, (and_parts (is_short p.name) rest both).0)

    by : (exact : Bool) → (if exact then is_well_known p.name else is_subtree_name p.name) ≡ true → length p.name ≤ 255
    by true is = short _ is
    by false is = short _ is

-- an AddMatch, and a GetNameOwner after it
calls-short : (p : Pattern) (serial : ℕ) → length p.name ≤ 255 → length (spelled_from serial (calls_for p)) ≤ 918
calls-short p serial short = by p.exact refl
  where
    first : List ℕ
    first = spell (with_serial serial (add_match p))

    second : List ℕ
    second = spell (with_serial (serial + 1) (get_owner p.name))

    by : (b : Bool) → p.exact ≡ b → length (first ++ spelled_from (serial + 1) (only_if b (OwnOwner p.name))) ≤ 918
    by true is =
        let first_is : length first ≡ 259 + length p.name = (add_match_lengths serial p).all_is ∙ ap (λ b. (if b then 259 else 268) + length p.name) is in
        omega (arith, short, first_is, (get_owner_lengths (serial + 1) p.name).all_is, length-append first (second ++ []), length-append second [])
    by false is =
        let first_is : length first ≡ 268 + length p.name = (add_match_lengths serial p).all_is ∙ ap (λ b. (if b then 259 else 268) + length p.name) is in
        omega (arith, short, first_is, length-append first [])

each-short : (ps : List Pattern) → list_all is_pattern ps ≡ true → (serial : ℕ) → length (spelled_from serial (flat_map calls_for ps)) ≤ 918 * length ps
each-short [] valid serial = omega arith
each-short (p ∷ ps) valid serial =
    let parts = and_parts (is_pattern p) (list_all is_pattern ps) valid in
    let later = serial + length (calls_for p) in
    omega (
      arith,
      calls-short p serial (name-short p parts.0),
      each-short ps parts.1 later,
      ap length (spelled_from-append serial (calls_for p) (flat_map calls_for ps)),
      length-append (spelled_from serial (calls_for p)) (spelled_from later (flat_map calls_for ps)),
    )

names-short : (b : Bool) (serial : ℕ) → length (spelled_from serial (only_if b OwnNames)) ≤ 136
names-short true serial = omega (arith, (list_names_lengths serial).all_is, length-append (spell (with_serial serial list_names)) [])
names-short false serial = omega arith

pub own-calls-short : (policy : Policy) → list_all is_pattern (patterns_of policy.entries) ≡ true → length (patterns_of policy.entries) ≤ 65535 →
    (serial : ℕ) → length (spelled_from serial (own_calls policy)) ≤ 65535 * 918 + 136
unfolding own_calls
own-calls-short policy valid few serial =
    let ps = patterns_of policy.entries in
    let names = only_if (list_any is_subtree policy.entries) OwnNames in
    let later = serial + length (flat_map calls_for ps) in
    omega (
      arith,
      few,
      each-short ps valid serial,
      names-short (list_any is_subtree policy.entries) later,
      ap length (spelled_from-append serial (flat_map calls_for ps) names),
      length-append (spelled_from serial (flat_map calls_for ps)) (spelled_from later names),
    )

-- ---- the calls for listed names, against the list

-- what the names take in a list at least
abbrev listed_len : List Text → ℕ
listed_len [] = 0
listed_len (name ∷ names) = length name + 5 + listed_len names

asked-short : (policy : Policy) (names : List Text) (serial : ℕ) → length (spelled_from serial (map OwnOwner (asked policy names))) ≤ 19 * listed_len names
unfolding asked
asked-short policy [] serial = omega arith
asked-short policy (name ∷ names) serial = by (is_asked policy name) refl (asked-short policy names (serial + 1)) (asked-short policy names serial)
  where
    others : List Text
    others = filter (is_asked policy) names

    call : List ℕ
    call = spell (with_serial serial (get_owner name))

    by : (b : Bool) → is_asked policy name ≡ b → length (spelled_from (serial + 1) (map OwnOwner others)) ≤ 19 * listed_len names → length (spelled_from serial (map OwnOwner others)) ≤ 19 * listed_len names →
        length (spelled_from serial (map OwnOwner (cond b (name ∷ others) others))) ≤ 19 * (length name + 5 + listed_len names)
    by true is later same =
        omega (arith, well-known-long name (asked-well-known policy name is), (get_owner_lengths serial name).all_is, length-append call (spelled_from (serial + 1) (map OwnOwner others)), later)
    by false is later same = omega (arith, same)

strings-fit : (o : Order) (place : ℕ) (vs : Values) → listed_len (strings vs) ≤ length (spelled_all o place vs)
strings-fit o place no_values = omega arith
strings-fit o place (value v vs) =
    let first = spelled o place v in
    let rest = strings-fit o (place + length first) vs in
    let both = length-append first (spelled_all o (place + length first) vs) in
    by v rest both
  where
    by : (v : Value) → listed_len (strings vs) ≤ length (spelled_all o (place + length (spelled o place v)) vs) →
        length (spelled o place v ++ spelled_all o (place + length (spelled o place v)) vs) ≡ length (spelled o place v) + length (spelled_all o (place + length (spelled o place v)) vs) →
        listed_len (strings (value v vs)) ≤ length (spelled o place v ++ spelled_all o (place + length (spelled o place v)) vs)
    by (a_string text) rest both = omega (arith, rest, both, text_len_is o place text)
    by (a_number n x) rest both = omega (arith, rest, both)
    by (a_path text) rest both = omega (arith, rest, both)
    by (a_signature ts) rest both = omega (arith, rest, both)
    by (a_variant v) rest both = omega (arith, rest, both)
    by (an_array t ws) rest both = omega (arith, rest, both)
    by (a_struct v ws) rest both = omega (arith, rest, both)
    by (an_entry k v) rest both = omega (arith, rest, both)

last-fits : (front behind : List ℕ) → length behind ≤ length (front ++ behind)
last-fits front behind = omega (arith, length-append front behind)

first-fits : (front behind : List ℕ) → length front ≤ length (front ++ behind)
first-fits front behind = omega (arith, length-append front behind)

-- the values of a list's body
list-of : (vs : List Value) (names : List Text) → list_in vs ≡ Some names → (ws : Values) × (vs ≡ an_array (basic string) ws ∷ []) × (strings ws ≡ names)
list-of [] names is = absurd cc
list-of (a_number n x ∷ vs) names is = absurd cc
list-of (a_string text ∷ vs) names is = absurd cc
list-of (a_path text ∷ vs) names is = absurd cc
list-of (a_signature ts ∷ vs) names is = absurd cc
list-of (a_variant v ∷ vs) names is = absurd cc
list-of (a_struct v ws ∷ vs) names is = absurd cc
list-of (an_entry k v ∷ vs) names is = absurd cc
list-of (an_array (basic (number n)) ws ∷ vs) names is = absurd cc
list-of (an_array (basic path) ws ∷ vs) names is = absurd cc
list-of (an_array (basic signature) ws ∷ vs) names is = absurd cc
list-of (an_array variant ws ∷ vs) names is = absurd cc
list-of (an_array (array t) ws ∷ vs) names is = absurd cc
list-of (an_array (struct t ts) ws ∷ vs) names is = absurd cc
list-of (an_array (entry k t) ws ∷ vs) names is = absurd cc
list-of (an_array (basic string) ws ∷ v ∷ vs) names is = absurd cc
list-of (an_array (basic string) ws ∷ []) names is = let same : strings ws ≡ names = cc in (ws, refl, same)

body-fits : (o : Order) (place : ℕ) (vs : List Value) (names : List Text) → list_in vs ≡ Some names → listed_len names ≤ length (spelled_list o place vs)
body-fits o place vs names is =
    let of = list-of vs names is in
    let elements = spelled_all o (elements_place (basic string) place) of.0 in
    let front = zeros 4 place ++ number_bytes o w32 (length elements) ++ zeros (alignment (basic string)) (place + padding 4 place + 4) in
    omega (
      arith,
      strings-fit o (elements_place (basic string) place) of.0,
      ap listed_len of.2,
      last-fits front elements,
      first-fits (front ++ elements) [],
      ap (λ (ws : List Value). length (spelled_list o place ws)) of.1,
    )

message-fits : (m : Message) → length (spelled_list m.order (body_place (length (spelled_fields m.order m.fields))) m.body) ≤ length (spell m)
unfolding spell
message-fits m =
    last-fits
    (order_byte m.order ∷ m.kind ∷ m.flags ∷ 1 ∷ number_bytes m.order w32 (length (spelled_list m.order (body_place (length (spelled_fields m.order m.fields))) m.body)) ++ number_bytes m.order w32 m.serial
    ++ number_bytes m.order w32 (length (spelled_fields m.order m.fields)) ++ spelled_fields m.order m.fields ++ zeros 8 (16 + length (spelled_fields m.order m.fields)))
    (spelled_list m.order (body_place (length (spelled_fields m.order m.fields))) m.body)

-- a name of n bytes, at least 3, takes n + 5 in the list or more, and its call has 149 + n
pub asked-calls-short : (policy : Policy) (m : Message) (names : List Text) (serial : ℕ) → text_list m ≡ Some names → length (spelled_from serial (map OwnOwner (asked policy names))) ≤ 19 * length (spell m)
asked-calls-short policy m names serial is =
    omega (arith, asked-short policy names serial, body-fits m.order (body_place (length (spelled_fields m.order m.fields))) m.body names is, message-fits m)
