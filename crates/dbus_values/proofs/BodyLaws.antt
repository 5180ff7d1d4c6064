-- The texts of a body, read at its start, are those of its values.
use Rattle.std.proofs.Common.{◌≡◌, ℕ, zero, suc, ◌+◌, ◌<◌, ◌≤◌, ◌%◌, ◌^◌, cond, Bool, true, false, List, [], ◌∷◌, ◌++◌, length, take, drop, map, nat_eq, Option, Some, None, refl, sym, ap, subst, ◌∙◌, arith}
use Rattle.std.specs.Prelude.{nat_le, IsSome}
use Rattle.std.specs.Int.{w32}
use Rattle.std.proofs.lemmas.Option.{same_Some}
use Rattle.byte_lists.specs.Bytes.{AreBytes}
use Rattle.byte_lists.proofs.Options.{some}
use Rattle.dbus_names.specs.Names.{is_empty}
use Rattle.std.proofs.lemmas.Bool.{and_parts, leb-true}
use Rattle.std.proofs.lemmas.List.{length-drop}
use Rattle.std.specs.List.{list_all, starts_with}
use Rattle.std.proofs.lemmas.Bool.Decides.{Decides-eqb}
use Rattle.std.proofs.lemmas.Slice.Eq.{starts_is}
use Rattle.dbus_types.specs.Signature.{byte, boolean, int16, uint16, int32, uint32, int64, uint64, double, handle, number, string, path, signature, Complete, basic, variant, array, struct, entry, spelled_type, spelled_types, is_complete, signature_fault}
use Rattle.dbus_types.proofs.SignatureLaws.{spelled_types_is}
use Rattle.dbus_values.specs.Values.{Value, a_string, an_array, Values, no_values, value, type_of, padding, is_text}
use Rattle.dbus_values.specs.Reading.{At, ◌>>=◌, when, past, some_bytes, all_zero, aligned, number_of, a_width, ended_by_nul, text_at, to_the_end, value_at, values_at, and_then_all}
use Rattle.dbus_values.specs.Walk.{front_code}
use Rattle.dbus_values.specs.Bodies.{IsBody, first_text_of, two_of, three_of, two_at, three_at, strings, list_in, texts_at, texts_in, texts_or_none, elements_in}
use Rattle.dbus_values.proofs.ValueRead.{bind_case, when_is, some_bytes-takes, aligned-takes, width-takes, read_32}
use Rattle.dbus_values.proofs.ValueLaws.{then_is}
use Rattle.dbus_values.proofs.ValueIs.{within-is}
use Rattle.dbus_values.proofs.WalkLaws.{all_complete}
use Rattle.dbus_values.proofs.Shifts.{shift, shifted, shifted_at, text-shift, texts-shift, elements-shift}
use Rattle.dbus_values.specs.declared.Order.{Order}

abbrev pub from_start : List ℕ → At
from_start body = record { place = 0; bytes = body }

abbrev pub from : ℕ → List ℕ → At
from p body = record { place = p; bytes = body }

pub shifted_start : (p : ℕ) (body : List ℕ) → from p body ≡ shift p (from_start body)
shifted_start p body = let same : p ≡ p + 0 = omega arith in ap (λ (q : ℕ). from q body) same

-- ---- the first string

-- a string of the body, and the values after it; the body begins at p, and is read from its start
pub record Front (o : Order) (p : ℕ) (ts : List Complete) (a : At) (values : List Value) : Type 0 where
  pub text : List ℕ × At
  pub there : text_at o a ≡ Some text
  pub others : List Value
  pub is : values ≡ a_string text.0 ∷ others
  pub read : (values_at o ts (shift p text.1)).0 ≡ others
  pub all : length others ≡ length ts

abbrev string_of : List ℕ × At → Option (Value × At)
string_of x = Some (a_string x.0, x.1)

string_front : (o : Order) (p : ℕ) (ts : List Complete) (a : At) (values : List Value) → p % 8 ≡ 0 → (values_at o (basic string ∷ ts) (shift p a)).0 ≡ values → length values ≡ suc (length ts) → Front o p ts a values
string_front o p ts a values e is len =
    go (text_at o a) refl (sym is ∙ ap (λ (x : Option (List ℕ × At)). (and_then_all (x >>= string_of) (shift p a) (λ v rest. values_at o ts rest)).0) (text-shift o p a e)) len
  where
    go : (x : Option (List ℕ × At)) → text_at o a ≡ x → values ≡ (and_then_all (shifted p x >>= string_of) (shift p a) (λ v rest. values_at o ts rest)).0 → length values ≡ suc (length ts) → Front o p ts a values
    go None t v l = absurd (omega (arith, ap length v, l))
    go (Some x) t v l = record { text = x; there = t; others = (values_at o ts (shift p x.1)).0; is = v; read = refl; all = omega (arith, ap length v, l) }

front_of_body : (o : Order) (bytes body : List ℕ) (p : ℕ) (types ts : List Complete) (values : List Value) → IsBody o bytes body p types values → types ≡ basic string ∷ ts → Front o p ts (from_start body) values
front_of_body o bytes body p types ts values b is =
    string_front o p ts (from_start body) values b.start
    (ap (λ (a : At). (values_at o (basic string ∷ ts) a).0) (sym (shifted_start p body)) ∙ ap (λ (us : List Complete). (values_at o us (from p body)).0) (sym is) ∙ ap (λ (x : List Value × At). x.0) b.read)
    (b.all ∙ ap length is)

-- the string after it
front_behind : (o : Order) (p : ℕ) (ts : List Complete) (a : At) (values : List Value) → p % 8 ≡ 0 → (f : Front o p (basic string ∷ ts) a values) → Front o p ts f.text.1 f.others
front_behind o p ts a values e f = string_front o p ts f.text.1 f.others e f.read f.all

-- ---- the types that a signature begins with

string_in_front : (t : Complete) (rest : List ℕ) → front_code (spelled_type t ++ rest) ≡ 115 → t ≡ basic string
string_in_front (basic (number byte)) rest e = absurd (omega (arith, e))
string_in_front (basic (number boolean)) rest e = absurd (omega (arith, e))
string_in_front (basic (number int16)) rest e = absurd (omega (arith, e))
string_in_front (basic (number uint16)) rest e = absurd (omega (arith, e))
string_in_front (basic (number int32)) rest e = absurd (omega (arith, e))
string_in_front (basic (number uint32)) rest e = absurd (omega (arith, e))
string_in_front (basic (number int64)) rest e = absurd (omega (arith, e))
string_in_front (basic (number uint64)) rest e = absurd (omega (arith, e))
string_in_front (basic (number double)) rest e = absurd (omega (arith, e))
string_in_front (basic (number handle)) rest e = absurd (omega (arith, e))
string_in_front (basic string) rest e = refl
string_in_front (basic path) rest e = absurd (omega (arith, e))
string_in_front (basic signature) rest e = absurd (omega (arith, e))
string_in_front variant rest e = absurd (omega (arith, e))
string_in_front (array t) rest e = absurd (omega (arith, e))
string_in_front (struct t ts) rest e = absurd (omega (arith, e))
string_in_front (entry k t) rest e = absurd (omega (arith, e))

types_behind : (t : Complete) (ts : List Complete) (rest : List ℕ) → t ≡ basic string → spelled_types (t ∷ ts) ≡ 115 ∷ rest → spelled_types ts ≡ rest
types_behind t ts rest is e = ap (drop 1) (ap (λ (u : Complete). spelled_types (u ∷ ts)) (sym is) ∙ e)

pub begins_with_string : (types : List Complete) (rest : List ℕ) → spelled_types types ≡ 115 ∷ rest → (ts : List Complete) × (types ≡ basic string ∷ ts) × (spelled_types ts ≡ rest)
begins_with_string [] rest e = absurd cc
begins_with_string (t ∷ ts) rest e =
    let is : t ≡ basic string = string_in_front t (spelled_types ts) (ap front_code e) in
    (ts, ap (λ (u : Complete). u ∷ ts) is, types_behind t ts rest is e)

pub starts-then : (bytes word : List ℕ) → starts_with nat_eq bytes word ≡ true → bytes ≡ word ++ drop (length word) bytes
starts-then bytes word e = (starts_is Decides-eqb bytes word (starts_with nat_eq bytes word) refl).0 e

pub starts-if : (bytes word rest : List ℕ) → starts_with nat_eq bytes word ≡ false → bytes ≡ word ++ rest → ⊥
starts-if bytes word rest n e = let s : starts_with nat_eq bytes word ≡ true = (starts_is Decides-eqb bytes word (starts_with nat_eq bytes word) refl).1 rest e in cc

-- ---- one string, two and three

abbrev pub text_only : List ℕ × At → Option (List ℕ)
text_only x = Some x.0

abbrev pub two_only : (List ℕ × List ℕ) × At → Option (List ℕ × List ℕ)
two_only x = Some x.0

pub first_string : (o : Order) (bytes body : List ℕ) (p : ℕ) (types : List Complete) (values : List Value) → IsBody o bytes body p types values → starts_with nat_eq bytes (115 ∷ []) ≡ true →
    ((text_at o (from_start body) >>= text_only) ≡ first_text_of values) × IsSome (text_at o (from_start body))
first_string o bytes body p types values b front =
    let t = begins_with_string types (drop 1 bytes) (sym b.spelled ∙ starts-then bytes (115 ∷ []) front) in
    let f = front_of_body o bytes body p types t.0 values b t.1 in
    (ap (λ (x : Option (List ℕ × At)). x >>= text_only) f.there ∙ ap first_text_of (sym f.is), subst IsSome (sym f.there) refl)

-- two strings of the body
record Two (o : Order) (p : ℕ) (ts : List Complete) (a : At) (values : List Value) : Type 0 where
  one : Front o p (basic string ∷ ts) a values
  other : Front o p ts one.text.1 one.others
  there : two_at o a ≡ Some ((one.text.0, other.text.0), other.text.1)
  is : values ≡ a_string one.text.0 ∷ a_string other.text.0 ∷ other.others

two_front : (o : Order) (bytes body : List ℕ) (p : ℕ) (types ts : List Complete) (values : List Value) → IsBody o bytes body p types values → types ≡ basic string ∷ basic string ∷ ts → Two o p ts (from_start body) values
two_front o bytes body p types ts values b is =
    let f = front_of_body o bytes body p types (basic string ∷ ts) values b is in
    let g = front_behind o p ts (from_start body) values b.start f in
    record { one = f; other = g; there = then_is _ _ _ _ f.there (then_is _ _ _ _ g.there refl); is = f.is ∙ ap (λ (vs : List Value). a_string f.text.0 ∷ vs) g.is }

pub two_strings : (o : Order) (bytes body : List ℕ) (p : ℕ) (types : List Complete) (values : List Value) → IsBody o bytes body p types values → starts_with nat_eq bytes (115 ∷ 115 ∷ []) ≡ true →
    ((two_at o (from_start body) >>= two_only) ≡ two_of values) × IsSome (two_at o (from_start body))
two_strings o bytes body p types values b front =
    let t = begins_with_string types (115 ∷ drop 2 bytes) (sym b.spelled ∙ starts-then bytes (115 ∷ 115 ∷ []) front) in
    let u = begins_with_string t.0 (drop 2 bytes) t.2 in
    let f = two_front o bytes body p types u.0 values b (t.1 ∙ ap (λ (ts : List Complete). basic string ∷ ts) u.1) in
    (ap (λ (x : Option ((List ℕ × List ℕ) × At)). x >>= two_only) f.there ∙ ap two_of (sym f.is), subst IsSome (sym f.there) refl)

abbrev pub three_strings : List Complete
three_strings = basic string ∷ basic string ∷ basic string ∷ []

no_more : (vs : List Value) → length vs ≡ 0 → vs ≡ []
no_more [] e = refl
no_more (v ∷ vs) e = absurd (omega (arith, e))

pub three_in_body : (o : Order) (body : List ℕ) (p : ℕ) (types : List Complete) (values : List Value) → IsBody o (115 ∷ 115 ∷ 115 ∷ []) body p types values → (three_at o (from_start body) ≡ three_of values) × IsSome (three_at o (from_start body))
three_in_body o body p types values b =
    let f = two_front o (115 ∷ 115 ∷ 115 ∷ []) body p types (basic string ∷ []) values b (spelled_types_is types three_strings (sym b.spelled)) in
    let g = front_behind o p [] f.one.text.1 f.one.others b.start f.other in
    let there : three_at o (from_start body) ≡ Some (f.one.text.0, f.other.text.0, g.text.0) = then_is _ _ _ _ f.there (then_is _ _ _ _ g.there refl) in
    let others : f.other.others ≡ a_string g.text.0 ∷ [] = g.is ∙ ap (λ (vs : List Value). a_string g.text.0 ∷ vs) (no_more g.others g.all) in
    (there ∙ ap three_of (sym (f.is ∙ ap (λ (vs : List Value). a_string f.one.text.0 ∷ a_string f.other.text.0 ∷ vs) others)), subst IsSome (sym there) refl)

-- ---- bodies that begin with others

types_read : (o : Order) (ts : List Complete) (a : At) → list_all is_complete ts ≡ true → AreBytes a.bytes → length (values_at o ts a).0 ≡ length ts → map type_of (values_at o ts a).0 ≡ ts
types_read o [] a c h e = refl
types_read o (t ∷ ts) a c h e = go (value_at o t a) refl (λ b. types_read o ts b (and_parts (is_complete t) (list_all is_complete ts) c).1) e
  where
    go : (x : Option (Value × At)) → value_at o t a ≡ x → ((b : At) → AreBytes b.bytes → length (values_at o ts b).0 ≡ length ts → map type_of (values_at o ts b).0 ≡ ts)
        → length (and_then_all x a (λ v rest. values_at o ts rest)).0 ≡ suc (length ts) → map type_of (and_then_all x a (λ v rest. values_at o ts rest)).0 ≡ t ∷ ts
    go None is ih l = absurd (omega (arith, l))
    go (Some x) is ih l =
        let s = within-is 65 o t a x (and_parts (is_complete t) (list_all is_complete ts) c).0 h is in
        ap (λ (u : Complete). u ∷ map type_of (values_at o ts x.1).0) s.type ∙ ap (λ (us : List Complete). t ∷ us) (ih x.1 s.takes.are (omega (arith, l)))

-- a body's signature spells its values' types
signature_of_body : (o : Order) (bytes body : List ℕ) (p : ℕ) (types : List Complete) (values : List Value) → IsBody o bytes body p types values → signature_fault bytes ≡ None → AreBytes body → bytes ≡ spelled_types (map type_of values)
signature_of_body o bytes body p types values b valid are =
    let read : (values_at o types (from p body)).0 ≡ values = ap (λ (x : List Value × At). x.0) b.read in
    let here = types_read o types (from p body) (all_complete types (ap signature_fault (sym b.spelled) ∙ valid)) are (ap length read ∙ b.all) in
    b.spelled ∙ ap spelled_types (sym here) ∙ ap (λ (vs : List Value). spelled_types (map type_of vs)) read

no_text : (vs : List Value) → starts_with nat_eq (spelled_types (map type_of vs)) (115 ∷ []) ≡ false → None ≡ first_text_of vs
no_text (a_string text ∷ vs) n = absurd (starts-if (spelled_types (map type_of (a_string text ∷ vs))) (115 ∷ []) (spelled_types (map type_of vs)) n refl)
no_text _ n = refl

no_two : (vs : List Value) → starts_with nat_eq (spelled_types (map type_of vs)) (115 ∷ 115 ∷ []) ≡ false → None ≡ two_of vs
no_two (a_string a ∷ a_string b ∷ vs) n = absurd (starts-if (spelled_types (map type_of (a_string a ∷ a_string b ∷ vs))) (115 ∷ 115 ∷ []) (spelled_types (map type_of vs)) n refl)
no_two _ n = refl

pub first_other : (o : Order) (bytes body : List ℕ) (p : ℕ) (types : List Complete) (values : List Value) → IsBody o bytes body p types values → signature_fault bytes ≡ None → AreBytes body →
    starts_with nat_eq bytes (115 ∷ []) ≡ false → None ≡ first_text_of values
first_other o bytes body p types values b valid are n =
    no_text values (ap (λ (s : List ℕ). starts_with nat_eq s (115 ∷ [])) (sym (signature_of_body o bytes body p types values b valid are)) ∙ n)

pub two_other : (o : Order) (bytes body : List ℕ) (p : ℕ) (types : List Complete) (values : List Value) → IsBody o bytes body p types values → signature_fault bytes ≡ None → AreBytes body →
    starts_with nat_eq bytes (115 ∷ 115 ∷ []) ≡ false → None ≡ two_of values
two_other o bytes body p types values b valid are n =
    no_two values (ap (λ (s : List ℕ). starts_with nat_eq s (115 ∷ 115 ∷ [])) (sym (signature_of_body o bytes body p types values b valid are)) ∙ n)

-- ---- an array of strings

abbrev string_array : Complete
string_array = array (basic string)

-- an element that is a string
abbrev element : Order → At → Option (Value × At)
element o a = text_at o a >>= string_of

strings_read : (o : Order) (fuel : ℕ) (a : At) (vs : Values) → to_the_end (element o) fuel a ≡ Some vs → texts_at o fuel a ≡ Some (strings vs)
strings_read o zero a vs e = absurd cc
strings_read o (suc fuel) a vs e = go (is_empty a.bytes) (text_at o a) (λ b ws. strings_read o fuel b ws) e
  where
    valued : Value × At → Option Values
    valued x = to_the_end (element o) fuel x.1 >>= λ xs. some (value x.0 xs)

    told : List ℕ × At → Option (List (List ℕ))
    told x = texts_at o fuel x.1 >>= λ texts. some (x.0 ∷ texts)

    go : (b : Bool) (x : Option (List ℕ × At)) → ((c : At) (ws : Values) → to_the_end (element o) fuel c ≡ Some ws → texts_at o fuel c ≡ Some (strings ws))
        → cond b (Some no_values) ((x >>= string_of) >>= valued) ≡ Some vs → cond b (Some []) (x >>= told) ≡ Some (strings vs)
    go true x ih e = ap (λ (ws : Values). some (strings ws)) (same_Some no_values vs e)
    go false None ih e = absurd cc
    go false (Some x) ih e = bind_case (to_the_end (element o) fuel x.1) (λ xs. some (value (a_string x.0) xs)) vs e (λ xs exs e1.
        ap (λ (t : Option (List (List ℕ))). t >>= λ texts. some (x.0 ∷ texts)) (ih x.1 xs exs) ∙ ap (λ (ws : Values). some (strings ws)) (same_Some (value (a_string x.0) xs) vs e1))

-- the texts of an array's elements
pub record Listed (o : Order) (a : At) (values : List Value) : Type 0 where
  pub elements : At
  pub there : elements_in o a ≡ Some elements
  pub texts : texts_in o elements ≡ list_in values
  pub all : IsSome (texts_in o elements)

list_value : (o : Order) (a : At) (x : Value × At) → AreBytes a.bytes → value_at o string_array a ≡ Some x → Listed o a (x.0 ∷ [])
list_value o a x are e =
    bind_case (aligned 4 a) (λ s. a_width o w32 s >>= λ n. aligned 4 n.1 >>= λ f. some_bytes n.0 f >>= items n.0 f) x e (λ s es e1.
    bind_case (a_width o w32 s) (λ n. aligned 4 n.1 >>= λ f. some_bytes n.0 f >>= items n.0 f) x e1 (λ n en e2.
    bind_case (aligned 4 n.1) (λ f. some_bytes n.0 f >>= items n.0 f) x e2 (λ f ef e3.
    bind_case (some_bytes n.0 f) (items n.0 f) x e3 (λ y ey e4.
    bind_case (to_the_end (element o) (suc n.0) (record { place = f.place; bytes = y.0 })) (λ vs. when (nat_le n.0 (2 ^ 26)) (an_array (basic string) vs, y.1)) x e4 (λ vs evs e5.
    let w = when_is (nat_le n.0 (2 ^ 26)) (an_array (basic string) vs, y.1) x e5 in
    let pad = aligned-takes 4 a s are es in
    let num = width-takes o w32 s n read_32 pad.are en in
    let gap = aligned-takes 4 n.1 f num.are ef in
    let body = some_bytes-takes n.0 f y gap.are ey in
    let b : At = record { place = f.place; bytes = y.0 } in
    let read : texts_in o b ≡ Some (strings vs) = ap (λ (m : ℕ). texts_at o (suc m) b) body.1 ∙ strings_read o (suc n.0) b vs evs in
    record {
      elements = b;
      there = then_is _ _ _ _ es (then_is _ _ _ _ en (then_is _ _ _ _ ef (then_is _ _ _ _ ey refl)));
      texts = read ∙ ap (λ (z : Value × At). list_in (z.0 ∷ [])) w.1;
      all = subst IsSome (sym read) refl;
    })))))
  where
    items : ℕ → At → List ℕ × At → Option (Value × At)
    items n f y = to_the_end (element o) (suc n) (record { place = f.place; bytes = y.0 }) >>= λ vs. when (nat_le n (2 ^ 26)) (an_array (basic string) vs, y.1)

alone : (o : Order) (a : At) (values : List Value) → AreBytes a.bytes → (values_at o (string_array ∷ []) a).0 ≡ values → length values ≡ 1 → Listed o a values
alone o a values are is len = go (value_at o string_array a) refl (sym is) len
  where
    go : (x : Option (Value × At)) → value_at o string_array a ≡ x → values ≡ (and_then_all x a (λ v rest. values_at o [] rest)).0 → length values ≡ 1 → Listed o a values
    go None e i l = absurd (omega (arith, ap length i, l))
    go (Some x) e i l = subst (Listed o a) (sym i) (list_value o a x are e)

pub list_in_body : (o : Order) (body : List ℕ) (p : ℕ) (types : List Complete) (values : List Value) → AreBytes body → IsBody o (97 ∷ 115 ∷ []) body p types values → Listed o (from_start body) values
list_in_body o body p types values are b =
    let is : types ≡ string_array ∷ [] = spelled_types_is types (string_array ∷ []) (sym b.spelled) in
    let read = subst (λ (ts : List Complete). (values_at o ts (from p body)).0 ≡ values) is (ap (λ (x : List Value × At). x.0) b.read) in
    let found = alone o (from p body) values are read (b.all ∙ ap length is) in
    go found (elements_in o (from_start body)) (sym (elements-shift o p (from_start body) b.start) ∙ ap (elements_in o) (sym (shifted_start p body)) ∙ found.there) refl
  where
    go : (f : Listed o (from p body) values) → (x : Option At) → shifted_at p x ≡ Some f.elements → elements_in o (from_start body) ≡ x → Listed o (from_start body) values
    go f None e i = absurd cc
    go f (Some c) e i =
        let same : shift p c ≡ f.elements = same_Some (shift p c) f.elements e in
        let texts : texts_in o c ≡ texts_in o f.elements = sym (texts-shift o p (suc (length c.bytes)) c b.start) ∙ ap (texts_in o) same in
        record { elements = c; there = i; texts = texts ∙ f.texts; all = subst IsSome (sym texts) f.all }

-- ---- one string after the other

taken_len : (n : ℕ) (a : At) (x : List ℕ × At) → some_bytes n a ≡ Some x → length x.1.bytes + n ≡ length a.bytes
taken_len n a x e =
    let w = when_is (nat_le n (length a.bytes)) (take n a.bytes, past n a) x e in
    subst (λ (y : List ℕ × At). length y.1.bytes + n ≡ length a.bytes) w.1 (omega (arith, length-drop n a.bytes, leb-true n (length a.bytes) w.0))

aligned_len : (a b : At) → aligned 4 a ≡ Some b → length b.bytes ≤ length a.bytes
aligned_len a b e = bind_case (some_bytes (padding 4 a.place) a) (λ x. when (all_zero x.0) x.1) b e (λ x ex e1.
    let w = when_is (all_zero x.0) x.1 b e1 in
    subst (λ (c : At). length c.bytes ≤ length a.bytes) w.1 (omega (arith, taken_len (padding 4 a.place) a x ex)))

number_len : (o : Order) (a : At) (n : ℕ × At) → a_width o w32 a ≡ Some n → length n.1.bytes + 4 ≡ length a.bytes
number_len o a n e = bind_case (some_bytes 4 a) (λ x. some {A = ℕ × At} (number_of o w32 x.0, x.1)) n e (λ x ex e1.
    subst (λ (m : ℕ × At). length m.1.bytes + 4 ≡ length a.bytes) (same_Some (number_of o w32 x.0, x.1) n e1) (taken_len 4 a x ex))

nul_len : (n : ℕ) (a : At) (x : List ℕ × At) → ended_by_nul n a ≡ Some x → length x.1.bytes ≤ length a.bytes
nul_len n a x e = bind_case (some_bytes n a) (λ y. some_bytes 1 y.1 >>= λ z. when (all_zero z.0) (y.0, z.1)) x e (λ y ey e1.
    bind_case (some_bytes 1 y.1) (λ z. when (all_zero z.0) (y.0, z.1)) x e1 (λ z ez e2.
    let w = when_is (all_zero z.0) (y.0, z.1) x e2 in
    subst (λ (v : List ℕ × At). length v.1.bytes ≤ length a.bytes) w.1 (omega (arith, taken_len n a y ey, taken_len 1 y.1 z ez))))

-- a string takes a byte at least
passed_len : (o : Order) (a : At) (x : List ℕ × At) → text_at o a ≡ Some x → length x.1.bytes < length a.bytes
passed_len o a x e = bind_case (aligned 4 a) (λ s. a_width o w32 s >>= λ n. ended_by_nul n.0 n.1 >>= λ y. when (is_text y.0) y) x e (λ s es e1.
    bind_case (a_width o w32 s) (λ n. ended_by_nul n.0 n.1 >>= λ y. when (is_text y.0) y) x e1 (λ n en e2.
    bind_case (ended_by_nul n.0 n.1) (λ y. when (is_text y.0) y) x e2 (λ y ey e3.
    let w = when_is (is_text y.0) y x e3 in
    subst (λ (v : List ℕ × At). length v.1.bytes < length a.bytes) w.1 (omega (arith, aligned_len a s es, number_len o s n en, nul_len n.0 n.1 y ey)))))

-- more than enough changes nothing
enough : (o : Order) (n m : ℕ) (a : At) → length a.bytes < n → length a.bytes < m → texts_at o n a ≡ texts_at o m a
enough o zero m a h i = absurd (omega (arith, h))
enough o (suc n) zero a h i = absurd (omega (arith, i))
enough o (suc n) (suc m) a h i = ap (λ (x : Option (List (List ℕ))). cond (is_empty a.bytes) (Some []) x) (go (text_at o a) refl (λ b. enough o n m b))
  where
    go : (x : Option (List ℕ × At)) → text_at o a ≡ x → ((b : At) → length b.bytes < n → length b.bytes < m → texts_at o n b ≡ texts_at o m b)
        → (x >>= λ y. texts_at o n y.1 >>= λ texts. some (y.0 ∷ texts)) ≡ (x >>= λ y. texts_at o m y.1 >>= λ texts. some (y.0 ∷ texts))
    go None e ih = refl
    go (Some x) e ih =
        let less = passed_len o a x e in
        ap (λ (t : Option (List (List ℕ))). t >>= λ texts. some (x.0 ∷ texts)) (ih x.1 (omega (arith, less, h)) (omega (arith, less, i)))

pub record Next (o : Order) (a : At) : Type 0 where
  pub text : List ℕ × At
  pub there : text_at o a ≡ Some text
  pub others : IsSome (texts_in o text.1)
  pub first : texts_or_none (texts_in o a) ≡ text.0 ∷ texts_or_none (texts_in o text.1)

pub next_text : (o : Order) (a : At) → is_empty a.bytes ≡ false → IsSome (texts_in o a) → Next o a
next_text o a some_left all = go (text_at o a) refl (subst IsSome whole all)
  where
    told : List ℕ × At → Option (List (List ℕ))
    told x = texts_at o (length a.bytes) x.1 >>= λ texts. some (x.0 ∷ texts)

    whole : texts_in o a ≡ (text_at o a >>= told)
    whole = ap (λ (b : Bool). cond b (Some []) (text_at o a >>= told)) some_left

    joined : (x : List ℕ × At) (t : Option (List (List ℕ))) → IsSome (t >>= λ texts. some (x.0 ∷ texts)) → IsSome t × (texts_or_none (t >>= λ texts. some (x.0 ∷ texts)) ≡ x.0 ∷ texts_or_none t)
    joined x None s = absurd cc
    joined x (Some texts) s = (refl, refl)

    go : (x : Option (List ℕ × At)) → text_at o a ≡ x → IsSome (x >>= told) → Next o a
    go None e s = absurd cc
    go (Some x) e s =
        let less = passed_len o a x e in
        let same : texts_at o (length a.bytes) x.1 ≡ texts_in o x.1 = enough o (length a.bytes) (suc (length x.1.bytes)) x.1 less (omega arith) in
        let j = joined x (texts_at o (length a.bytes) x.1) s in
        record {
          text = x;
          there = e;
          others = subst IsSome same j.0;
          first = ap texts_or_none (whole ∙ ap (λ (y : Option (List ℕ × At)). y >>= told) e) ∙ j.1 ∙ ap (λ (t : Option (List (List ℕ))). x.0 ∷ texts_or_none t) same;
        }

-- ---- where the elements are

pub is_listed : (o : Order) (body : List ℕ) (values : List Value) → Listed o (from_start body) values → IsSome (elements_in o (from_start body))
is_listed o body values l = subst IsSome (sym l.there) refl

same_elements : (o : Order) (body : List ℕ) (values : List Value) (l : Listed o (from_start body) values) (a : At) → Some a ≡ elements_in o (from_start body) → l.elements ≡ a
same_elements o body values l a e = same_Some l.elements a (sym l.there ∙ sym e)

pub listed_all : (o : Order) (body : List ℕ) (values : List Value) → Listed o (from_start body) values → (a : At) → Some a ≡ elements_in o (from_start body) → IsSome (texts_in o a)
listed_all o body values l a e = subst (λ (b : At). IsSome (texts_in o b)) (same_elements o body values l a e) l.all

some_texts : (t : Option (List (List ℕ))) → IsSome t → t ≡ Some (texts_or_none t)
some_texts None s = absurd cc
some_texts (Some texts) s = refl

pub listed_texts : (o : Order) (body : List ℕ) (values : List Value) → Listed o (from_start body) values → (a : At) → Some a ≡ elements_in o (from_start body) → list_in values ≡ Some (texts_or_none (texts_in o a))
listed_texts o body values l a e =
    sym l.texts ∙ ap (texts_in o) (same_elements o body values l a e) ∙ some_texts (texts_in o a) (listed_all o body values l a e)

pub text_passed : (o : Order) (a : At) (x : List ℕ × At) → is_empty a.bytes ≡ false → IsSome (texts_in o a) → Some x ≡ text_at o a → IsSome (texts_in o x.1) × (texts_or_none (texts_in o x.1) ≡ drop 1 (texts_or_none (texts_in o a)))
text_passed o a x left all e =
    let n = next_text o a left all in
    let same : n.text ≡ x = same_Some n.text x (sym n.there ∙ sym e) in
    subst (λ (y : List ℕ × At). IsSome (texts_in o y.1) × (texts_or_none (texts_in o y.1) ≡ drop 1 (texts_or_none (texts_in o a)))) same (n.others, sym (ap (drop 1) n.first))
