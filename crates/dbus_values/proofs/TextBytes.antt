-- Texts by their bytes: ASCII other than NUL is one, and so is a path.
use Rattle.std.proofs.Common.{◌≡◌, ℕ, ◌<◌, ◌^◌, Bool, true, false, List, length, Option, Some, None, refl, sym, ap, subst, ◌∙◌, rules}
use Rattle.std.specs.Prelude.{◌&&◌, nat_lt, IsSome}
use Rattle.std.specs.List.{list_all}
use Rattle.std.specs.Int.{w32}
use Rattle.std.specs.Str.{is_utf8, IsUtf8}
use Rattle.std.proofs.lemmas.Str.{IsUtf8-from_ascii, is_utf8-from_IsUtf8, IsUtf8-from_is_utf8}
use Rattle.std.proofs.lemmas.Bool.{and_parts, and_from, lt-ltb}
use Rattle.dbus_names.specs.Names.{is_ascii_text_byte, is_path}
use Rattle.dbus_names.proofs.NameBytes.{is_path-ascii}
use Rattle.dbus_names.proofs.Texts.{no_nul, is_ascii}
use Rattle.dbus_values.specs.Values.{is_text}
use Rattle.dbus_values.specs.Reading.{At, ◌>>=◌, when, aligned, a_width, ended_by_nul, text_at}
use Rattle.dbus_values.specs.Counted.{counted_at}
use Rattle.dbus_values.specs.Walk.{walk_path}
use Rattle.dbus_values.specs.declared.Order.{Order}

pub ascii_is_text : (text : List ℕ) → length text < 2 ^ 32 → list_all is_ascii_text_byte text ≡ true → is_text text ≡ true
ascii_is_text text short e =
    and_from _ _ (and_from _ _ (no_nul text e) (is_utf8-from_IsUtf8 text (IsUtf8-from_ascii text (is_ascii text e)))) (lt-ltb (length text) (2 ^ 32) short)

pub path_is_text : (text : List ℕ) → length text < 2 ^ 32 → is_path text ≡ true → is_text text ≡ true
path_is_text text short e = ascii_is_text text short (is_path-ascii text e)

pub short_text : (text : List ℕ) → length text < 2 ^ 32 → is_text text ≡ (list_all (nat_lt 0) text && is_utf8 text)
short_text text short = go (list_all (nat_lt 0) text && is_utf8 text) (nat_lt (length text) (2 ^ 32)) (lt-ltb (length text) (2 ^ 32) short)
  where
    go : (a b : Bool) → b ≡ true → (a && b) ≡ a
    go true b e = e
    go false b e = refl

pub utf8_true : (text : List ℕ) → IsUtf8 text → true ≡ is_utf8 text
utf8_true text u = sym (is_utf8-from_IsUtf8 text u)

pub utf8_false : (text : List ℕ) → (IsUtf8 text → ⊥) → false ≡ is_utf8 text
utf8_false text n = go (is_utf8 text) refl
  where
    go : (b : Bool) → is_utf8 text ≡ b → false ≡ is_utf8 text
    go true e = absurd (n (IsUtf8-from_is_utf8 text e))
    go false e = sym e

-- ---- a string's bytes, and what they have to be

abbrev pub if_text : List ℕ × At → Option (List ℕ × At)
if_text x = when (is_text x.0) x

text_at-counted : (o : Order) (at : At) → text_at o at ≡ (counted_at o at >>= if_text)
text_at-counted o at = start (aligned 4 at)
  where
    len : (n : Option (ℕ × At)) → (n >>= λ m. ended_by_nul m.0 m.1 >>= if_text) ≡ ((n >>= λ m. ended_by_nul m.0 m.1) >>= if_text)
    len None = refl
    len (Some m) = refl

    start : (s : Option At) → (s >>= λ b. a_width o w32 b >>= λ m. ended_by_nul m.0 m.1 >>= if_text) ≡ ((s >>= λ b. a_width o w32 b >>= λ m. ended_by_nul m.0 m.1) >>= if_text)
    start None = refl
    start (Some b) = len (a_width o w32 b)

pub path_walked : (o : Order) (at : At) (x : List ℕ × At) → length x.0 < 2 ^ 32 → counted_at o at ≡ Some x → is_path x.0 ≡ true → walk_path o at ≡ Some x.1
path_walked o at x short e p =
    let whole : text_at o at ≡ Some x = text_at-counted o at ∙ ap (λ (y : Option (List ℕ × At)). y >>= if_text) e ∙ ap (λ (b : Bool). when b x) (path_is_text x.0 short p) in
    ap (λ (y : Option (List ℕ × At)). y >>= λ z. when (is_path z.0) z.1) whole ∙ ap (λ (b : Bool). when b x.1) p

pub path_refused : (o : Order) (at : At) (x : List ℕ × At) → counted_at o at ≡ Some x → is_path x.0 ≡ false → walk_path o at ≡ None
path_refused o at x e p =
    ap (λ (y : Option (List ℕ × At)). y >>= λ z. when (is_path z.0) z.1) (text_at-counted o at ∙ ap (λ (y : Option (List ℕ × At)). y >>= if_text) e) ∙ go (is_text x.0)
  where
    go : (b : Bool) → (when b x >>= λ z. when (is_path z.0) z.1) ≡ None
    go true = ap (λ (b : Bool). when b x.1) p
    go false = refl

-- what is read as a string's bytes is UTF-8 if it is a string
pub counted_utf8 : (o : Order) (at : At) (x : List ℕ × At) → counted_at o at ≡ Some x → IsSome (text_at o at) → IsUtf8 x.0
counted_utf8 o at x e s = go (is_text x.0) refl (subst IsSome (text_at-counted o at ∙ ap (λ (y : Option (List ℕ × At)). y >>= if_text) e) s)
  where
    go : (b : Bool) → is_text x.0 ≡ b → IsSome (when b x) → IsUtf8 x.0
    go true t s = IsUtf8-from_is_utf8 x.0 (and_parts (list_all (nat_lt 0) x.0) (is_utf8 x.0) (and_parts (list_all (nat_lt 0) x.0 && is_utf8 x.0) (nat_lt (length x.0) (2 ^ 32)) t).0).1
    go false t s = absurd (search rules)
