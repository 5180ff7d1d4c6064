-- The field that is read at a place is the valid field there.
use Rattle.std.proofs.Common.{◌≡◌, ℕ, zero, suc, ◌+◌, ◌%◌, ◌<◌, ◌≤◌, Bool, true, false, cond, List, [], ◌∷◌, length, take, drop, get_or, Option, Some, None, refl, sym, ap, ◌∙◌, arith}
use Rattle.std.specs.Prelude.{◌&&◌, ◌==◌, nat_lt, nat_le, unwrap_or}
use Rattle.std.proofs.lemmas.Bool.{lt-leb, leb-true, lt-ltb, ltb-true, ne_eqb}
use Rattle.byte_lists.specs.Bytes.{AreBytes}
use Rattle.dbus_types.specs.Signature.{Complete, Basic, basic, number, uint32, string, path, signature, variant, code, spelled_types}
use Rattle.dbus_names.specs.Names.{is_interface, is_member, is_error_name, is_bus_name}
use Rattle.dbus_values.specs.Values.{Value, a_number, a_string, a_path, a_signature, type_of, padding}
use Rattle.dbus_values.specs.Reading.{At, ◌>>=◌, when, all_zero, signature_at, one_type, value_within, and_then_all}
use Rattle.dbus_values.specs.Ends.{end_of, values_end}
use Rattle.dbus_values.specs.declared.Order.{Order}
use Rattle.dbus_header.specs.Message.{is_field_of, text_passes, is_a_path, is_a_signature, number_passes, text_in, number_in, types_in}
use Rattle.dbus_header.specs.HeaderReading.{Part, some_text, some_number, some_signature, unread, type_code, known_value, has_type_at, known_part, unread_to, coded_part, part_at}
use Rattle.dbus_header.specs.HeaderFields.{at_place}
use Rattle.dbus_header.proofs.Aligned.{aligned_8, no_gap_4}
use Rattle.dbus_header.proofs.FieldSteps.{field, sound_field_at}
use Rattle.dbus_header.proofs.FieldVariants.{Inner, field_with, typed_value, variant_field, as_variant, sound_at}
use Rattle.dbus_header.proofs.FieldValues.{typed_as, parts, number_read, string_read, path_read, signature_read}

-- ---- other codes

abbrev type_then : Inner → List Complete × At → Option (Value × At)
type_then inner ts = one_type ts.0 >>= λ t. inner t ts.1 >>= as_variant

none_for_0 : (inner : Inner) (a : At) → variant_field inner 0 a ≡ None
none_for_0 inner a = signed (signature_at a)
  where
    valued : (v : Option (Value × At)) → (v >>= field_with 0) ≡ None
    valued None = refl
    valued (Some x) = refl

    typed : (t : Option Complete) (b : At) → (t >>= λ u. inner u b >>= field_with 0) ≡ None
    typed None b = refl
    typed (Some t) b = valued (inner t b)

    signed : (ts : Option (List Complete × At)) → (ts >>= typed_value inner 0) ≡ None
    signed None = refl
    signed (Some x) = typed (one_type x.0) x.1

unread_at : (bytes : List ℕ) (o : Order) (c q : ℕ) → nat_lt 9 c ≡ true → ((v : Value) → is_field_of c v ≡ true) →
    parts (variant_field (value_within 64 o) c (at_place bytes q)) ≡ unread_to (values_end o (variant ∷ []) q bytes)
unread_at bytes o c q high any = signed (signature_at (at_place bytes q))
  where
    valued : (v : Option (Value × At)) → parts (v >>= field_with c) ≡ unread_to (end_of (variant ∷ []) (and_then_all (v >>= as_variant) (at_place bytes q) (λ x rest. ([], rest))))
    valued None = refl
    valued (Some x) =
        ap (λ (b : Bool). parts (when b (field c x.0, x.1))) (any x.0)
        ∙ ap (λ (b : Bool). some_place (cond b unread (cond (c == 8) (some_signature (spelled_types (types_in (Some x.0)))) (cond (c == 5) (some_number 5 (unwrap_or (number_in (Some x.0)) 0)) (cond (c == 9) (some_number 9 (unwrap_or (number_in (Some x.0)) 0)) (some_text c (unwrap_or (text_in (Some x.0)) [])))))) x.1.place) high
      where
        some_place : Part → ℕ → Option (Part × ℕ)
        some_place p n = Some (p, n)

    typed : (t : Option Complete) (b : At) → parts (t >>= λ u. value_within 64 o u b >>= field_with c) ≡ unread_to (end_of (variant ∷ []) (and_then_all (t >>= λ u. value_within 64 o u b >>= as_variant) (at_place bytes q) (λ x rest. ([], rest))))
    typed None b = refl
    typed (Some t) b = valued (value_within 64 o t b)

    signed : (ts : Option (List Complete × At)) → parts (ts >>= typed_value (value_within 64 o) c) ≡ unread_to (end_of (variant ∷ []) (and_then_all (ts >>= type_then (value_within 64 o)) (at_place bytes q) (λ x rest. ([], rest))))
    signed None = refl
    signed (Some x) = typed (one_type x.0) x.1

-- ---- each code

path_typed : (v : Value) → is_a_path v ≡ true → type_of v ≡ basic path
path_typed (a_path t) e = refl
path_typed _ e = absurd cc

text_typed : (test : List ℕ → Bool) (v : Value) → text_passes test v ≡ true → type_of v ≡ basic string
text_typed test (a_string t) e = refl
text_typed test _ e = absurd cc

number_typed : (test : ℕ → Bool) (v : Value) → number_passes test v ≡ true → type_of v ≡ basic (number uint32)
number_typed test (a_number uint32 x) e = refl
number_typed test _ e = absurd cc

signature_typed : (v : Value) → is_a_signature v ≡ true → type_of v ≡ basic signature
signature_typed (a_signature ts) e = refl
signature_typed _ e = absurd cc

-- past a test that fails
skip : {A : Type 0} (b : Bool) (x y z : A) → b ≡ false → y ≡ z → cond b x y ≡ z
skip b x y z e k = ap (λ (c : Bool). cond c x y) e ∙ k

pub any_value : (c : ℕ) (v : Value) → 9 < c → c < 256 → is_field_of c v ≡ true
any_value c v high low =
    skip _ _ _ _ (other 0 (omega arith)) (skip _ _ _ _ (other 1 (omega arith)) (skip _ _ _ _ (other 2 (omega arith)) (skip _ _ _ _ (other 3 (omega arith)) (skip _ _ _ _ (other 4 (omega arith))
    (skip _ _ _ _ (other 5 (omega arith)) (skip _ _ _ _ (other 6 (omega arith)) (skip _ _ _ _ (other 7 (omega arith)) (skip _ _ _ _ (other 8 (omega arith)) (skip _ _ _ _ (other 9 (omega arith)) (lt-ltb c 256 low))))))))))
  where
    other : (k : ℕ) → k ≤ 9 → (c == k) ≡ false
    other k le = ne_eqb c k (λ e. absurd (omega (arith, e, high)))

module _ (bytes : List ℕ) (o : Order) (start : ℕ) (aligned_8 : start % 8 ≡ 0) (are : AreBytes bytes) (inside : start < length bytes) where
  abbrev Reads : ℕ → Type 0
  Reads c = parts (variant_field (value_within 64 o) c (at_place bytes (start + 1))) ≡ coded_part o c bytes start

  no_gap : padding 4 (start + 1 + 3) ≡ 0
  no_gap = let e : start + 1 + 3 ≡ start + 4 = omega arith in ap (padding 4) e ∙ no_gap_4 start aligned_8

  known : (c : ℕ) (b : Basic) → ((v : Value) → is_field_of c v ≡ true → type_of v ≡ basic b) → code b ≡ type_code c →
      (start + 1 + 3 ≤ length bytes → parts (value_within 64 o (basic b) (at_place bytes (start + 1 + 3)) >>= field_with c) ≡ known_value o c bytes (start + 1 + 3)) →
      parts (variant_field (value_within 64 o) c (at_place bytes (start + 1))) ≡ known_part o c bytes (start + 1)
  known c b typed type reads =
      ap parts (typed_as bytes o c b (start + 1) typed are (omega arith))
      ∙ ap (λ (k : ℕ). parts (cond (has_type_at k bytes (start + 1)) (value_within 64 o (basic b) (at_place bytes (start + 1 + 3)) >>= field_with c) None)) type
      ∙ by (nat_le (start + 1 + 3) (length bytes)) refl
    where
      tested : (h : Bool) → start + 1 + 3 ≤ length bytes → parts (cond h (value_within 64 o (basic b) (at_place bytes (start + 1 + 3)) >>= field_with c) None) ≡ cond h (known_value o c bytes (start + 1 + 3)) None
      tested true long = reads long
      tested false long = refl

      by : (b' : Bool) → nat_le (start + 1 + 3) (length bytes) ≡ b' →
          parts (cond (has_type_at (type_code c) bytes (start + 1)) (value_within 64 o (basic b) (at_place bytes (start + 1 + 3)) >>= field_with c) None) ≡ cond (has_type_at (type_code c) bytes (start + 1)) (known_value o c bytes (start + 1 + 3)) None
      by true e = tested (has_type_at (type_code c) bytes (start + 1)) (leb-true (start + 1 + 3) (length bytes) e)
      by false e =
          ap (λ (x : Bool). parts (cond (x && get_or bytes (start + 1) 0 == 1 && get_or bytes (start + 1 + 1) 0 == type_code c && get_or bytes (start + 1 + 2) 0 == 0) (value_within 64 o (basic b) (at_place bytes (start + 1 + 3)) >>= field_with c) None)) e
          ∙ sym (ap (λ (x : Bool). cond (x && get_or bytes (start + 1) 0 == 1 && get_or bytes (start + 1 + 1) 0 == type_code c && get_or bytes (start + 1 + 2) 0 == 0) (known_value o c bytes (start + 1 + 3)) None) e)

  other : (c : ℕ) → 9 < c → c < 256 → Reads c
  other c high low =
      unread_at bytes o c (start + 1) (lt-ltb 9 c high) (λ v. any_value c v high low)
      ∙ sym (skip (c == 0) _ _ _ (ne_eqb c 0 (λ e. absurd (omega (arith, e, high)))) (skip (nat_le c 9) _ _ _ (lt-leb c 9 high) refl))

  coded : (c : ℕ) → c < 256 → Reads c
  coded zero low = ap parts (none_for_0 (value_within 64 o) (at_place bytes (start + 1)))
  coded (suc zero) low = known 1 path path_typed refl (path_read bytes o (value_within 63 o) (start + 1 + 3) no_gap are)
  coded (suc (suc zero)) low = known 2 string (text_typed is_interface) refl (string_read bytes o (value_within 63 o) 2 (start + 1 + 3) (λ t. refl) (λ t. refl) no_gap are)
  coded (suc (suc (suc zero))) low = known 3 string (text_typed is_member) refl (string_read bytes o (value_within 63 o) 3 (start + 1 + 3) (λ t. refl) (λ t. refl) no_gap are)
  coded (suc (suc (suc (suc zero)))) low = known 4 string (text_typed is_error_name) refl (string_read bytes o (value_within 63 o) 4 (start + 1 + 3) (λ t. refl) (λ t. refl) no_gap are)
  coded (suc (suc (suc (suc (suc zero))))) low = known 5 (number uint32) (number_typed (nat_lt 0)) refl (number_read bytes o (value_within 63 o) 5 (start + 1 + 3) (λ n. refl) (λ n. refl) no_gap are)
  coded (suc (suc (suc (suc (suc (suc zero)))))) low = known 6 string (text_typed is_bus_name) refl (string_read bytes o (value_within 63 o) 6 (start + 1 + 3) (λ t. refl) (λ t. refl) no_gap are)
  coded (suc (suc (suc (suc (suc (suc (suc zero))))))) low = known 7 string (text_typed is_bus_name) refl (string_read bytes o (value_within 63 o) 7 (start + 1 + 3) (λ t. refl) (λ t. refl) no_gap are)
  coded (suc (suc (suc (suc (suc (suc (suc (suc zero)))))))) low = known 8 signature signature_typed refl (signature_read bytes o (value_within 63 o) (start + 1 + 3) are)
  coded (suc (suc (suc (suc (suc (suc (suc (suc (suc zero))))))))) low = known 9 (number uint32) (number_typed (λ x. true)) refl (number_read bytes o (value_within 63 o) 9 (start + 1 + 3) (λ n. refl) (λ n. refl) no_gap are)
  coded (suc (suc (suc (suc (suc (suc (suc (suc (suc (suc n)))))))))) low = other (suc (suc (suc (suc (suc (suc (suc (suc (suc (suc n)))))))))) (omega arith) low

-- what is read at a place is the valid field there
pub part_at-is : (bytes : List ℕ) (o : Order) (place : ℕ) → AreBytes bytes → place ≤ length bytes → part_at o bytes place ≡ parts (sound_field_at o (at_place bytes place))
part_at-is bytes o place are inside = sym (ap parts (sound_at bytes o place are inside) ∙ by (nat_lt (place + padding 8 place) (length bytes)) refl (all_zero (take (padding 8 place) (drop place bytes))))
  where
    by : (b : Bool) → nat_lt (place + padding 8 place) (length bytes) ≡ b → (z : Bool) →
        parts (cond (b && z) (variant_field (value_within 64 o) (get_or bytes (place + padding 8 place) 0) (at_place bytes (place + padding 8 place + 1))) None)
        ≡ cond (b && z) (coded_part o (get_or bytes (place + padding 8 place) 0) bytes (place + padding 8 place)) None
    by true e true = coded bytes o (place + padding 8 place) (aligned_8 place) are (ltb-true (place + padding 8 place) (length bytes) e) (get_or bytes (place + padding 8 place) 0) (are (place + padding 8 place))
    by true e false = refl
    by false e z = refl
