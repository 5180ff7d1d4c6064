-- Values of basic types end where passing over them ends.
use Rattle.std.proofs.Common.{◌≡◌, ℕ, ◌<◌, ◌^◌, Bool, true, false, cond, List, length, Option, Some, None, refl, sym, ap, ◌∙◌, arith}
use Rattle.std.specs.Prelude.{nat_lt, get_or, is_none}
use Rattle.std.specs.Int.{w8, w16, w32, w64, byte_len}
use Rattle.std.proofs.lemmas.Bool.{lt-ltb}
use Rattle.byte_lists.specs.Bytes.{AreBytes}
use Rattle.byte_lists.proofs.Options.{some}
use Rattle.dbus_names.specs.Names.{is_path}
use Rattle.dbus_types.specs.Signature.{Number, byte, boolean, int16, uint16, int32, uint32, int64, uint64, double, handle, number, string, path, signature, Complete, basic, spelled_types, types_of, fault_of_types, signature_fault, signature_of}
use Rattle.dbus_types.specs.declared.BadSignature.TheVariants.{TooLong}
use Rattle.dbus_types.proofs.SignatureRead.{spelled_types-types_of}
use Rattle.dbus_values.specs.Values.{Value, a_number, a_string, a_path, a_signature, width, limit}
use Rattle.dbus_values.specs.Reading.{At, ◌>>=◌, when, some_bytes, aligned, number_of, a_width, ended_by_nul, text_at, signature_at, value_by}
use Rattle.dbus_values.specs.Walk.{walk_number, walk_boolean, walk_text, walk_path, walk_signature, read_signature, with_types}
use Rattle.dbus_values.proofs.ValueRead.{some_bytes-takes, aligned-takes}
use Rattle.dbus_values.specs.declared.Order.{Order}
use Rattle.dbus_values.specs.declared.Order.TheVariants.{Little, Big}

-- the types that follow, and the end of the value that was read
abbrev pub ends : List ℕ → Option (Value × At) → Option (List ℕ × At)
ends rest None = None
ends rest (Some x) = Some (rest, x.1)

-- only the end
abbrev pub ended : Option (Value × At) → Option At
ended None = None
ended (Some x) = Some x.1

pub with_ended : (rest : List ℕ) (o : Option (Value × At)) → with_types rest (ended o) ≡ ends rest o
with_ended rest None = refl
with_ended rest (Some x) = refl

-- ---- numbers

fits_8 : (o : Order) (bytes : List ℕ) → AreBytes bytes → number_of o w8 bytes < 256
fits_8 Little bytes h = omega (arith, h 0)
fits_8 Big bytes h = omega (arith, h 0)

fits_16 : (o : Order) (bytes : List ℕ) → AreBytes bytes → number_of o w16 bytes < 256 ^ 2
fits_16 Little bytes h = omega (arith, h 0, h 1)
fits_16 Big bytes h = omega (arith, h 0, h 1)

fits_32 : (o : Order) (bytes : List ℕ) → AreBytes bytes → number_of o w32 bytes < 256 ^ 4
fits_32 Little bytes h = omega (arith, h 0, h 1, h 2, h 3)
fits_32 Big bytes h = omega (arith, h 0, h 1, h 2, h 3)

fits_64 : (o : Order) (bytes : List ℕ) → AreBytes bytes → number_of o w64 bytes < 256 ^ 8
fits_64 Little bytes h = omega (arith, h 0, h 1, h 2, h 3, h 4, h 5, h 6, h 7)
fits_64 Big bytes h = omega (arith, h 0, h 1, h 2, h 3, h 4, h 5, h 6, h 7)

-- whose bits may be any
abbrev pub IsFree : Number → Type 0
IsFree boolean = ⊥
IsFree n = n ≡ n

fits : (n : Number) → IsFree n → (o : Order) (bytes : List ℕ) → AreBytes bytes → number_of o (width n) bytes < limit n
fits byte f o bytes h = fits_8 o bytes h
fits boolean f o bytes h = absurd f
fits int16 f o bytes h = fits_16 o bytes h
fits uint16 f o bytes h = fits_16 o bytes h
fits int32 f o bytes h = fits_32 o bytes h
fits uint32 f o bytes h = fits_32 o bytes h
fits int64 f o bytes h = fits_64 o bytes h
fits uint64 f o bytes h = fits_64 o bytes h
fits double f o bytes h = fits_64 o bytes h
fits handle f o bytes h = fits_32 o bytes h

abbrev numbered : Order → Number → List ℕ × At → Option (ℕ × At)
numbered o n x = Some (number_of o (width n) x.0, x.1)

abbrev limited : Number → ℕ × At → Option (Value × At)
limited n x = when (nat_lt x.0 (limit n)) (a_number n x.0, x.1)

module _ (o : Order) (inner : Complete → At → Option (Value × At)) where
  pub number_ended : (n : Number) → IsFree n → (at : At) → AreBytes at.bytes → walk_number (byte_len (width n)) at ≡ ended (value_by o inner (basic (number n)) at)
  number_ended n free at are = start (aligned (byte_len (width n)) at) refl
    where
      last : (x : List ℕ × At) → AreBytes x.0 → some x.1 ≡ ended (when (nat_lt (number_of o (width n) x.0) (limit n)) (a_number n (number_of o (width n) x.0), x.1))
      last x h = ap (λ (b : Bool). ended (when b (a_number n (number_of o (width n) x.0), x.1))) (sym (lt-ltb (number_of o (width n) x.0) (limit n) (fits n free o x.0 h)))

      bytes : (b : At) → AreBytes b.bytes → (s : Option (List ℕ × At)) → some_bytes (byte_len (width n)) b ≡ s
          → (s >>= λ x. Some x.1) ≡ ended ((s >>= numbered o n) >>= limited n)
      bytes b h None e = refl
      bytes b h (Some x) e = last x (some_bytes-takes (byte_len (width n)) b x h e).2

      start : (s : Option At) → aligned (byte_len (width n)) at ≡ s
          → (s >>= λ b. some_bytes (byte_len (width n)) b >>= λ x. Some x.1) ≡ ended (s >>= λ b. a_width o (width n) b >>= λ x. when (nat_lt x.0 (limit n)) (a_number n x.0, x.1))
      start None e = refl
      start (Some b) e = bytes b (aligned-takes (byte_len (width n)) at b are e).are (some_bytes (byte_len (width n)) b) refl

  pub boolean_ended : (at : At) → walk_boolean o at ≡ ended (value_by o inner (basic (number boolean)) at)
  boolean_ended at = start (aligned 4 at)
    where
      test : (b : Bool) (n : ℕ) (x : At) → when b x ≡ ended (when b (a_number boolean n, x))
      test true n x = refl
      test false n x = refl

      len : (n : Option (ℕ × At)) → (n >>= λ x. when (nat_lt x.0 2) x.1) ≡ ended (n >>= λ x. when (nat_lt x.0 2) (a_number boolean x.0, x.1))
      len None = refl
      len (Some x) = test (nat_lt x.0 2) x.0 x.1

      start : (s : Option At) → (s >>= λ b. a_width o w32 b >>= λ x. when (nat_lt x.0 2) x.1) ≡ ended (s >>= λ b. a_width o w32 b >>= λ x. when (nat_lt x.0 2) (a_number boolean x.0, x.1))
      start None = refl
      start (Some b) = len (a_width o w32 b)

  pub text_ended : (at : At) → walk_text o at ≡ ended (value_by o inner (basic string) at)
  text_ended at = go (text_at o at)
    where
      go : (t : Option (List ℕ × At)) → (t >>= λ x. Some x.1) ≡ ended (t >>= λ x. Some (a_string x.0, x.1))
      go None = refl
      go (Some x) = refl

  pub path_ended : (at : At) → walk_path o at ≡ ended (value_by o inner (basic path) at)
  path_ended at = go (text_at o at)
    where
      test : (b : Bool) (text : List ℕ) (x : At) → when b x ≡ ended (when b (a_path text, x))
      test true text x = refl
      test false text x = refl

      go : (t : Option (List ℕ × At)) → (t >>= λ x. when (is_path x.0) x.1) ≡ ended (t >>= λ x. when (is_path x.0) (a_path x.0, x.1))
      go None = refl
      go (Some x) = test (is_path x.0) x.0 x.1

-- ---- signatures

-- what a signature's reading gives, spelled again
abbrev pub respelled : Option (List Complete × At) → Option (List ℕ × At)
respelled None = None
respelled (Some x) = Some (spelled_types x.0, x.1)

abbrev found : At → Option (List Complete) → Option (List Complete × At)
found b None = None
found b (Some ts) = Some (ts, b)

pub fault_or_types : (bytes : List ℕ) (b : At) → when (is_none (signature_fault bytes)) (bytes, b) ≡ respelled (found b (signature_of bytes))
fault_or_types bytes b = go (nat_lt 255 (length bytes)) (types_of bytes) (spelled_types-types_of bytes)
  where
    passed : (t : Bool) (ts : List Complete) → spelled_types ts ≡ bytes → when t (bytes, b) ≡ respelled (found b (cond t (Some ts) None))
    passed true ts e = ap (λ (x : List ℕ). some {A = List ℕ × At} (x, b)) (sym e)
    passed false ts e = refl

    go : (long : Bool) (types : Option (List Complete)) → ((ts : List Complete) → types ≡ Some ts → spelled_types ts ≡ bytes)
        → when (is_none (cond long (Some TooLong) (fault_of_types types))) (bytes, b) ≡ respelled (found b (cond (is_none (cond long (Some TooLong) (fault_of_types types))) types None))
    go true types h = refl
    go false None h = refl
    go false (Some ts) h = passed (is_none (fault_of_types (Some ts))) ts (h ts refl)

abbrev unless_bad : List ℕ × At → Option (List ℕ × At)
unless_bad x = when (is_none (signature_fault x.0)) x

abbrev typed : List ℕ × At → Option (List Complete × At)
typed x = signature_of x.0 >>= λ ts. Some (ts, x.1)

pub signature_respelled : (at : At) → read_signature at ≡ respelled (signature_at at)
signature_respelled at = go (some_bytes 1 at)
  where
    found_is : (b : At) (ts : Option (List Complete)) → found b ts ≡ (ts >>= λ t. Some (t, b))
    found_is b None = refl
    found_is b (Some ts) = refl

    text : (x : Option (List ℕ × At)) → (x >>= unless_bad) ≡ respelled (x >>= typed)
    text None = refl
    text (Some x) = fault_or_types x.0 x.1 ∙ ap respelled (found_is x.1 (signature_of x.0))

    len : (xs : List ℕ) → get_or xs 0 0 ≡ number_of Little w8 xs
    len xs = omega arith

    go : (s : Option (List ℕ × At)) → (s >>= λ n. ended_by_nul (get_or n.0 0 0) n.1 >>= unless_bad) ≡ respelled ((s >>= numbered Little byte) >>= λ n. ended_by_nul n.0 n.1 >>= typed)
    go None = refl
    go (Some n) = ap (λ (k : ℕ). ended_by_nul k n.1 >>= unless_bad) (len n.0) ∙ text (ended_by_nul (number_of Little w8 n.0) n.1)

pub signature_ended : (o : Order) (inner : Complete → At → Option (Value × At)) (at : At) → walk_signature at ≡ ended (value_by o inner (basic signature) at)
signature_ended o inner at = ap (λ (x : Option (List ℕ × At)). x >>= λ y. Some y.1) (signature_respelled at) ∙ go (signature_at at)
  where
    go : (s : Option (List Complete × At)) → (respelled s >>= λ y. Some y.1) ≡ ended (s >>= λ x. Some (a_signature x.0, x.1))
    go None = refl
    go (Some x) = refl
