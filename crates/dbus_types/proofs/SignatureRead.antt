-- What is read as types is spelled so, each byte of it.
use Rattle.std.proofs.Common.{◌≡◌, ℕ, ◌≤◌, Bool, true, false, cond, List, [], ◌∷◌, ◌++◌, refl, sym, ap, ◌∙◌, append_assoc, Option, Some, None, length}
use Rattle.std.specs.Prelude.{option_map, option_and_then, ◌==◌, nat_lt, is_none, not}
use Rattle.std.specs.List.{list_all}
use Rattle.std.proofs.lemmas.List.{append-nil}
use Rattle.std.proofs.lemmas.Bool.{eqb-true, and_from, ltb-false, le-leb}
use Rattle.std.proofs.lemmas.Option.{same_Some}
use Rattle.byte_lists.proofs.Options.{some}
use Rattle.dbus_types.specs.Signature.{byte, boolean, int16, uint16, int32, uint32, int64, uint64, double, handle, Basic, number, string, path, signature, Complete, basic, variant, array, struct, entry, code, spelled_type, spelled_members, spelled_types, Open, outside, in_struct, in_entry, put, put_array, put_struct, put_entry, put_code, basic_of, members, read_back, closed, types_of, is_signature, is_complete, is_shallow, signature_of, fault_of_types}
use Rattle.dbus_types.specs.declared.BadSignature.TheVariants.{TooLong, Depth, Form}

abbrev spelled_open : Open → List ℕ
spelled_open (outside ts) = spelled_types ts
spelled_open (in_struct ts o) = spelled_types ts ++ 41 ∷ spelled_open o
spelled_open (in_entry ts o) = spelled_types ts ++ 125 ∷ spelled_open o

spelled_open-put : (t : Complete) (o : Open) → spelled_open (put t o) ≡ spelled_type t ++ spelled_open o
spelled_open-put t (outside ts) = refl
spelled_open-put t (in_struct ts o) = append_assoc (spelled_type t) (spelled_types ts) (41 ∷ spelled_open o)
spelled_open-put t (in_entry ts o) = append_assoc (spelled_type t) (spelled_types ts) (125 ∷ spelled_open o)

-- the types after one more byte
abbrev Puts : ℕ → Open → Option Open → Type 0
Puts c o found = (q : Open) → found ≡ Some q → spelled_open q ≡ c ∷ spelled_open o

at_once : (c : ℕ) (o p : Open) → spelled_open p ≡ c ∷ spelled_open o → Puts c o (Some p)
at_once c o p h q e = ap spelled_open (sym (same_Some p q e)) ∙ h

never : (c : ℕ) (o : Open) → Puts c o None
never c o q e = absurd cc

puts_array : (o : Open) → Puts 97 o (put_array o)
puts_array (outside (t ∷ ts)) = at_once 97 (outside (t ∷ ts)) (outside (array t ∷ ts)) refl
puts_array (in_struct (t ∷ ts) o) = at_once 97 (in_struct (t ∷ ts) o) (in_struct (array t ∷ ts) o) refl
puts_array (in_entry (t ∷ ts) o) = at_once 97 (in_entry (t ∷ ts) o) (in_entry (array t ∷ ts) o) refl
puts_array (outside []) = never 97 (outside [])
puts_array (in_struct [] o) = never 97 (in_struct [] o)
puts_array (in_entry [] o) = never 97 (in_entry [] o)

spelled_members-members : (ts : List Complete) → spelled_members (members ts) ≡ spelled_types ts
spelled_members-members [] = refl
spelled_members-members (t ∷ ts) = ap (λ (x : List ℕ). spelled_type t ++ x) (spelled_members-members ts)

puts_struct : (o : Open) → Puts 40 o (put_struct o)
puts_struct (in_struct (t ∷ ts) o) = at_once 40 (in_struct (t ∷ ts) o) (put (struct t (members ts)) o) (
    spelled_open-put (struct t (members ts)) o
    ∙ append_assoc ((40 ∷ spelled_type t) ++ spelled_members (members ts)) (41 ∷ []) (spelled_open o)
    ∙ ap (λ (x : List ℕ). ((40 ∷ spelled_type t) ++ x) ++ 41 ∷ spelled_open o) (spelled_members-members ts))
puts_struct (in_struct [] o) = never 40 (in_struct [] o)
puts_struct (outside ts) = never 40 (outside ts)
puts_struct (in_entry ts o) = never 40 (in_entry ts o)

puts_entry : (o : Open) → Puts 123 o (put_entry o)
puts_entry (in_entry (k ∷ t ∷ []) o) = at_once 123 (in_entry (k ∷ t ∷ []) o) (put (entry k t) o) (
    spelled_open-put (entry k t) o
    ∙ append_assoc ((123 ∷ spelled_type k) ++ spelled_type t) (125 ∷ []) (spelled_open o)
    ∙ ap (λ (x : List ℕ). x ++ 125 ∷ spelled_open o) (sym (ap (λ (x : List ℕ). 123 ∷ spelled_type k ++ x) (append-nil (spelled_type t)))))
puts_entry (in_entry [] o) = never 123 (in_entry [] o)
puts_entry (in_entry (k ∷ []) o) = never 123 (in_entry (k ∷ []) o)
puts_entry (in_entry (k ∷ t ∷ u ∷ ts) o) = never 123 (in_entry (k ∷ t ∷ u ∷ ts) o)
puts_entry (outside ts) = never 123 (outside ts)
puts_entry (in_struct ts o) = never 123 (in_struct ts o)

-- one test of a chain
tested : (c n : ℕ) (o : Open) (x rest : Option Open) → Puts n o x → Puts c o rest → Puts c o (cond (c == n) x rest)
tested c n o x rest yes_ no_ q e = go (c == n) refl e
  where
    go : (b : Bool) → (c == n) ≡ b → cond b x rest ≡ Some q → spelled_open q ≡ c ∷ spelled_open o
    go true h e = yes_ q e ∙ ap (λ (m : ℕ). m ∷ spelled_open o) (sym (eqb-true c n h))
    go false h e = no_ q e

abbrev Codes : ℕ → Option Basic → Type 0
Codes c found = (b : Basic) → found ≡ Some b → code b ≡ c

coded : (c n : ℕ) (a : Basic) (rest : Option Basic) → code a ≡ n → Codes c rest → Codes c (cond (c == n) (Some a) rest)
coded c n a rest h no_ b e = go (c == n) refl e
  where
    go : (d : Bool) → (c == n) ≡ d → cond d (some a) rest ≡ Some b → code b ≡ c
    go true t e = ap code (sym (same_Some a b e)) ∙ h ∙ sym (eqb-true c n t)
    go false t e = no_ b e

basic_code : (c : ℕ) → Codes c (basic_of c)
basic_code c =
    coded c 121 (number byte) _ refl (coded c 98 (number boolean) _ refl (coded c 110 (number int16) _ refl (coded c 113 (number uint16) _ refl (coded c 105 (number int32) _ refl
    (coded c 117 (number uint32) _ refl (coded c 120 (number int64) _ refl (coded c 116 (number uint64) _ refl (coded c 100 (number double) _ refl (coded c 104 (number handle) _ refl
    (coded c 115 string _ refl (coded c 111 path _ refl (coded c 103 signature _ refl (λ b e. absurd cc)))))))))))))

puts_basic : (c : ℕ) (o : Open) → Puts c o (option_map (λ b. put (basic b) o) (basic_of c))
puts_basic c o q e = go (basic_of c) refl e
  where
    go : (f : Option Basic) → basic_of c ≡ f → option_map (λ b. put (basic b) o) f ≡ Some q → spelled_open q ≡ c ∷ spelled_open o
    go None h e = absurd cc
    go (Some b) h e = ap spelled_open (sym (same_Some (put (basic b) o) q e)) ∙ spelled_open-put (basic b) o ∙ ap (λ (m : ℕ). m ∷ spelled_open o) (basic_code c b h)

puts : (c : ℕ) (o : Open) → Puts c o (put_code c o)
puts c o =
    tested c 97 o _ _ (puts_array o)
    (tested c 118 o _ _ (at_once 118 o (put variant o) (spelled_open-put variant o))
    (tested c 41 o _ _ (at_once 41 o (in_struct [] o) refl)
    (tested c 40 o _ _ (puts_struct o)
    (tested c 125 o _ _ (at_once 125 o (in_entry [] o) refl)
    (tested c 123 o _ _ (puts_entry o)
    (puts_basic c o))))))

read_back-spelled : (bytes : List ℕ) (o : Open) → read_back bytes ≡ Some o → spelled_open o ≡ bytes
read_back-spelled [] o e = ap spelled_open (sym (same_Some (outside []) o e))
read_back-spelled (c ∷ bytes) o e = go (read_back-spelled bytes) (read_back bytes) refl e
  where
    go : ((p : Open) → read_back bytes ≡ Some p → spelled_open p ≡ bytes) → (r : Option Open) → read_back bytes ≡ r → option_and_then (put_code c) r ≡ Some o → spelled_open o ≡ c ∷ bytes
    go ih None h e = absurd cc
    go ih (Some p) h e = puts c p o e ∙ ap (λ (x : List ℕ). c ∷ x) (ih p h)

-- what is read as types is their spelling
pub spelled_types-types_of : (bytes : List ℕ) (ts : List Complete) → types_of bytes ≡ Some ts → spelled_types ts ≡ bytes
spelled_types-types_of bytes ts e = go (read_back bytes) refl e
  where
    go : (r : Option Open) → read_back bytes ≡ r → option_and_then closed r ≡ Some ts → spelled_types ts ≡ bytes
    go None h e = absurd cc
    go (Some (outside us)) h e = ap spelled_types (sym (same_Some us ts e)) ∙ read_back-spelled bytes (outside us) h
    go (Some (in_struct us o)) h e = absurd cc
    go (Some (in_entry us o)) h e = absurd cc

limits : (us ts : List Complete) (a b : Bool) → list_all is_complete us ≡ a → list_all is_shallow us ≡ b → cond (is_none (cond (not a) (some Form) (cond b None (some Depth)))) (some us) None ≡ Some ts → (us ≡ ts) × (list_all is_complete us ≡ true) × (list_all is_shallow us ≡ true)
limits us ts true true p q e = (same_Some us ts e, p, q)
limits us ts true false p q e = absurd cc
limits us ts false b p q e = absurd cc

-- and a signature that is read is within the limits
pub signature_of-is : (bytes : List ℕ) (ts : List Complete) → signature_of bytes ≡ Some ts → (spelled_types ts ≡ bytes) × (is_signature ts ≡ true)
signature_of-is bytes ts e = go (nat_lt 255 (length bytes)) refl (types_of bytes) refl e
  where
    go : (b : Bool) → nat_lt 255 (length bytes) ≡ b → (found : Option (List Complete)) → types_of bytes ≡ found → cond (is_none (cond b (some TooLong) (fault_of_types found))) found None ≡ Some ts → (spelled_types ts ≡ bytes) × (is_signature ts ≡ true)
    go true h found f e = absurd cc
    go false h None f e = absurd cc
    go false h (Some us) f e =
        let t = limits us ts (list_all is_complete us) (list_all is_shallow us) refl refl e in
        let is : spelled_types ts ≡ bytes = spelled_types-types_of bytes ts (f ∙ ap some t.0) in
        let short : length bytes ≤ 255 = ltb-false 255 (length bytes) h in
        let complete : list_all is_complete ts ≡ true = ap (λ (x : List Complete). list_all is_complete x) (sym t.0) ∙ t.1 in
        let shallow : list_all is_shallow ts ≡ true = ap (λ (x : List Complete). list_all is_shallow x) (sym t.0) ∙ t.2 in
        (is, and_from _ _ (and_from _ _ complete shallow) (le-leb (length (spelled_types ts)) 255 (rw is short)))
