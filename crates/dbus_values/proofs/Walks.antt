-- Passing over values: steps of its definition.
use Rattle.std.proofs.Common.{◌≡◌, ℕ, zero, suc, ◌-◌, ◌<◌, Bool, true, false, cond, List, [], ◌∷◌, length, drop, Option, None, Some, refl, ap, sym, subst, ◌∙◌, arith}
use Rattle.std.specs.Prelude.{◌==◌}
use Rattle.dbus_names.specs.Names.{is_empty}
use Rattle.std.proofs.lemmas.Bool.{ne_eqb}
use Rattle.dbus_values.specs.Reading.{At, ◌>>=◌, when}
use Rattle.dbus_values.specs.Walk.{Walk, number_width, walk_number_by, walk_basic, read_signature, walk_variant, with_types, walk_within, walk_by, walk_to_end, has_more, walk_members, front_code}
use Rattle.dbus_values.specs.declared.Order.{Order}

abbrev none : Option (List ℕ × At)
none = None

pub walk_none : (o : Order) (n : ℕ) (types : List ℕ) (at : At) → n ≡ 0 → none ≡ walk_within n o types at
unfolding walk_within
walk_none o zero types at e = refl
walk_none o (suc n) types at e = absurd (omega (arith, e))

pub walk_down : (o : Order) (n : ℕ) (types : List ℕ) (at : At) → (n ≡ 0 → ⊥) → walk_within n o types at ≡ walk_by o (n - 1) (walk_within (n - 1) o) types at
unfolding walk_within
walk_down o zero types at e = absurd (e refl)
walk_down o (suc n) types at e = let same : n ≡ suc n - 1 = omega arith in ap (λ (m : ℕ). walk_by o m (walk_within m o) types at) same

pub element_passed : (item : At → Option (List ℕ × At)) (n : ℕ) (at : At) (x : List ℕ × At) → 0 < n → is_empty at.bytes ≡ false → item at ≡ Some x → walk_to_end item (n - 1) x.1 ≡ walk_to_end item n at
element_passed item zero at x h e i = absurd (omega (arith, h))
element_passed item (suc n) at x h e i =
    let same : suc n - 1 ≡ n = omega arith in
    ap (λ (m : ℕ). walk_to_end item m x.1) same ∙ sym (ap (λ (b : Bool). cond b true (has_more (item at) (walk_to_end item n))) e ∙ ap (λ (o : Option (List ℕ × At)). has_more o (walk_to_end item n)) i)

pub member_passed : (inner : Walk) (n : ℕ) (types : List ℕ) (at : At) (x : List ℕ × At) → 0 < n → (front_code types == 41) ≡ false → inner types at ≡ Some x → walk_members inner (n - 1) x.0 x.1 ≡ walk_members inner n types at
member_passed inner zero types at x h e i = absurd (omega (arith, h))
member_passed inner (suc n) types at x h e i =
    let same : suc n - 1 ≡ n = omega arith in
    ap (λ (m : ℕ). walk_members inner m x.0 x.1) same
    ∙ sym (ap (λ (b : Bool). cond b (Some (drop 1 types, at)) (inner types at >>= λ y. walk_members inner n y.0 y.1)) e ∙ ap (λ (o : Option (List ℕ × At)). o >>= λ y. walk_members inner n y.0 y.1) i)

pub not_empty : (xs : List ℕ) → false ≡ (length xs == 0) → is_empty xs ≡ false
not_empty [] e = sym e
not_empty (x ∷ xs) e = refl

-- ---- a variant that holds a number

-- the code of a number is no other
other_code : (width : ℕ → ℕ) (c n : ℕ) → width n ≡ 0 → 0 < width c → (c == n) ≡ false
other_code width c n none some = ne_eqb c n (λ e. omega (arith, none, some, ap width e))

past : {A : Type 0} (b : Bool) (x y : A) → b ≡ false → cond b x y ≡ y
past b x y e = ap (λ (t : Bool). cond t x y) e

number_by : (o : Order) (k : ℕ) (inner : Walk) (c : ℕ) (at : At) → 0 < number_width c → walk_by o k inner (c ∷ []) at ≡ with_types [] (walk_number_by c at)
number_by o k inner c at wide =
    past (c == 97) _ _ (other_code number_width c 97 refl wide)
    ∙ past (c == 40) _ _ (other_code number_width c 40 refl wide)
    ∙ past (c == 118) _ _ (other_code number_width c 118 refl wide)
    ∙ ap (with_types []) (
    past (c == 115) _ _ (other_code number_width c 115 refl wide)
    ∙ past (c == 111) _ _ (other_code number_width c 111 refl wide)
    ∙ past (c == 103) _ _ (other_code number_width c 103 refl wide)
    ∙ past (c == 98) _ _ (other_code number_width c 98 refl wide))

abbrev if_alone : List ℕ × At → Option At
if_alone x = when (is_empty x.0) x.1

number_alone : (end : Option At) → (with_types [] end >>= if_alone) ≡ end
number_alone None = refl
number_alone (Some at) = refl

number_variant : (o : Order) (k c : ℕ) (at value : At) → 0 < k → 0 < number_width c → read_signature at ≡ Some (c ∷ [], value) → walk_variant (walk_within k o) at ≡ walk_number_by c value
number_variant o k c at value some wide e =
    ap (λ (s : Option (List ℕ × At)). s >>= λ x. walk_within k o x.0 x.1 >>= if_alone) e
    ∙ ap (λ (s : Option (List ℕ × At)). s >>= if_alone) (walk_down o k (c ∷ []) value (λ z. omega (arith, some, z)) ∙ number_by o (k - 1) (walk_within (k - 1) o) c value wide)
    ∙ number_alone (walk_number_by c value)

-- ---- values that are passed over at once

variant_walked : (o : Order) (n c : ℕ) (others : List ℕ) (at value behind : At) → 1 < n → 0 < number_width c → read_signature at ≡ Some (c ∷ [], value) → walk_number_by c value ≡ Some behind → walk_within n o (118 ∷ others) at ≡ Some (others, behind)
variant_walked o n c others at value behind some wide e ends =
    walk_down o n (118 ∷ others) at (λ z. omega (arith, some, z))
    ∙ ap (with_types others) (number_variant o (n - 1) c at value (omega (arith, some)) wide e ∙ ends)

pub variant_at_once : (o : Order) (n c : ℕ) (types : List ℕ) (at value behind : At) → front_code types ≡ 118 → 1 < n → 0 < number_width c → read_signature at ≡ Some (c ∷ [], value) → walk_number_by c value ≡ Some behind → walk_within n o types at ≡ Some (drop 1 types, behind)
variant_at_once o n c [] at value behind front some wide e ends = absurd (omega (arith, front))
variant_at_once o n c (code ∷ others) at value behind front some wide e ends =
    subst (λ (d : ℕ). walk_within n o (d ∷ others) at ≡ Some (others, behind)) (sym front) (variant_walked o n c others at value behind some wide e ends)

-- a container's code is no basic type's
not_basic : (o : Order) (c n : ℕ) (at behind : At) → walk_basic o n at ≡ None → walk_basic o c at ≡ Some behind → (c == n) ≡ false
not_basic o c n at behind none ends = ne_eqb c n (λ e. let same : walk_basic o n at ≡ Some behind = subst (λ (d : ℕ). walk_basic o d at ≡ Some behind) e ends in cc)

basic_walked : (o : Order) (n c : ℕ) (others : List ℕ) (at behind : At) → 0 < n → (c ≡ 118 → ⊥) → walk_basic o c at ≡ Some behind → walk_within n o (c ∷ others) at ≡ Some (others, behind)
basic_walked o n c others at behind some other ends =
    walk_down o n (c ∷ others) at (λ z. omega (arith, some, z))
    ∙ past (c == 97) _ _ (not_basic o c 97 at behind refl ends)
    ∙ past (c == 40) _ _ (not_basic o c 40 at behind refl ends)
    ∙ past (c == 118) _ _ (ne_eqb c 118 other)
    ∙ ap (with_types others) ends

pub basic_at_once : (o : Order) (n : ℕ) (types : List ℕ) (at behind : At) → 0 < n → (front_code types ≡ 118 → ⊥) → walk_basic o (front_code types) at ≡ Some behind → walk_within n o types at ≡ Some (drop 1 types, behind)
basic_at_once o n [] at behind some other ends = let none : walk_basic o 0 at ≡ None = refl in cc
basic_at_once o n (c ∷ others) at behind some other ends = basic_walked o n c others at behind some other ends
