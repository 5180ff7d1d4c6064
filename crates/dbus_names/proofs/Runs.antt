-- The first bytes of a text that are of some kinds, four of them at a time.
use Rattle.std.proofs.Common.{◌≡◌, ◌+◌, ◌-◌, ◌≤◌, ℕ, zero, suc, Bool, true, false, cond, not, ◌&&◌, nat_eq, List, [], ◌∷◌, length, take, drop, inl, inr, slice_index, slice_index_or, bit_and, refl, sym, ap, ap₂, ◌∙◌, arith}
use Rattle.std.specs.Prelude.{◌||◌}
use Rattle.std.specs.List.{list_all, position_or_len}
use Rattle.std.specs.Int.Bits.{and_zero_r}
use Rattle.std.proofs.Math.Seq.{take-add}
use Rattle.std.proofs.lemmas.Bool.{agree_below_at, and_parts, and_from, eqb-true}
use Rattle.std.proofs.lemmas.List.{drop-drop, take-append-drop, take_all, length-drop}
use Rattle.std.proofs.lemmas.List.Folds.{list_all-append}
use Rattle.std.proofs.lemmas.Nat.{and_assoc, and_comm}
use Rattle.dbus_names.specs.declared.TheConstants.{KINDS}
use Rattle.dbus_names.specs.Elements.{BehindSome, IsSeparator, are_of_one_kind, is_among, is_other, is_outside}

-- ---- four bytes of one kind

some_bit : ℕ → ℕ → Bool
some_bit kinds n = not (nat_eq (bit_and n kinds) 0)

-- a bit that both have is one of the first, and one of the second
left_bit : (kinds a b : ℕ) → some_bit kinds (bit_and a b) ≡ true → some_bit kinds a ≡ true
unfolding some_bit
left_bit kinds a b both = by (nat_eq (bit_and a kinds) 0) refl
  where
    by : (none : Bool) → nat_eq (bit_and a kinds) 0 ≡ none → not none ≡ true
    by false e = refl
    by true e =
        let nothing : bit_and (bit_and a b) kinds ≡ 0 = ap (λ n. bit_and n kinds) (and_comm a b) ∙ and_assoc kinds b a ∙ ap (bit_and b) (eqb-true (bit_and a kinds) 0 e) ∙ and_zero_r b in
        absurd (let no : false ≡ true = sym (ap (λ n. not (nat_eq n 0)) nothing) ∙ both in cc)

right_bit : (kinds a b : ℕ) → some_bit kinds (bit_and a b) ≡ true → some_bit kinds b ≡ true
right_bit kinds a b both = left_bit kinds b a (ap (some_bit kinds) (and_comm b a) ∙ both)

four_among : (kinds a b c d : ℕ) (behind : List ℕ) → are_of_one_kind kinds a b c d ≡ true → list_all (is_among kinds) (take 4 (a ∷ b ∷ c ∷ d ∷ behind)) ≡ true
unfolding is_among some_bit
four_among kinds a b c d behind alike =
    let abc = left_bit kinds (bit_and (bit_and (slice_index KINDS a) (slice_index KINDS b)) (slice_index KINDS c)) (slice_index KINDS d) alike in
    let ab = left_bit kinds (bit_and (slice_index KINDS a) (slice_index KINDS b)) (slice_index KINDS c) abc in
    and_from _ _ (left_bit kinds (slice_index KINDS a) (slice_index KINDS b) ab)
    (and_from _ _ (right_bit kinds (slice_index KINDS a) (slice_index KINDS b) ab)
    (and_from _ _ (right_bit kinds (bit_and (slice_index KINDS a) (slice_index KINDS b)) (slice_index KINDS c) abc)
    (and_from _ _ (right_bit kinds (bit_and (bit_and (slice_index KINDS a) (slice_index KINDS b)) (slice_index KINDS c)) (slice_index KINDS d) alike) refl)))

pub four_more : (kinds : ℕ) (left text : List ℕ) → 4 ≤ length left → are_of_one_kind kinds (slice_index_or left 0 0) (slice_index_or left 1 0) (slice_index_or left 2 0) (slice_index_or left 3 0) ≡ true →
    BehindSome (is_among kinds) left text → BehindSome (is_among kinds) (take (length left - 4) (drop 4 left)) text
four_more kinds left text long alike behind = record {
  len = behind.len + 4;
  left_is = take_all (length left - 4) (drop 4 left) (omega (arith, length-drop 4 left)) ∙ ap (drop 4) behind.left_is ∙ drop-drop 4 behind.len text;
  are = ap (list_all (is_among kinds)) (take-add behind.len 4 text) ∙ list_all-append (is_among kinds) (take behind.len text) (take 4 (drop behind.len text))
      ∙ and_from _ _ behind.are (ap (λ xs. list_all (is_among kinds) (take 4 xs)) (sym behind.left_is) ∙ by left long alike);
}
  where
    by : (left : List ℕ) → 4 ≤ length left → are_of_one_kind kinds (slice_index_or left 0 0) (slice_index_or left 1 0) (slice_index_or left 2 0) (slice_index_or left 3 0) ≡ true → list_all (is_among kinds) (take 4 left) ≡ true
    by (a ∷ b ∷ c ∷ d ∷ behind) long alike = four_among kinds a b c d behind alike
    by [] long alike = absurd (omega (arith, long))
    by (a ∷ []) long alike = absurd (omega (arith, long))
    by (a ∷ b ∷ []) long alike = absurd (omega (arith, long))
    by (a ∷ b ∷ c ∷ []) long alike = absurd (omega (arith, long))

-- ---- the first byte of other kinds

-- a separator is of no kind
no_kind : (kinds separator : ℕ) → kinds ≤ 7 → IsSeparator separator → is_among kinds separator ≡ false
unfolding is_among
no_kind kinds separator le (inl e) = ap (is_among kinds) e ∙ agree_below_at (λ k. is_among k 46) (λ k. false) 8 kinds refl (omega (arith, le))
no_kind kinds separator le (inr e) = ap (is_among kinds) e ∙ agree_below_at (λ k. is_among k 47) (λ k. false) 8 kinds refl (omega (arith, le))

pub kind_is_apart : (kinds separator c : ℕ) → kinds ≤ 7 → IsSeparator separator → is_among kinds c ≡ true → c ≡ separator → ⊥
kind_is_apart kinds separator c le is among same = let no : false ≡ true = sym (ap (is_among kinds) same ∙ no_kind kinds separator le is) ∙ among in cc

outside_is_other : (kinds separator c : ℕ) → kinds ≤ 7 → IsSeparator separator → is_outside kinds separator c ≡ is_other kinds c
outside_is_other kinds separator c le is = by (nat_eq c separator) refl
  where
    by : (b : Bool) → nat_eq c separator ≡ b → (b || is_other kinds c) ≡ is_other kinds c
    by false e = refl
    by true e = sym (ap (λ b. not b) (ap (is_among kinds) (eqb-true c separator e) ∙ no_kind kinds separator le is))

place_same : (p q : ℕ → Bool) → ((c : ℕ) → p c ≡ q c) → (text : List ℕ) → position_or_len p text ≡ position_or_len q text
place_same p q same [] = refl
place_same p q same (c ∷ text) = ap₂ (λ b n. cond (not b) (1 + n) 0) (same c) (place_same p q same text)

one_more : (n : ℕ) → suc n ≡ 1 + n
one_more n = omega arith

-- bytes of the kinds are passed over
passed : (kinds n : ℕ) (text : List ℕ) → list_all (is_among kinds) (take n text) ≡ true →
    drop (position_or_len (is_other kinds) (drop n text)) (drop n text) ≡ drop (position_or_len (is_other kinds) text) text
passed kinds zero text are = refl
passed kinds (suc n) [] are = refl
passed kinds (suc n) (c ∷ text) are =
    let both = and_parts (is_among kinds c) (list_all (is_among kinds) (take n text)) are in
    passed kinds n text both.1
    ∙ ap (λ m. drop m (c ∷ text)) (one_more (position_or_len (is_other kinds) text))
    ∙ ap (λ b. drop (cond (not (not b)) (1 + position_or_len (is_other kinds) text) 0) (c ∷ text)) (sym both.0)

pub run_passed_over : (kinds separator : ℕ) (left text : List ℕ) → kinds ≤ 7 → IsSeparator separator → BehindSome (is_among kinds) left text →
    drop (position_or_len (is_other kinds) left) left ≡ drop (position_or_len (is_outside kinds separator) text) text
run_passed_over kinds separator left text le is behind =
    ap (λ (xs : List ℕ). drop (position_or_len (is_other kinds) xs) xs) behind.left_is ∙ passed kinds behind.len text behind.are
    ∙ ap (λ n. drop n text) (sym (place_same (is_outside kinds separator) (is_other kinds) (λ c. outside_is_other kinds separator c le is) text))

-- if the rest of a text is of the kinds, all of it is
pub rest_among : (kinds : ℕ) (left text : List ℕ) → BehindSome (is_among kinds) left text → list_all (is_among kinds) left ≡ list_all (is_among kinds) text
rest_among kinds left text behind =
    ap (list_all (is_among kinds)) behind.left_is
    ∙ ap (λ b. b && list_all (is_among kinds) (drop behind.len text)) (sym behind.are)
    ∙ sym (list_all-append (is_among kinds) (take behind.len text) (drop behind.len text))
    ∙ ap (list_all (is_among kinds)) (take-append-drop behind.len text)
