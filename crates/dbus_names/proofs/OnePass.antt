-- One pass over the bytes counts the elements that the definitions find part by part.
use Rattle.std.proofs.Common.{◌≡◌, ◌⊎◌, inl, inr, ℕ, suc, ◌+◌, ◌-◌, ◌<◌, ◌≤◌, Bool, true, false, cond, ◌&&◌, nat_eq, nat_le, List, [], ◌∷◌, length, take, drop, slice_index_or, refl, sym, ◌∙◌, ap, add-zero, zero-add, arith}
use Rattle.std.specs.Prelude.{Option, Some, None}
use Rattle.std.specs.List.{list_all, onto_first, position_or_len}
use Rattle.std.proofs.lemmas.List.{take_all, length-drop, length-take}
use Rattle.std.proofs.lemmas.List.Splits.{length-slice_split}
use Rattle.std.proofs.lemmas.Bool.Decides.{nat_tests}
use Rattle.dbus_names.specs.Names.{parts_at}
use Rattle.dbus_names.specs.Elements.{is_among, is_element_of, is_outside, element_count, are_two_elements}

and_cond : (a b : Bool) (x : Option ℕ) → cond a (cond b x None) None ≡ cond (a && b) x None
and_cond true b x = refl
and_cond false b x = refl

module _ (first rest separator : ℕ) where
  -- the elements of a text, after `before` separators, at the start of an element or inside of one
  abbrev pub count_from : Bool → ℕ → List ℕ → Option ℕ
  count_from begins before [] = cond begins None (Some (before + 1))
  count_from begins before (c ∷ text) =
      cond (nat_eq c separator)
      (cond begins None (count_from true (before + 1) text))
      (cond (is_among (cond begins first rest) c) (count_from false before text) None)

  -- what the parts give if the first of them is an element, and if it ends one
  abbrev whole : ℕ → List (List ℕ) → Option ℕ
  whole before parts = cond (list_all (is_element_of first rest) parts) (Some (before + length parts)) None

  abbrev inside : ℕ → List (List ℕ) → Option ℕ
  inside before [] = None
  inside before (part ∷ parts) = cond (list_all (is_among rest) part) (whole (before + 1) parts) None

  inside-onto_first : (c before : ℕ) (parts : List (List ℕ)) → 0 < length parts
      → cond (is_among rest c) (inside before parts) None ≡ inside before (onto_first c parts)
  inside-onto_first c before [] l = absurd (omega arith)
  inside-onto_first c before (part ∷ parts) l = and_cond (is_among rest c) (list_all (is_among rest) part) (whole (before + 1) parts)

  whole-onto_first : (c before : ℕ) (parts : List (List ℕ)) → 0 < length parts
      → cond (is_among first c) (inside before parts) None ≡ whole before (onto_first c parts)
  whole-onto_first c before [] l = absurd (omega arith)
  whole-onto_first c before (part ∷ parts) l =
      let same : before + 1 + length parts ≡ before + suc (length parts) = omega arith in
      and_cond (is_among first c) (list_all (is_among rest) part) (whole (before + 1) parts)
      ∙ and_cond (is_among first c && list_all (is_among rest) part) (list_all (is_element_of first rest) parts) (Some (before + 1 + length parts))
      ∙ ap (λ n. cond ((is_among first c && list_all (is_among rest) part) && list_all (is_element_of first rest) parts) (Some n) None) same

  count_step : (c before : ℕ) (parts : List (List ℕ)) (next same : Option ℕ) (b : Bool) → 0 < length parts
      → next ≡ whole (before + 1) parts → same ≡ inside before parts
      → (cond b None (cond (is_among first c) same None) ≡ whole before (cond b ([] ∷ parts) (onto_first c parts)))
      × (cond b next (cond (is_among rest c) same None) ≡ inside before (cond b ([] ∷ parts) (onto_first c parts)))
  count_step c before parts next same true l n s = (refl, n)
  count_step c before parts next same false l n s = (
    ap (λ o. cond (is_among first c) o None) s ∙ whole-onto_first c before parts l,
    ap (λ o. cond (is_among rest c) o None) s ∙ inside-onto_first c before parts l,
  )

  count_from-parts : (text : List ℕ) (before : ℕ)
      → (count_from true before text ≡ whole before (parts_at separator text)) × (count_from false before text ≡ inside before (parts_at separator text))
  count_from-parts [] before = (refl, ap Some (sym (add-zero (before + 1))))
  count_from-parts (c ∷ text) before =
      count_step c before (parts_at separator text) (count_from true (before + 1) text) (count_from false before text) (nat_eq c separator)
      (omega (arith, length-slice_split (λ x. nat_eq x separator) text))
      (count_from-parts text (before + 1)).0 (count_from-parts text before).1

  -- what is counted after the first bytes that continue an element
  abbrev behind_run : ℕ → List ℕ → Option ℕ
  behind_run before [] = Some (before + 1)
  behind_run before (c ∷ text) = cond (nat_eq c separator) (count_from true (before + 1) text) None

  abbrev pub run_end : List ℕ → ℕ
  run_end text = position_or_len (is_outside rest separator) text

  one_more : (n : ℕ) → suc n ≡ 1 + n
  one_more n = omega arith

  run_step : (c before : ℕ) (text : List ℕ) (s a : Bool) → nat_eq c separator ≡ s → is_among rest c ≡ a → count_from false before text ≡ behind_run before (drop (run_end text) text) →
      count_from false before (c ∷ text) ≡ behind_run before (drop (run_end (c ∷ text)) (c ∷ text))
  run_step c before text true a e f more = rw e (ap (λ (b : Bool). cond b (count_from true (before + 1) text) None) (sym e))
  run_step c before text false true e f more = rw (e, f) (more ∙ ap (λ (n : ℕ). behind_run before (drop n (c ∷ text))) (one_more (run_end text)))
  run_step c before text false false e f more = rw (e, f) (rw e refl)

  run_passed : (text : List ℕ) (before : ℕ) → count_from false before text ≡ behind_run before (drop (run_end text) text)
  run_passed [] before = refl
  run_passed (c ∷ text) before = run_step c before text (nat_eq c separator) (is_among rest c) refl refl (run_passed text before)

  -- the first byte of a text, and those after it
  abbrev start_of : List ℕ → ℕ
  start_of text = slice_index_or text 0 0

  abbrev pub others_of : List ℕ → List ℕ
  others_of text = take (length text - 1) (drop 1 text)

  others_are : (c : ℕ) (text : List ℕ) → others_of (c ∷ text) ≡ text
  others_are c text = take_all (length (c ∷ text) - 1) text (omega arith)

  -- an element that begins with a wrong byte
  pub begins_wrong : (left : List ℕ) (before : ℕ) → 1 ≤ length left → (start_of left ≡ separator) ⊎ (is_among first (start_of left) ≡ false) → count_from true before left ≡ None
  begins_wrong [] before some wrong = absurd (omega (arith, some))
  begins_wrong (c ∷ text) before some (inl e) = let is : nat_eq c separator ≡ true = grind (arith, nat_tests, e) in rw is refl
  begins_wrong (c ∷ text) before some (inr e) = by (nat_eq c separator) refl
    where
      by : (b : Bool) → nat_eq c separator ≡ b → count_from true before (c ∷ text) ≡ None
      by true f = rw f refl
      by false f = rw (f, e) refl

  -- .. with a right one, and what follows it
  pub begins_right : (left run : List ℕ) (before : ℕ) → 1 ≤ length left → (start_of left ≡ separator → ⊥) → is_among first (start_of left) ≡ true →
      run ≡ drop (run_end (others_of left)) (others_of left) → count_from true before left ≡ behind_run before run
  begins_right [] run before some apart right is = absurd (omega (arith, some))
  begins_right (c ∷ text) run before some apart right is =
      let other : nat_eq c separator ≡ false = grind (arith, nat_tests, apart) in
      ap (λ (b : Bool). cond b None (cond (is_among first c) (count_from false before text) None)) other
      ∙ ap (λ (b : Bool). cond b (count_from false before text) None) right
      ∙ run_passed text before
      ∙ ap (λ (l : List ℕ). behind_run before (drop (run_end l) l)) (sym (others_are c text))
      ∙ ap (behind_run before) (sym is)

  pub nothing_behind : (run : List ℕ) (before : ℕ) → length run < 1 → behind_run before run ≡ Some (before + 1)
  nothing_behind [] before none = refl
  nothing_behind (c ∷ text) before none = absurd (omega (arith, none))

  pub no_separator_behind : (run : List ℕ) (before : ℕ) → 1 ≤ length run → (start_of run ≡ separator → ⊥) → behind_run before run ≡ None
  no_separator_behind [] before some apart = absurd (omega (arith, some))
  no_separator_behind (c ∷ text) before some apart = let other : nat_eq c separator ≡ false = grind (arith, nat_tests, apart) in rw other refl

  pub separator_behind : (run : List ℕ) (before : ℕ) → 1 ≤ length run → start_of run ≡ separator → behind_run before run ≡ count_from true (before + 1) (others_of run)
  separator_behind [] before some is = absurd (omega (arith, some))
  separator_behind (c ∷ text) before some is =
      let same : nat_eq c separator ≡ true = grind (arith, nat_tests, is) in
      ap (λ (b : Bool). cond b (count_from true (before + 1) text) None) same ∙ ap (count_from true (before + 1)) (sym (others_are c text))

  pub nothing_left : (left : List ℕ) (before : ℕ) → length left < 1 → None ≡ count_from true before left
  nothing_left [] before none = refl
  nothing_left (c ∷ text) before none = absurd (omega (arith, none))

  pub element_count-from : (text : List ℕ) → count_from true 0 text ≡ element_count first rest separator text
  unfolding element_count
  element_count-from text = (count_from-parts text 0).0 ∙ ap (λ n. cond (list_all (is_element_of first rest) (parts_at separator text)) (Some n) None) (zero-add (length (parts_at separator text)))

-- what is left after a byte of what is left is at least two bytes shorter, or empty
pub others_shorter : (left run : List ℕ) (n : ℕ) → 1 ≤ length left → 1 ≤ length run → run ≡ drop n (take (length left - 1) (drop 1 left)) →
    suc (suc (length (take (length run - 1) (drop 1 run)))) ≤ length left
others_shorter left run n some more is =
    omega (arith, some, more, ap length is, length-drop n (take (length left - 1) (drop 1 left)), length-take (length left - 1) (drop 1 left), length-drop 1 left, length-take (length run - 1) (drop 1 run), length-drop 1 run)

and_true : (b : Bool) → b ≡ (b && true)
and_true true = refl
and_true false = refl

and_false : (b : Bool) → false ≡ (b && false)
and_false true = refl
and_false false = refl

two_from_some : (b : Bool) (n m : ℕ) → Some m ≡ cond b (Some n) None → nat_le 2 m ≡ (nat_le 2 n && b)
two_from_some true n m e = let same : m ≡ n = cc in ap (nat_le 2) same ∙ and_true (nat_le 2 n)
two_from_some false n m e = cc

two_from_none : (b : Bool) (n : ℕ) → None ≡ cond b (Some n) None → false ≡ (nat_le 2 n && b)
two_from_none true n e = cc
two_from_none false n e = and_false (nat_le 2 n)

pub are_two_elements-some : (first rest : ℕ) (text : List ℕ) (m : ℕ) → Some m ≡ element_count first rest 46 text → nat_le 2 m ≡ are_two_elements first rest text
unfolding element_count are_two_elements
are_two_elements-some first rest text m e = two_from_some (list_all (is_element_of first rest) (parts_at 46 text)) (length (parts_at 46 text)) m e

pub are_two_elements-none : (first rest : ℕ) (text : List ℕ) → None ≡ element_count first rest 46 text → false ≡ are_two_elements first rest text
unfolding element_count are_two_elements
are_two_elements-none first rest text e = two_from_none (list_all (is_element_of first rest) (parts_at 46 text)) (length (parts_at 46 text)) e
