-- What is cut from the ends of a text, and what a pattern covers then.
use Rattle.std.proofs.Common.{◌≡◌, ℕ, ◌+◌, ◌-◌, Bool, true, false, not, ◌&&◌, ◌||◌, nat_eq, List, [], ◌∷◌, ◌++◌, length, take, drop, Option, Some, None, if◌then◌else◌, option_map, MatchOption, Bor, refl, ap, sym, ◌∙◌, arith, length-append}
use Rattle.std.specs.Str.{bytes_eq}
use Rattle.std.specs.Str.Pattern.{FindsTextSuffix}
use Rattle.std.proofs.lemmas.Cmp.{nat_eq_equiv}
use Rattle.std.proofs.lemmas.List.{take_at, drop_at, take-append-drop}
use Rattle.byte_lists.proofs.Bytes.{bytes_eq-true, bytes_eq-refl}
use Rattle.dbus_names.specs.Texts.{begins_with, has_end, without_last, behind}
use Rattle.name_patterns.specs.Cuts.{before_end, rest_covered}

-- ---- the end of a text

pub ends : (end text : List ℕ) → has_end end text ≡ true → without_last (length end) text ++ end ≡ text
ends end text e =
    ap (λ (t : List ℕ). take (length text - length end) text ++ t) (bytes_eq-true end (drop (length text - length end) text) e)
    ∙ take-append-drop (length text - length end) text

pub at_end : (front end : List ℕ) → (has_end end (front ++ end) ≡ true) × (without_last (length end) (front ++ end) ≡ front)
at_end front end =
    let len : length (front ++ end) - length end ≡ length front = omega (arith, length-append front end) in (
      ap (λ (n : ℕ). bytes_eq end (drop n (front ++ end))) len ∙ ap (bytes_eq end) (drop_at front end (length front) refl) ∙ bytes_eq-refl end,
      ap (λ (n : ℕ). take n (front ++ end)) len ∙ take_at front end (length front) refl,
    )

-- what `strip_suffix` answers at a text
pub before_end_is : (end text : List ℕ) (r : Option (Bor (List ℕ)))
    → MatchOption r (FindsTextSuffix end text None) (λ x. (n : ℕ) × FindsTextSuffix end text (Some n) × (x.now ≡ take (length text - n) text) × (length x.now + n ≡ length text))
    → option_map (λ x. x.now) r ≡ before_end end text
before_end_is end text None apart = sym (go (has_end end text) refl)
  where
    go : (b : Bool) → has_end end text ≡ b → (if b then Some (without_last (length end) text) else None) ≡ None
    go true h = absurd (apart _ (sym (ends end text h)))
    go false h = refl
before_end_is end text (Some x) is =
    let whole : text ≡ x.now ++ end = is.1.1 ∙ ap (λ (t : List ℕ). t ++ end) (sym is.2) in
    let both = at_end x.now end in
    sym (ap (before_end end) whole ∙ ap (λ b. if b then Some (without_last (length end) (x.now ++ end)) else None) both.0 ∙ ap Some both.1)

-- ---- what a pattern covers

or_and_false : (exact : Bool) → false ≡ (false || (not exact && false))
or_and_false true = refl
or_and_false false = refl

dot : (b exact : Bool) → (b && not exact) ≡ (not exact && (b && true))
dot true true = refl
dot true false = refl
dot false true = refl
dot false false = refl

pub covered : (front name : List ℕ) (exact : Bool) → rest_covered exact (behind front name) ≡ (bytes_eq name front || (not exact && begins_with (front ++ 46 ∷ []) name))
covered [] [] exact = refl
covered [] (c ∷ name) exact = dot (nat_eq c 46) exact ∙ ap (λ b. not exact && (b && true)) (nat_eq_equiv.symm c 46)
covered (x ∷ front) [] exact = or_and_false exact
covered (x ∷ front) (y ∷ name) exact =
    step (nat_eq x y) (covered front name exact)
    ∙ ap (λ b. (b && bytes_eq name front) || (not exact && (nat_eq x y && begins_with (front ++ 46 ∷ []) name))) (nat_eq_equiv.symm x y)
  where
    step : (b : Bool) → rest_covered exact (behind front name) ≡ (bytes_eq name front || (not exact && begins_with (front ++ 46 ∷ []) name))
        → rest_covered exact (if (b && begins_with front name) then Some (drop (length front) name) else None)
        ≡ ((b && bytes_eq name front) || (not exact && (b && begins_with (front ++ 46 ∷ []) name)))
    step true e = e
    step false e = or_and_false exact
