-- Visible parts first differ where their given elements do, and else at their Ends.
use Rattle.std.proofs.Common.{ℕ, zero, suc, ◌≡◌, ◌+◌, ◌-◌, List, [], ◌∷◌, ◌++◌, length, map, flat_map, take, Option, Some, None, refl, ap, ap₂, sym, subst, ◌∙◌, append-nil, arith}
use Rattle.std.specs.Prelude.{option_to_list, slice_get}
use Rattle.std.specs.List.{AllByRecursion}
use Rattle.std.proofs.lemmas.Grind.{flat_map-append}
use Rattle.std.proofs.lemmas.Option.{same_Some}
use Rattle.dbus_header.specs.Message.{spell}
use Rattle.policy_args.specs.Policy.{Policy}
use Rattle.policy_view.specs.Elements.{DifferAsGiven, TellThePart, element_of, elements, given_of}
use Rattle.policy_view.specs.History.{end_of}
use Rattle.dbus_header.specs.Contents.{message_in}
use Rattle.policy_view.specs.Past.{History}
use Rattle.policy_view.specs.Visible.{Visible, Closed, part}
use Rattle.policy_view.specs.declared.End.{End}
use Rattle.policy_view.specs.declared.visible.Visible.{Visible as Element}
use Rattle.policy_view.specs.declared.visible.Visible.TheVariants as given

-- ---- the element that a given element represents gives it again

abbrev again : Element → Element
again (given.Line side bytes) = given.Line side bytes
again (given.Client frame) = given.Client (spell (message_in frame))
again (given.Shown frame) = given.Shown (spell (message_in frame))
again (given.Cut frame) = given.Cut (spell (message_in frame))
again (given.Ping position serial) = given.Ping position serial
again (given.Owner position owner) = given.Owner position owner
again (given.Asked position names) = given.Asked position names

given_again : (e : Element) → given_of (element_of e) ≡ again e ∷ []
given_again (given.Line side bytes) = refl
given_again (given.Client frame) = refl
given_again (given.Shown frame) = refl
given_again (given.Cut frame) = refl
given_again (given.Ping position serial) = refl
given_again (given.Owner position owner) = refl
given_again (given.Asked position names) = refl

all_again : (es : List Element) → flat_map given_of (map element_of es) ≡ map again es
all_again [] = refl
all_again (e ∷ es) = ap₂ (λ (xs ys : List Element). xs ++ ys) (given_again e) (all_again es)

abbrev IsAgain : Element → Type 0
IsAgain e = again e ≡ e

each_again : (es : List Element) → map again es ≡ es → AllByRecursion IsAgain es
each_again [] h = tt
each_again (e ∷ es) h = (first (again e) e (map again es) es h, each_again es (others (again e) e (map again es) es h))
  where
    first : (a b : Element) (xs ys : List Element) → a ∷ xs ≡ b ∷ ys → a ≡ b
    first a b xs ys h = cc

    others : (a b : Element) (xs ys : List Element) → a ∷ xs ≡ b ∷ ys → xs ≡ ys
    others a b xs ys h = cc

end_given : (o : Option End) → flat_map given_of (map Closed (option_to_list o)) ≡ []
end_given None = refl
end_given (Some end) = refl

all_given : (policy : Policy) (items : History) → TellThePart policy items → AllByRecursion IsAgain (elements policy items)
unfolding elements
all_given policy items tell =
    let es = elements policy items in
    let closing = map Closed (option_to_list (end_of items)) in
    let whole : es ≡ map again es = ap (flat_map given_of) tell ∙ flat_map-append given_of (map element_of es) closing ∙ ap₂ (λ (xs ys : List Element). xs ++ ys) (all_again es) (end_given (end_of items)) ∙ append-nil (map again es) in
    each_again es (sym whole)

apart : (a b : Element) → IsAgain a → IsAgain b → element_of a ≡ element_of b → a ≡ b
apart a b one other same =
    let h : again a ∷ [] ≡ again b ∷ [] = sym (given_again a) ∙ ap given_of same ∙ given_again b in
    sym one ∙ head (again a) (again b) h ∙ other
  where
    head : (x y : Element) → x ∷ [] ≡ y ∷ [] → x ≡ y
    head x y h = cc

-- ---- lists

not_closed : (end : End) (e : Element) → Closed end ≡ element_of e → ⊥
not_closed end (given.Line side bytes) h = absurd cc
not_closed end (given.Client frame) h = absurd cc
not_closed end (given.Shown frame) h = absurd cc
not_closed end (given.Cut frame) h = absurd cc
not_closed end (given.Ping position serial) h = absurd cc
not_closed end (given.Owner position owner) h = absurd cc
not_closed end (given.Asked position names) h = absurd cc

abbrev closing : Option End → List Visible
closing o = map Closed (option_to_list o)

no_element : (o : Option End) (e : Element) → slice_get (closing o) 0 ≡ Some (element_of e) → ⊥
no_element None e h = absurd cc
no_element (Some end) e h = not_closed end e (same_Some (Closed end) (element_of e) h)

abbrev Differ : {A : Type 0} → ℕ → List A → List A → Type 0
Differ n xs ys = (take n xs ≡ take n ys) × (slice_get xs n ≡ slice_get ys n → ⊥)

module _ (one_end other_end : Option End) where
  abbrev one_part : List Element → List Visible
  one_part es = map element_of es ++ closing one_end

  abbrev other_part : List Element → List Visible
  other_part es = map element_of es ++ closing other_end

  differ : (n : ℕ) (xs ys : List Element) → AllByRecursion IsAgain xs → AllByRecursion IsAgain ys → Differ n xs ys → Differ n (one_part xs) (other_part ys)
  differ n [] [] one other d = absurd (d.1 refl)
  differ zero [] (y ∷ ys) one other d = (refl, λ h. no_element one_end y h)
  differ zero (x ∷ xs) [] one other d = (refl, λ h. no_element other_end x (sym h))
  differ zero (x ∷ xs) (y ∷ ys) one other d = (refl, λ h. d.1 (ap Some (apart x y one.0 other.0 (same_Some (element_of x) (element_of y) h))))
  differ (suc n) [] (y ∷ ys) one other d = absurd (let h : [] ≡ y ∷ take n ys = d.0 in cc)
  differ (suc n) (x ∷ xs) [] one other d = absurd (let h : x ∷ take n xs ≡ [] = d.0 in cc)
  differ (suc n) (x ∷ xs) (y ∷ ys) one other d =
      let first : x ≡ y = let h : x ∷ take n xs ≡ y ∷ take n ys = d.0 in cc in
      let others : take n xs ≡ take n ys = let h : x ∷ take n xs ≡ y ∷ take n ys = d.0 in cc in
      let rest = differ n xs ys one.1 other.1 (others, d.1) in
      (ap₂ (λ (v : Visible) (vs : List Visible). v ∷ vs) (ap element_of first) rest.0, rest.1)

  at_ends : (es : List Element) → (one_end ≡ other_end → ⊥) → Differ (length es) (one_part es) (other_part es)
  at_ends [] d = (refl, λ h. d (by one_end other_end h))
    where
      by : (a b : Option End) → slice_get (closing a) 0 ≡ slice_get (closing b) 0 → a ≡ b
      by None None h = refl
      by None (Some end) h = absurd cc
      by (Some end) None h = absurd cc
      by (Some end) (Some other) h = let same : Closed end ≡ Closed other = same_Some (Closed end) (Closed other) h in let is : end ≡ other = cc in ap Some is
  at_ends (e ∷ es) d = let rest = at_ends es d in (ap (λ (vs : List Visible). element_of e ∷ vs) rest.0, rest.1)

-- ---- the parts of two histories

pub differ_as_given : (policy : Policy) (one other : History) → TellThePart policy one → TellThePart policy other → DifferAsGiven policy one other
differ_as_given policy one other tell_one tell_other = record {
  same = λ elements_same ends_same. tell_one ∙ ap₂ (λ (es : List Element) (o : Option End). map element_of es ++ closing o) elements_same ends_same ∙ sym tell_other;
  at_element = λ place d.
      let parted = differ (end_of one) (end_of other) (place - 1) (elements policy one) (elements policy other) (all_given policy one tell_one) (all_given policy other tell_other) (d.before, d.there) in
      let found : Differ (place - 1) (part policy one) (part policy other) =
      subst (λ (vs : List Visible). Differ (place - 1) vs (part policy other)) (sym tell_one)
      (subst (λ (vs : List Visible). Differ (place - 1) (map element_of (elements policy one) ++ closing (end_of one)) vs) (sym tell_other) parted) in
      record { counted = d.counted; before = found.0; there = found.1 };
  at_end = λ elements_same ends_differ.
      let parted = at_ends (end_of one) (end_of other) (elements policy one) ends_differ in
      let place : length (elements policy one) + 1 - 1 ≡ length (elements policy one) = omega arith in
      let found : Differ (length (elements policy one) + 1 - 1) (part policy one) (part policy other) =
      subst (λ n. Differ n (part policy one) (part policy other)) (sym place)
      (subst (λ (vs : List Visible). Differ (length (elements policy one)) vs (part policy other)) (sym tell_one)
      (subst (λ (vs : List Visible). Differ (length (elements policy one)) (map element_of (elements policy one) ++ closing (end_of one)) vs)
      (ap (λ (es : List Element). map element_of es ++ closing (end_of other)) elements_same ∙ sym tell_other) parted)) in
      record { counted = omega arith; before = found.0; there = found.1 };
}
