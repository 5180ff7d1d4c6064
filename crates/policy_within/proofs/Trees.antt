-- A text with all texts below it: what it covers, by one text below another.
use Rattle.std.proofs.Common.{◌≡◌, ℕ, Bool, true, false, cond, List, [], ◌∷◌, ◌++◌, length, take, drop, refl, ap, ap₂, sym, ◌∙◌, append_assoc, nat_eq, inl, inr}
use Rattle.std.specs.Prelude.{◌⊎◌, ◌&&◌, ◌||◌, not, bytes_eq, if◌then◌else◌}
use Rattle.std.specs.List.{onto_first}
use Rattle.std.proofs.lemmas.Bool.{and_parts, both_ways, eq-eqb, false≢true, not-true, or_cases, or_left, or_right}
use Rattle.std.proofs.lemmas.List.{take-append-drop, take_at}
use Rattle.byte_lists.proofs.Bytes.{bytes_eq-refl, bytes_eq-true}
use Rattle.dbus_names.specs.Names.{parts_at}
use Rattle.dbus_names.specs.Texts.{begins_with}
use Rattle.policy_within.specs.Apart.{lacks}
use Rattle.policy_within.specs.Elements.{is_among}

-- ---- parts of a text

pub parts-lacking : (s : ℕ) (f : List ℕ) → lacks s f ≡ true → parts_at s f ≡ f ∷ []
parts-lacking s [] e = refl
parts-lacking s (c ∷ f) e =
    let both = and_parts (not (nat_eq c s)) (lacks s f) e in
    ap (λ b. cond b ([] ∷ parts_at s f) (onto_first c (parts_at s f))) (not-true (nat_eq c s) both.0)
    ∙ ap (onto_first c) (parts-lacking s f both.1)

last_part : (s : ℕ) (n f : List ℕ) → lacks s f ≡ true → is_among (drop 1 (parts_at s (n ++ s ∷ f))) f ≡ true
last_part s [] f e =
    ap (λ b. is_among (drop 1 (cond b ([] ∷ parts_at s f) (onto_first s (parts_at s f)))) f) (eq-eqb s s refl)
    ∙ ap (λ parts. is_among parts f) (parts-lacking s f e)
    ∙ or_left (bytes_eq f f) false (bytes_eq-refl f)
last_part s (c ∷ n) f e = by (nat_eq c s) (parts_at s (n ++ s ∷ f)) (last_part s n f e)
  where
    by : (b : Bool) (parts : List (List ℕ)) → is_among (drop 1 parts) f ≡ true → is_among (drop 1 (cond b ([] ∷ parts) (onto_first c parts))) f ≡ true
    by true [] h = absurd cc
    by true (part ∷ parts) h = or_right (bytes_eq f part) (is_among parts f) h
    by false [] h = absurd cc
    by false (part ∷ parts) h = h

among-drop : (f : List ℕ) (parts : List (List ℕ)) → is_among (drop 1 parts) f ≡ true → is_among parts f ≡ true
among-drop f [] h = absurd cc
among-drop f (part ∷ parts) h = or_right (bytes_eq f part) (is_among parts f) h

-- what follows the last separator is a part
pub last-among : (s : ℕ) (n f : List ℕ) → lacks s f ≡ true → is_among (parts_at s (n ++ s ∷ f)) f ≡ true
last-among s n f e = among-drop f (parts_at s (n ++ s ∷ f)) (last_part s n f e)

-- a text with no separator is its own part
pub whole-among : (s : ℕ) (f : List ℕ) → lacks s f ≡ true → is_among (parts_at s f) f ≡ true
whole-among s f e = ap (λ parts. is_among parts f) (parts-lacking s f e) ∙ or_left (bytes_eq f f) false (bytes_eq-refl f)

-- ---- trees

-- the text is the root or, if those below are meant, below it
abbrev pub in_tree : ℕ → List ℕ → Bool → List ℕ → Bool
in_tree s root below text = bytes_eq text root || (below && begins_with (root ++ s ∷ []) text)

abbrev pub Under : ℕ → List ℕ → Bool → List ℕ → Type 0
Under s root below text = (text ≡ root) ⊎ ((below ≡ true) × (rest : List ℕ) × (text ≡ root ++ s ∷ rest))

begins : (front text : List ℕ) → begins_with front text ≡ true → text ≡ front ++ drop (length front) text
begins front text e =
    sym (take-append-drop (length front) text)
    ∙ ap (λ (t : List ℕ). t ++ drop (length front) text) (sym (bytes_eq-true front (take (length front) text) e))

begins-there : (front rest : List ℕ) → begins_with front (front ++ rest) ≡ true
begins-there front rest = ap (bytes_eq front) (take_at front rest (length front) refl) ∙ bytes_eq-refl front

pub under : (s : ℕ) (root : List ℕ) (below : Bool) (text : List ℕ) → in_tree s root below text ≡ true → Under s root below text
under s root below text e = elim (or_cases (bytes_eq text root) (below && begins_with (root ++ s ∷ []) text) e) [
  | inl h ↦ inl (bytes_eq-true text root h)
  | inr h ↦ let both = and_parts below (begins_with (root ++ s ∷ []) text) h in
      inr (both.0, drop (length (root ++ s ∷ [])) text, begins (root ++ s ∷ []) text both.1 ∙ append_assoc root (s ∷ []) (drop (length (root ++ s ∷ [])) text))
]

pub in_tree-root : (s : ℕ) (root : List ℕ) (below : Bool) (text : List ℕ) → text ≡ root → in_tree s root below text ≡ true
in_tree-root s root below text e = or_left (bytes_eq text root) (below && begins_with (root ++ s ∷ []) text) (ap (λ t. bytes_eq t root) e ∙ bytes_eq-refl root)

pub in_tree-below : (s : ℕ) (root : List ℕ) (below : Bool) (text rest : List ℕ) → below ≡ true → text ≡ root ++ s ∷ rest → in_tree s root below text ≡ true
in_tree-below s root below text rest b e =
    or_right (bytes_eq text root) (below && begins_with (root ++ s ∷ []) text)
    (ap (λ w. w && begins_with (root ++ s ∷ []) text) b
    ∙ ap (begins_with (root ++ s ∷ [])) (e ∙ sym (append_assoc root (s ∷ []) rest))
    ∙ begins-there (root ++ s ∷ []) rest)

-- ---- one tree within another

-- a text of the tree: the root, or one below it
abbrev pub tree_point : ℕ → List ℕ → List ℕ → Bool → List ℕ
tree_point s f root below = if below then root ++ s ∷ f else root

pub point-in_tree : (s : ℕ) (f root : List ℕ) (below : Bool) → in_tree s root below (tree_point s f root below) ≡ true
point-in_tree s f root true = in_tree-below s root true (root ++ s ∷ f) f refl refl
point-in_tree s f root false = in_tree-root s root false root refl

not_lacking : (s : ℕ) (q rest : List ℕ) → lacks s (q ++ s ∷ rest) ≡ false
not_lacking s [] rest = ap (λ b. not b && lacks s rest) (eq-eqb s s refl)
not_lacking s (c ∷ q) rest = by (not (nat_eq c s)) (not_lacking s q rest)
  where
    by : (b : Bool) → lacks s (q ++ s ∷ rest) ≡ false → (b && lacks s (q ++ s ∷ rest)) ≡ false
    by true h = h
    by false h = refl

-- a text, a separator and what follows: if it continues another text, it is that text or below it
pub prefix-cases : (s : ℕ) (q n f rest : List ℕ) → lacks s f ≡ true → q ++ s ∷ rest ≡ n ++ s ∷ f → (q ≡ n) ⊎ ((r : List ℕ) × (n ≡ q ++ s ∷ r))
prefix-cases s [] [] f rest l e = inl refl
prefix-cases s [] (c ∷ n) f rest l e = let head : c ≡ s = cc in inr (n, ap (λ d. d ∷ n) head)
prefix-cases s (c ∷ q) [] f rest l e =
    let tails : f ≡ q ++ s ∷ rest = cc in
    absurd (both_ways (lacks s f) (ap (lacks s) tails ∙ not_lacking s q rest) l)
prefix-cases s (c ∷ q) (d ∷ n) f rest l e =
    let heads : c ≡ d = cc in
    let tails : q ++ s ∷ rest ≡ n ++ s ∷ f = cc in
    elim (prefix-cases s q n f rest l tails) [
      | inl h ↦ inl (ap₂ (λ x xs. x ∷ xs) heads h)
      | inr h ↦ inr (h.0, ap₂ (λ x xs. x ∷ xs) (sym heads) h.1)
    ]

descends : (s : ℕ) (q : List ℕ) (wide : Bool) (n text : List ℕ) → wide ≡ true → (q ≡ n) ⊎ ((r : List ℕ) × (n ≡ q ++ s ∷ r)) → Under s n true text → in_tree s q wide text ≡ true
descends s q wide n text w (inl e) (inl h) = in_tree-root s q wide text (h ∙ sym e)
descends s q wide n text w (inl e) (inr h) = in_tree-below s q wide text h.1 w (h.2 ∙ ap (λ t. t ++ s ∷ h.1) (sym e))
descends s q wide n text w (inr e) (inl h) = in_tree-below s q wide text e.0 w (h ∙ e.1)
descends s q wide n text w (inr e) (inr h) = in_tree-below s q wide text (e.0 ++ s ∷ h.1) w (h.2 ∙ ap (λ t. t ++ s ∷ h.1) e.1 ∙ append_assoc q (s ∷ e.0) (s ∷ h.1))

-- A tree that has a text below the root by a part that it doesn't name has all of the root's tree.
pub tree-within : (s : ℕ) (f q : List ℕ) (wide : Bool) (n : List ℕ) (below : Bool) (text : List ℕ) → lacks s f ≡ true → is_among (parts_at s q) f ≡ false →
    in_tree s q wide (tree_point s f n below) ≡ true → in_tree s n below text ≡ true → in_tree s q wide text ≡ true
tree-within s f q wide n false text l free h k = elim (under s n false text k) [
  | inl e ↦ ap (in_tree s q wide) e ∙ h
  | inr e ↦ absurd (false≢true e.0)
]
tree-within s f q wide n true text l free h k = elim (under s q wide (n ++ s ∷ f) h) [
  | inl e ↦ absurd (both_ways (is_among (parts_at s q) f) free (ap (λ t. is_among (parts_at s t) f) (sym e) ∙ last-among s n f l))
  | inr e ↦ descends s q wide n text e.0 (prefix-cases s q n f e.1 l (sym e.2)) (under s n true text k)
]
