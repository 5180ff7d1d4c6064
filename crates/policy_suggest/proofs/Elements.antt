-- The elements of lists.
use Rattle.std.proofs.Common.{◌≡◌, ◌⊎◌, inl, inr, Bool, true, false, ◌||◌, List, [], ◌∷◌, ◌++◌, map, flat_map, refl, ap, sym, ◌∙◌, subst}
use Rattle.std.specs.List.{list_all, list_any}
use Rattle.std.proofs.lemmas.Bool.{and_from, and_parts}

or-right : (a b : Bool) → b ≡ true → (a || b) ≡ true
or-right true b is = refl
or-right false b is = is

module _ {X : Type 0} where
  abbrev pub Has : X → List X → Type 0
  Has x [] = ⊥
  Has x (y ∷ ys) = (x ≡ y) ⊎ Has x ys

  pub any-from : (p : X → Bool) (xs : List X) (x : X) → Has x xs → p x ≡ true → list_any p xs ≡ true
  any-from p [] x h is = absurd h
  any-from p (y ∷ ys) x (inl e) is = ap (λ b. b || list_any p ys) (ap p (sym e) ∙ is)
  any-from p (y ∷ ys) x (inr h) is = or-right (p y) (list_any p ys) (any-from p ys x h is)

  pub any-finds : (p : X → Bool) (xs : List X) → list_any p xs ≡ true → (x : X) × Has x xs × (p x ≡ true)
  any-finds p [] is = absurd cc
  any-finds p (y ∷ ys) is = by (p y) refl is (any-finds p ys)
    where
      by : (b : Bool) → p y ≡ b → (b || list_any p ys) ≡ true → (list_any p ys ≡ true → (x : X) × Has x ys × (p x ≡ true)) → (x : X) × Has x (y ∷ ys) × (p x ≡ true)
      by true e is rest = (y, inl refl, e)
      by false e is rest = let found = rest is in (found.0, inr found.1, found.2)

  pub all-has : (p : X → Bool) (xs : List X) (x : X) → list_all p xs ≡ true → Has x xs → p x ≡ true
  all-has p [] x all h = absurd h
  all-has p (y ∷ ys) x all (inl e) = ap p e ∙ (and_parts (p y) (list_all p ys) all).0
  all-has p (y ∷ ys) x all (inr h) = all-has p ys x (and_parts (p y) (list_all p ys) all).1 h

  pub all-from : (p : X → Bool) (xs : List X) → ((x : X) → Has x xs → p x ≡ true) → list_all p xs ≡ true
  all-from p [] each = refl
  all-from p (y ∷ ys) each = and_from (p y) (list_all p ys) (each y (inl refl)) (all-from p ys (λ x h. each x (inr h)))

  has-left : (xs ys : List X) (x : X) → Has x xs → Has x (xs ++ ys)
  has-left [] ys x h = absurd h
  has-left (z ∷ xs) ys x (inl e) = inl e
  has-left (z ∷ xs) ys x (inr h) = inr (has-left xs ys x h)

  has-right : (xs ys : List X) (x : X) → Has x ys → Has x (xs ++ ys)
  has-right [] ys x h = h
  has-right (z ∷ xs) ys x h = inr (has-right xs ys x h)

  pub append-has : (xs ys : List X) (x : X) → Has x (xs ++ ys) → Has x xs ⊎ Has x ys
  append-has [] ys x h = inr h
  append-has (z ∷ xs) ys x (inl e) = inl (inl e)
  append-has (z ∷ xs) ys x (inr h) = by (append-has xs ys x h)
    where
      by : Has x xs ⊎ Has x ys → Has x (z ∷ xs) ⊎ Has x ys
      by (inl a) = inl (inr a)
      by (inr b) = inr b

module _ {X Y : Type 0} where
  pub has-map : (f : X → Y) (xs : List X) (x : X) → Has x xs → Has (f x) (map f xs)
  has-map f [] x h = absurd h
  has-map f (z ∷ xs) x (inl e) = inl (ap f e)
  has-map f (z ∷ xs) x (inr h) = inr (has-map f xs x h)

  pub map-has : (f : X → Y) (xs : List X) (y : Y) → Has y (map f xs) → (x : X) × Has x xs × (y ≡ f x)
  map-has f [] y h = absurd h
  map-has f (z ∷ xs) y (inl e) = (z, inl refl, e)
  map-has f (z ∷ xs) y (inr h) = let found = map-has f xs y h in (found.0, inr found.1, found.2)

  pub has-flat : (f : X → List Y) (xs : List X) (x : X) (y : Y) → Has x xs → Has y (f x) → Has y (flat_map f xs)
  has-flat f [] x y h k = absurd h
  has-flat f (z ∷ xs) x y (inl e) k = has-left (f z) (flat_map f xs) y (subst (λ w. Has y (f w)) e k)
  has-flat f (z ∷ xs) x y (inr h) k = has-right (f z) (flat_map f xs) y (has-flat f xs x y h k)

  pub flat-has : (f : X → List Y) (xs : List X) (y : Y) → Has y (flat_map f xs) → (x : X) × Has x xs × Has y (f x)
  flat-has f [] y h = absurd h
  flat-has f (z ∷ xs) y h = by (append-has (f z) (flat_map f xs) y h) (flat-has f xs y)
    where
      by : Has y (f z) ⊎ Has y (flat_map f xs) → (Has y (flat_map f xs) → (x : X) × Has x xs × Has y (f x)) → (x : X) × Has x (z ∷ xs) × Has y (f x)
      by (inl a) rest = (z, inl refl, a)
      by (inr b) rest = let found = rest b in (found.0, inr found.1, found.2)
