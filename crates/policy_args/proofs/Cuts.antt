-- A text in parts: the first, and those after it.
use Rattle.std.proofs.Common.{◌≡◌, ℕ, suc, ◌+◌, ◌≤◌, ◌<◌, Bool, true, false, not, cond, ◌||◌, ◌==◌, List, [], ◌∷◌, length, Some, None, refl, ap, sym, ◌∙◌, arith, length-drop}
use Rattle.std.specs.List.{list_any, after_first, onto_first, position_or_len}
use Rattle.std.proofs.lemmas.List.{take_all}
use Rattle.std.proofs.lemmas.List.Splits.{slice_split_first}
use Rattle.dbus_names.specs.Names.{parts_at}
use Rattle.policy_args.specs.Steps.{front_at, behind_at, parts_left, bytes_left}

module _ (separator : ℕ) where
  is : ℕ → Bool
  is c = c == separator

  -- a text without the separator
  pub lacks : (text : List ℕ) → position_or_len (λ c. c == separator) text ≡ length text → list_any (λ c. c == separator) text ≡ false
  lacks [] e = refl
  lacks (c ∷ text) e = go (c == separator) e (lacks text)
    where
      go : (b : Bool) → cond (not b) (1 + position_or_len (λ c. c == separator) text) 0 ≡ suc (length text) →
          (position_or_len (λ c. c == separator) text ≡ length text → list_any (λ c. c == separator) text ≡ false) → (b || list_any (λ c. c == separator) text) ≡ false
      go true e rest = absurd (omega (arith, e))
      go false e rest = rest (omega (arith, e))

  -- a text with it
  has : (text : List ℕ) → list_any (λ c. c == separator) text ≡ true → position_or_len (λ c. c == separator) text < length text
  has [] e = absurd cc
  has (c ∷ text) e = go (c == separator) e (has text)
    where
      go : (b : Bool) → (b || list_any (λ c. c == separator) text) ≡ true → (list_any (λ c. c == separator) text ≡ true → position_or_len (λ c. c == separator) text < length text) →
          cond (not b) (1 + position_or_len (λ c. c == separator) text) 0 < suc (length text)
      go true e rest = omega arith
      go false e rest = omega (arith, rest e)

  one-part : (text : List ℕ) → list_any (λ c. c == separator) text ≡ false → parts_at separator text ≡ text ∷ []
  one-part [] e = refl
  one-part (c ∷ text) e = go (c == separator) e (one-part text)
    where
      go : (b : Bool) → (b || list_any (λ c. c == separator) text) ≡ false → (list_any (λ c. c == separator) text ≡ false → parts_at separator text ≡ text ∷ []) →
          cond b ([] ∷ parts_at separator text) (onto_first c (parts_at separator text)) ≡ (c ∷ text) ∷ []
      go true e rest = absurd cc
      go false e rest = ap (onto_first c) (rest e)

  all-before : (text : List ℕ) → list_any (λ c. c == separator) text ≡ false → length text ≤ position_or_len (λ c. c == separator) text
  all-before [] e = omega arith
  all-before (c ∷ text) e = go (c == separator) e (all-before text)
    where
      go : (b : Bool) → (b || list_any (λ c. c == separator) text) ≡ false → (list_any (λ c. c == separator) text ≡ false → length text ≤ position_or_len (λ c. c == separator) text) →
          suc (length text) ≤ cond (not b) (1 + position_or_len (λ c. c == separator) text) 0
      go true e rest = absurd cc
      go false e rest = omega (arith, rest e)

  -- the first part, and those of what follows
  pub parts-cut : (text : List ℕ) → parts_at separator text ≡ front_at separator text ∷ parts_left separator (behind_at separator text)
  parts-cut text = go (list_any (λ c. c == separator) text) refl
    where
      go : (b : Bool) → list_any (λ c. c == separator) text ≡ b → parts_at separator text ≡ front_at separator text ∷ parts_left separator (cond b (Some (after_first (λ c. c == separator) text)) None)
      go true e = slice_split_first (λ c. c == separator) text 0 (has text e)
      go false e = one-part text e ∙ ap (λ (t : List ℕ). t ∷ []) (sym (take_all (position_or_len (λ c. c == separator) text) text (all-before text e)))

  -- what follows is shorter
  pub shorter : (text : List ℕ) → bytes_left (behind_at separator text) < suc (length text)
  shorter text = go (list_any (λ c. c == separator) text) refl
    where
      go : (b : Bool) → list_any (λ c. c == separator) text ≡ b → bytes_left (cond b (Some (after_first (λ c. c == separator) text)) None) < suc (length text)
      go true e = omega (arith, has text e, length-drop (position_or_len (λ c. c == separator) text + 1) text)
      go false e = omega arith

  pub no-parts : (text : List ℕ) → position_or_len (λ c. c == separator) text ≡ length text → (text ≡ front_at separator text) × (None ≡ behind_at separator text)
  no-parts text e = (
    sym (take_all (position_or_len (λ c. c == separator) text) text (all-before text (lacks text e))),
    ap (λ b. cond b (Some (after_first (λ c. c == separator) text)) None) (sym (lacks text e)),
  )
