-- The parts of an address, one after the other, and the bytes that its path spells.
use Rattle.std.proofs.Common.{◌≡◌, ℕ, ◌<◌, List, ◌∷◌, ◌++◌, Option, Some, None, refl, ap, sym, ◌∙◌, subst, append_assoc, append-nil}
use Rattle.std.specs.Option.{option_or}
use Rattle.policy_args.specs.Addresses.{first_some, join_parts, unescaped, unescaped_from, unescaped_part, unescaped_parts}
use Rattle.policy_args.specs.Seen.{part_seen}
use Rattle.policy_args.specs.Steps.{front_at, behind_at, parts_left, bytes_left}
use Rattle.policy_args.proofs.Cuts.{parts-cut, shorter}
use denote.Bor.{Bor}

module _ (separator : ℕ) (text : List ℕ) (rest : Option (Bor (List ℕ))) (part : Bor (List ℕ)) (is : rest ≡ Some part) where
  left : {X : Type 0} (f : List (List ℕ) → X) → f (parts_left separator (part_seen rest)) ≡ f (front_at separator part.now ∷ parts_left separator (behind_at separator part.now))
  left f = ap (λ r. f (parts_left separator (part_seen r))) is ∙ ap f (parts-cut separator part.now)

  -- each turn leaves less
  pub less-left : (behind : Option (List ℕ)) → behind ≡ behind_at separator part.now → bytes_left behind < bytes_left (part_seen rest)
  less-left behind cut =
      subst (λ (r : Option (Bor (List ℕ))). bytes_left behind < bytes_left (part_seen r)) (sym is)
      (subst (λ b. bytes_left b < bytes_left (part_seen (Some part))) (sym cut) (shorter separator part.now))

  -- ---- the first part that a test finds something in
  pub found-first : (test : List ℕ → Option (List ℕ)) (answer : Option (List ℕ)) (found : List ℕ) (front : List ℕ) → first_some test (parts_left separator (part_seen rest)) ≡ answer →
      front ≡ front_at separator part.now → Some found ≡ test front → Some found ≡ answer
  found-first test answer found front before cut tested =
      ap (λ t. option_or t (first_some test (parts_left separator (behind_at separator part.now)))) (tested ∙ ap test cut) ∙ sym (left (first_some test)) ∙ before

  pub next-part : (test : List ℕ → Option (List ℕ)) (answer : Option (List ℕ)) (front : List ℕ) (behind : Option (List ℕ)) → first_some test (parts_left separator (part_seen rest)) ≡ answer →
      front ≡ front_at separator part.now → behind ≡ behind_at separator part.now → None ≡ test front → first_some test (parts_left separator behind) ≡ answer
  next-part test answer front behind before cut past tested =
      ap (λ b. first_some test (parts_left separator b)) past
      ∙ ap (λ t. option_or t (first_some test (parts_left separator (behind_at separator part.now)))) (tested ∙ ap test cut) ∙ sym (left (first_some test)) ∙ before

-- ---- the bytes of a path

join-more : (bytes more : List ℕ) (rest : Option (List ℕ)) → join_parts (Some (bytes ++ more)) rest ≡ join_parts (Some bytes) (join_parts (Some more) rest)
join-more bytes more None = refl
join-more bytes more (Some rest) = ap (λ (t : List ℕ). Some t) (append_assoc bytes more rest)

-- before the first %
pub unescape-start : (text front bytes : List ℕ) (behind : Option (List ℕ)) → front ≡ front_at 37 text → behind ≡ behind_at 37 text → bytes ≡ front →
    join_parts (Some bytes) (unescaped_parts (parts_left 37 behind)) ≡ unescaped text
unescape-start text front bytes behind cut past is =
    ap (λ (b : List ℕ). join_parts (Some b) (unescaped_parts (parts_left 37 behind))) (is ∙ cut) ∙ ap (λ b. join_parts (Some (front_at 37 text)) (unescaped_parts (parts_left 37 b))) past
    ∙ ap unescaped_from (sym (parts-cut 37 text))

module _ (rest : Option (Bor (List ℕ))) (part : Bor (List ℕ)) (is : rest ≡ Some part) (bytes : List ℕ) (answer : Option (List ℕ)) (front : List ℕ)
    (before : join_parts (Some bytes) (unescaped_parts (parts_left 37 (part_seen rest))) ≡ answer) (cut : front ≡ front_at 37 part.now) where
  left-parts : join_parts (Some bytes) (join_parts (unescaped_part front) (unescaped_parts (parts_left 37 (behind_at 37 part.now)))) ≡ answer
  left-parts =
      ap (λ f. join_parts (Some bytes) (join_parts (unescaped_part f) (unescaped_parts (parts_left 37 (behind_at 37 part.now))))) cut
      ∙ ap (λ ps. join_parts (Some bytes) (unescaped_parts ps)) (sym (parts-cut 37 part.now))
      ∙ ap (λ r. join_parts (Some bytes) (unescaped_parts (parts_left 37 (part_seen r)))) (sym is) ∙ before

  pub unescape-more : (more new : List ℕ) (behind : Option (List ℕ)) → behind ≡ behind_at 37 part.now → Some more ≡ unescaped_part front → new ≡ bytes ++ more →
      join_parts (Some new) (unescaped_parts (parts_left 37 behind)) ≡ answer
  unescape-more more new behind past read pushed =
      ap (λ (b : List ℕ). join_parts (Some b) (unescaped_parts (parts_left 37 behind))) pushed
      ∙ ap (λ b. join_parts (Some (bytes ++ more)) (unescaped_parts (parts_left 37 b))) past
      ∙ join-more bytes more (unescaped_parts (parts_left 37 (behind_at 37 part.now)))
      ∙ ap (λ p. join_parts (Some bytes) (join_parts p (unescaped_parts (parts_left 37 (behind_at 37 part.now))))) read ∙ left-parts

  pub unescape-fails : None ≡ unescaped_part front → None ≡ answer
  unescape-fails read = ap (λ p. join_parts (Some bytes) (join_parts p (unescaped_parts (parts_left 37 (behind_at 37 part.now))))) read ∙ left-parts

pub unescape-ends : (rest : Option (Bor (List ℕ))) (bytes : List ℕ) (answer : Option (List ℕ)) → join_parts (Some bytes) (unescaped_parts (parts_left 37 (part_seen rest))) ≡ answer → rest ≡ None → Some bytes ≡ answer
unescape-ends rest bytes answer before is =
    ap (λ (b : List ℕ). Some b) (sym (append-nil bytes)) ∙ ap (λ r. join_parts (Some bytes) (unescaped_parts (parts_left 37 (part_seen r)))) (sym is) ∙ before

pub first-ends : (separator : ℕ) (test : List ℕ → Option (List ℕ)) (rest : Option (Bor (List ℕ))) (answer : Option (List ℕ)) → first_some test (parts_left separator (part_seen rest)) ≡ answer → rest ≡ None → None ≡ answer
first-ends separator test rest answer before is = ap (λ r. first_some test (parts_left separator (part_seen r))) (sym is) ∙ before
