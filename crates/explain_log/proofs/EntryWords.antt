-- The entry of a number, and its line.
use Rattle.std.proofs.Common.{◌≡◌, ◌⊎◌, inl, inr, get_or, true, false, ℕ, zero, suc, ◌-◌, ◌≤◌, ◌<◌, List, [], ◌∷◌, ◌++◌, length, Option, Some, None, codes, decimal, refl, ap, sym, ◌∙◌, arith, append_assoc}
use Rattle.std.specs.Prelude.{option_map, slice_get, ◌↔◌}
use Rattle.std.specs.Option.{IsSome}
use Rattle.std.proofs.lemmas.Option.{same_Some, slice_get_cases, slice_get_past}
use Rattle.dbus_names.specs.Texts.{Text}
use Rattle.policy_args.specs.Policy.{Policy, entry_at, entry_word}
use Rattle.policy_args.specs.declared.entry.Entry.{Entry}
use Rattle.policy_view.specs.Notes.{Note}
use Rattle.explain_log.specs.Lines.{decision_entry, entry_line, numbered_word}

-- the entry of a number from 1 stands one place before it
at_place : (entries : List Entry) (n : ℕ) → 1 ≤ n → entry_at entries n ≡ slice_get entries (n - 1)
at_place entries zero from_one = absurd (omega arith)
at_place entries (suc n) from_one = let e : suc n - 1 ≡ n = omega arith in rw e refl

-- 0 has no entry, nor has a number above their count
none_past : (entries : List Entry) (n : ℕ) → length entries < n → entry_at entries n ≡ None
none_past entries zero past = refl
none_past entries (suc n) past = slice_get_past entries n (omega arith)

pub no_line_at_0 : (policy : Policy) (note : Note) (n : ℕ) → n ≡ decision_entry note.decision → n ≡ 0 → entry_line policy note ≡ None
unfolding entry_line
no_line_at_0 policy note n is none = rw (sym is ∙ none) refl

pub no_line_past : (policy : Policy) (note : Note) (n : ℕ) → n ≡ decision_entry note.decision → length policy.entries < n → entry_line policy note ≡ None
unfolding entry_line
no_line_past policy note n is past = rw (sym is) (ap (option_map (numbered_word n)) (none_past policy.entries n past))

-- the line of an entry by its word
line_by_word : (n : ℕ) (word : Text) (o : Option Entry) → option_map entry_word o ≡ Some word →
    option_map (numbered_word n) o ≡ Some (codes "entry " ++ decimal n ++ codes " " ++ word ++ 10 ∷ [])
line_by_word n word None e = absurd cc
line_by_word n word (Some entry) e = ap (λ w. Some (codes "entry " ++ decimal n ++ codes " " ++ w ++ 10 ∷ [])) (same_Some (entry_word entry) word e)

-- what is pushed, one part after the other
line_pushed : (n : ℕ) (word b₀ b₁ b₂ b₃ b₄ b₅ : Text) →
    b₀ ≡ [] → b₁ ≡ b₀ ++ codes "entry " → b₂ ≡ b₁ ++ decimal n → b₃ ≡ b₂ ++ codes " " → b₄ ≡ b₃ ++ word → b₅ ≡ b₄ ++ 10 ∷ [] →
    b₅ ≡ codes "entry " ++ decimal n ++ codes " " ++ word ++ 10 ∷ []
line_pushed n word b₀ b₁ b₂ b₃ b₄ b₅ e₀ e₁ e₂ e₃ e₄ e₅ = rw (e₅, e₄, e₃, e₂, e₁, e₀) (simp append_assoc)

pub line_of_number : (policy : Policy) (note : Note) (n : ℕ) (word b₀ b₁ b₂ b₃ b₄ b₅ : Text) → n ≡ decision_entry note.decision → 1 ≤ n →
    option_map entry_word (slice_get policy.entries (n - 1)) ≡ Some word →
    b₀ ≡ [] → b₁ ≡ b₀ ++ codes "entry " → b₂ ≡ b₁ ++ decimal n → b₃ ≡ b₂ ++ codes " " → b₄ ≡ b₃ ++ word → b₅ ≡ b₄ ++ 10 ∷ [] →
    Some b₅ ≡ entry_line policy note
unfolding entry_line
line_of_number policy note n word b₀ b₁ b₂ b₃ b₄ b₅ is from_one found e₀ e₁ e₂ e₃ e₄ e₅ =
    ap Some (line_pushed n word b₀ b₁ b₂ b₃ b₄ b₅ e₀ e₁ e₂ e₃ e₄ e₅)
    ∙ sym (line_by_word n word (entry_at policy.entries n) (ap (option_map entry_word) (at_place policy.entries n from_one) ∙ found))
    ∙ ap (λ k. option_map (numbered_word k) (entry_at policy.entries k)) is

-- a number within the policy's entries has a line exactly if it is above 0
stands_at : (entries : List Entry) (n : ℕ) → n ≤ length entries → IsSome (option_map (numbered_word n) (entry_at entries n)) ↔ (0 < n)
stands_at entries zero within = (λ (stands : false ≡ true). absurd cc, λ above. absurd (omega arith))
stands_at entries (suc n) within = (λ stands. omega arith, λ above. by (slice_get_cases entries n).1)
  where
    by : ((e : Entry) × (n < length entries) × (slice_get entries n ≡ Some e) × (get_or entries n e ≡ e)) ⊎ ((length entries ≤ n) × (slice_get entries n ≡ None)) →
        IsSome (option_map (numbered_word (suc n)) (slice_get entries n))
    by (inl found) = rw found.2 refl
    by (inr past) = absurd (omega (arith, past.0, within))

pub line_stands : (policy : Policy) (note : Note) → decision_entry note.decision ≤ length policy.entries → IsSome (entry_line policy note) ↔ (0 < decision_entry note.decision)
unfolding entry_line
line_stands policy note within = stands_at policy.entries (decision_entry note.decision) within
