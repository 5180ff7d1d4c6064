-- The descriptors that are held so far.
use Rattle.std.proofs.Common.{inl, inr, ◌≡◌, ◌++◌, ◌∷◌, [], ℤ, Bool, true, false, List, Option, length, ap, sym, ◌∙◌, append_assoc, append-nil, arith, IfSome}
use Rattle.std.specs.Prelude.{All}
use Rattle.std.proofs.lemmas.List.Elements.{All-push}
use Rattle.process_streams.specs.Descriptors.{is_standard, Filled}

-- those that the system gave, each of them standard
pub record Holds (given new_given held : List ℤ) : Type 0 where
  pub are : new_given ≡ given ++ held
  pub standard : All (λ number. is_standard number ≡ true) held

none-of : (P : ℤ → Type 0) → All P []
none-of P k d h = absurd (omega arith)

one-of : (P : ℤ → Type 0) (x : ℤ) → P x → All P (x ∷ [])
one-of P x p = All-push P [] x (none-of P) p

pub holds_none : (given : List ℤ) → Holds given given []
holds_none given = record { are = sym (append-nil given); standard = none-of (λ (n : ℤ). is_standard n ≡ true) }

pub holds_more : (given old held : List ℤ) (x : ℤ) (new : List ℤ) → Holds given old held → new ≡ old ++ (x ∷ []) → is_standard x ≡ true → Holds given new (held ++ (x ∷ []))
holds_more given old held x new h e s = record {
  are = e ∙ ap (λ l. l ++ (x ∷ [])) h.are ∙ append_assoc given held (x ∷ []);
  standard = All-push (λ (n : ℤ). is_standard n ≡ true) held x h.standard s;
}

pub filled_above : (given old held : List ℤ) (x : ℤ) (new : List ℤ) (closed : Option Bool) → Holds given old held → new ≡ old ++ (x ∷ []) → is_standard x ≡ false → Filled given new held closed
filled_above given old held x new closed h e s = record {
  others = x ∷ [];
  are = e ∙ ap (λ l. l ++ (x ∷ [])) h.are ∙ append_assoc given held (x ∷ []);
  held_standard = h.standard;
  others_above = one-of (λ (n : ℤ). is_standard n ≡ false) x s;
  all_open = inr (inl (omega arith));
}

pub filled_open : (given old held new : List ℤ) (closed : Option Bool) → Holds given old held → new ≡ old → IfSome closed (λ c. c ≡ false) → Filled given new held closed
filled_open given old held new closed h e s = record {
  others = [];
  are = e ∙ h.are ∙ ap (λ l. given ++ l) (sym (append-nil held));
  held_standard = h.standard;
  others_above = none-of (λ (n : ℤ). is_standard n ≡ false);
  all_open = inr (inr s);
}

pub filled_three : (given new held : List ℤ) (closed : Option Bool) → Holds given new held → length held ≡ 3 → Filled given new held closed
filled_three given new held closed h e = record {
  others = [];
  are = h.are ∙ ap (λ l. given ++ l) (sym (append-nil held));
  held_standard = h.standard;
  others_above = none-of (λ (n : ℤ). is_standard n ≡ false);
  all_open = inl e;
}
