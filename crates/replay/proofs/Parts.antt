-- Places in lists, and the visible parts of more and more events.
use Rattle.std.proofs.Common.{◌≡◌, ◌<◌, ◌+◌, ◌-◌, ℕ, zero, suc, List, [], ◌∷◌, ◌++◌, Some, refl, ap, sym, ◌∙◌, subst, append_assoc, append-nil, arith, length, take, drop, map, reverse}
use Rattle.std.specs.Prelude.{slice_get}
use Rattle.std.proofs.lemmas.List.{map-append, reverse-append, take-append-drop}
use Rattle.policy_args.specs.Policy.{Policy}
use Rattle.policy_view.specs.Elements.{DifferFirst}
use Rattle.policy_view.specs.History.{history}
use Rattle.policy_view.specs.Laws.{IsPrefixOf, OnlyGrows}
use Rattle.policy_view.specs.Past.{History, past}
use Rattle.policy_view.specs.Visible.{part, visible_of}
use Rattle.policy_view.specs.declared.Mode.{Mode}
use Rattle.recording.specs.Recording.{Event as Recorded}
use Rattle.replay_output.specs.Output.{event_of, events_of}

-- ---- places in lists

pub at-length : {A : Type 0} (xs : List A) (x : A) (ys : List A) → slice_get (xs ++ x ∷ ys) (length xs) ≡ Some x
at-length [] x ys = refl
at-length (y ∷ xs) x ys = at-length xs x ys

pub at-front : {A : Type 0} (xs ys : List A) (n : ℕ) → n < length xs → slice_get (xs ++ ys) n ≡ slice_get xs n
at-front [] ys n lt = absurd (omega arith)
at-front (x ∷ xs) ys zero lt = refl
at-front (x ∷ xs) ys (suc n) lt = at-front xs ys n (omega arith)

one-behind : (n : ℕ) → n ≡ (n + 1) - 1
one-behind n = omega arith

-- lists that differ first after this many elements
pub differ-behind : {A : Type 0} (n : ℕ) (xs ys : List A) → take n xs ≡ take n ys → (slice_get xs n ≡ slice_get ys n → ⊥) → DifferFirst (n + 1) xs ys
differ-behind n xs ys before there = record {
  counted = omega arith;
  before = subst (λ k. take k xs ≡ take k ys) (one-behind n) before;
  there = subst (λ k. slice_get xs k ≡ slice_get ys k → ⊥) (one-behind n) there;
}

pub differ-there : {A : Type 0} (n : ℕ) (xs ys : List A) → DifferFirst (n + 1) xs ys → slice_get xs n ≡ slice_get ys n → ⊥
differ-there n xs ys differ = subst (λ k. slice_get xs k ≡ slice_get ys k → ⊥) (sym (one-behind n)) differ.there

pub differ-before : {A : Type 0} (n : ℕ) (xs ys : List A) → DifferFirst (n + 1) xs ys → take n xs ≡ take n ys
differ-before n xs ys differ = subst (λ k. take k xs ≡ take k ys) (sym (one-behind n)) differ.before

-- ---- more events, more of the part at its end

grows : (policy : Policy) (added before : History) → IsPrefixOf (part policy before) (part policy (added ++ before))
unfolding part
grows policy [] before = ([], append-nil (part policy before))
grows policy (item ∷ added) before =
    let (rest, e) = grows policy added before in
    let more = visible_of policy (past policy (added ++ before)) item in
    (rest ++ more, sym (append_assoc (part policy before) rest more) ∙ ap (λ xs. xs ++ more) e)

split : (es : List Recorded) (k : ℕ) → events_of es ≡ events_of (drop k es) ++ events_of (take k es)
split es k = ap events_of (sym (take-append-drop k es)) ∙ ap reverse (map-append event_of (take k es) (drop k es)) ∙ reverse-append (map event_of (take k es)) (map event_of (drop k es))

-- the part of the first events is a prefix of that of all
pub part-front : (policy : Policy) (mode : Mode) (es : List Recorded) (k : ℕ) → OnlyGrows policy mode (events_of (drop k es)) (events_of (take k es)) →
    IsPrefixOf (part policy (history policy mode (events_of (take k es)))) (part policy (history policy mode (events_of es)))
part-front policy mode es k growing =
    let (added, e) = growing.items in
    let (rest, f) = grows policy added (history policy mode (events_of (take k es))) in
    (rest, f ∙ ap (part policy) (sym e) ∙ ap (λ events. part policy (history policy mode events)) (sym (split es k)))
