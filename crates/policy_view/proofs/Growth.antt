-- A history grows at the head of its list, and the bytes that it gives out at their end.
use Rattle.std.proofs.Common.{◌≡◌, ◌≤◌, ◌-◌, ◌+◌, ℕ, zero, suc, List, [], ◌∷◌, ◌++◌, Option, Some, None, refl, ap, ◌∙◌, sym, append_assoc, append-nil, length, take, drop, length-append, arith, flat_map}
use Rattle.std.proofs.lemmas.List.{take-append-drop}
use Rattle.policy_args.specs.Policy.{Policy}
use Rattle.policy_view.specs.Past.{Item, Line, Msg, Raw, Ended, History, past}
use Rattle.policy_view.specs.Sent.{Past}
use Rattle.policy_view.specs.History.{Event, history, end_of, first_items, followed_by, followed_unless, followed_by_all, placed, arrived}
use Rattle.policy_view.specs.Outputs.{bus_bytes, client_bytes, to_bus, to_client}
use Rattle.policy_view.specs.Notes.{Note, notes, numbered, with_note_of}
use Rattle.policy_view.specs.Elements.{elements, given_of}
use Rattle.policy_view.specs.Visible.{visible_of}
use Rattle.policy_view.specs.Laws.{IsPrefixOf, OnlyGrows}
use Rattle.policy_view.specs.declared.End.{End}
use Rattle.policy_view.specs.declared.Mode.{Mode}
use Rattle.policy_view.specs.declared.visible.Visible.{Visible as Element}
use Rattle.policy_view.proofs.ElementLaws.{elements_step}

abbrev pub IsGrown : History → History → Type 0
IsGrown before now = (added : History) × (now ≡ added ++ before)

grown_unless : (end : Option End) (policy : Policy) (before : History) (item : Item) → IsGrown before (followed_unless end policy before item)
grown_unless (Some end) policy before item = ([], refl)
grown_unless None policy before item = (placed policy (past policy before) item ∷ [], refl)

grown_by : (policy : Policy) (before : History) (item : Item) → IsGrown before (followed_by policy before item)
unfolding followed_by
grown_by policy before item = grown_unless (end_of before) policy before item

grown_on : {one two three : History} → IsGrown one two → IsGrown two three → IsGrown one three
grown_on (first, e) (second, f) = (second ++ first, f ∙ (ap (λ h. second ++ h) e ∙ sym (append_assoc second first _)))

pub grown_by_all : (policy : Policy) (before : History) (items : List Item) → IsGrown before (followed_by_all policy before items)
unfolding followed_by_all
grown_by_all policy before [] = ([], refl)
grown_by_all policy before (item ∷ items) =
    grown_on (grown_by policy before item) (grown_by_all policy (followed_by policy before item) items)

-- more items, more bytes at the end
pub bus_grows : (policy : Policy) (before added : History) → IsPrefixOf (bus_bytes policy before) (bus_bytes policy (added ++ before))
unfolding bus_bytes
bus_grows policy before [] = ([], append-nil (bus_bytes policy before))
bus_grows policy before (item ∷ added) =
    let (rest, e) = bus_grows policy before added in
    let t = to_bus policy (past policy (added ++ before)) item in
    (rest ++ t, sym (append_assoc (bus_bytes policy before) rest t) ∙ ap (λ bytes. bytes ++ t) e)

pub client_grows : (policy : Policy) (before added : History) → IsPrefixOf (client_bytes policy before) (client_bytes policy (added ++ before))
unfolding client_bytes
client_grows policy before [] = ([], append-nil (client_bytes policy before))
client_grows policy before (item ∷ added) =
    let (rest, e) = client_grows policy before added in
    let t = to_client policy (past policy (added ++ before)) item in
    (rest ++ t, sym (append_assoc (client_bytes policy before) rest t) ∙ ap (λ bytes. bytes ++ t) e)

-- more items, more notes at the end
noted_more : (policy : Policy) (before : Past) (item : Item) (so_far : List Note × ℕ) → IsPrefixOf so_far.0 (with_note_of policy before item so_far).0
noted_more policy before (Msg side m) so_far = (_, refl)
noted_more policy before (Line side bytes) so_far = ([], append-nil so_far.0)
noted_more policy before (Raw side bytes) so_far = ([], append-nil so_far.0)
noted_more policy before (Ended end) so_far = ([], append-nil so_far.0)

prefix_on : {A : Type 0} (one two three : List A) → IsPrefixOf one two → IsPrefixOf two three → IsPrefixOf one three
prefix_on one two three (first, e) (second, f) = (first ++ second, sym (append_assoc one first second) ∙ ap (λ xs. xs ++ second) e ∙ f)

pub notes_grow : (policy : Policy) (before added : History) → IsPrefixOf (notes policy before) (notes policy (added ++ before))
unfolding numbered
notes_grow policy before [] = ([], append-nil (notes policy before))
notes_grow policy before (item ∷ added) =
    prefix_on (notes policy before) (notes policy (added ++ before)) _ (notes_grow policy before added) (noted_more policy (past policy (added ++ before)) item (numbered policy (added ++ before)))

-- more items, more elements at the end
pub elements_grow : (policy : Policy) (before added : History) → IsPrefixOf (elements policy before) (elements policy (added ++ before))
elements_grow policy before [] = ([], append-nil (elements policy before))
elements_grow policy before (item ∷ added) =
    let (rest, e) = elements_grow policy before added in
    let more = flat_map given_of (visible_of policy (past policy (added ++ before)) item) in
    (rest ++ more, sym (append_assoc (elements policy before) rest more) ∙ ap (λ (es : List Element). es ++ more) e ∙ sym (elements_step policy (added ++ before) item))

grown_over : (policy : Policy) (mode : Mode) (more events : List Event) →
    IsGrown (history policy mode events) (history policy mode (more ++ events))
unfolding history
grown_over policy mode [] events = ([], refl)
grown_over policy mode (event ∷ more) events =
    grown_on (grown_over policy mode more events)
    (grown_by_all policy (history policy mode (more ++ events)) (arrived mode (more ++ events) event))

pub only_grows : (policy : Policy) (mode : Mode) (more events : List Event) → OnlyGrows policy mode more events
only_grows policy mode more events =
    let (added, e) = grown_over policy mode more events in
    record {
      items = (added, e);
      to_bus = rw e (bus_grows policy (history policy mode events) added);
      to_client = rw e (client_grows policy (history policy mode events) added);
      noted = rw e (notes_grow policy (history policy mode events) added);
      watched = rw e (elements_grow policy (history policy mode events) added);
    }

-- ---- the first items

dropped : (n : ℕ) (added before : History) → n ≡ length added → drop n (added ++ before) ≡ before
dropped zero [] before e = refl
dropped zero (item ∷ added) before e = absurd (omega (arith, e))
dropped (suc n) [] before e = absurd (omega (arith, e))
dropped (suc n) (item ∷ added) before e = dropped n added before (omega (arith, e))

-- all that came before the others
pub first_all : (added before : History) → first_items (length before) (added ++ before) ≡ before
first_all added before = dropped (length (added ++ before) - length before) added before (omega (arith, length-append added before))

drop_more : (added before : History) (k : ℕ) → drop (length added + k) (added ++ before) ≡ drop k before
drop_more [] before k = let same : 0 + k ≡ k = omega arith in ap (λ (n : ℕ). drop n before) same
drop_more (item ∷ added) before k =
    let same : suc (length added) + k ≡ suc (length added + k) = omega arith in
    ap (λ (n : ℕ). drop n (item ∷ added ++ before)) same ∙ drop_more added before k

-- they stay when more was received
pub first_of_more : (n : ℕ) (added before : History) → n ≤ length before → first_items n (added ++ before) ≡ first_items n before
first_of_more n added before le =
    let same : length (added ++ before) - n ≡ length added + (length before - n) = omega (arith, length-append added before, le) in
    ap (λ (k : ℕ). drop k (added ++ before)) same ∙ drop_more added before (length before - n)

-- and the others come after them
pub others_after : (n : ℕ) (items : History) → IsGrown (first_items n items) items
others_after n items = (take (length items - n) items, sym (take-append-drop (length items - n) items))
