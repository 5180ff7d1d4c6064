-- What was taken of a session and what then waits is a prefix of what its events give, whatever its End.
use Rattle.std.proofs.Common.{◌≡◌, Bool, true, false, cond, List, [], ◌∷◌, ◌++◌, refl, ap, ◌∙◌, sym, append-nil}
use Rattle.policy_args.specs.Policy.{Policy}
use Rattle.policy_view.specs.History.{Event, first_items, history}
use Rattle.policy_view.specs.Laws.{IsPrefixOf}
use Rattle.policy_view.specs.Notes.{Note, notes, notes_made, numbered}
use Rattle.policy_view.specs.Outputs.{bus_bytes, client_bytes, to_bus, to_client}
use Rattle.policy_view.specs.Past.{Ended, History}
use Rattle.policy_view.specs.Visible.{visible_of}
use Rattle.policy_view.specs.declared.End.{End}
use Rattle.policy_view.specs.declared.End.TheVariants.{Memory}
use Rattle.policy_view.proofs.Growth.{bus_grows, client_grows, elements_grow, notes_grow, others_after}
use Rattle.proxy_core.specs.Sessions.{SessionView, Taken, Holds, StandsFor, IsFront, elements_given, is_memory}
use Rattle.proxy_core.proofs.Placing.{given_none}

-- an End gives nothing
pub bus_ended : (policy : Policy) (end : End) (items : History) → bus_bytes policy (Ended end ∷ items) ≡ bus_bytes policy items
unfolding bus_bytes to_bus
bus_ended policy end items = append-nil (bus_bytes policy items)

pub client_ended : (policy : Policy) (end : End) (items : History) → client_bytes policy (Ended end ∷ items) ≡ client_bytes policy items
unfolding client_bytes to_client
client_ended policy end items = append-nil (client_bytes policy items)

pub notes_ended : (policy : Policy) (end : End) (items : History) → notes policy (Ended end ∷ items) ≡ notes policy items
unfolding numbered
notes_ended policy end items = refl

elements_ended : (watches : Bool) (policy : Policy) (end : End) (items : History) → elements_given watches policy (Ended end ∷ items) ≡ elements_given watches policy items
unfolding visible_of
elements_ended watches policy end items = sym (given_none watches policy items (Ended end) refl)

-- what is given only grows
module _ {A : Type 0} (given : History → List A) (ended : (end : End) (items : History) → given (Ended end ∷ items) ≡ given items) (grows : (before added : History) → IsPrefixOf (given before) (given (added ++ before))) where
  front_by : (memory : Bool) (taken : List A) (items : History) → (memory ≡ false → taken ≡ given items) → (memory ≡ true → (first : History) × (added : History) × (items ≡ added ++ first) × (taken ≡ given (Ended Memory ∷ first))) → IsFront taken (given items)
  front_by false taken items exact part = record { rest = []; is = append-nil taken ∙ exact refl }
  front_by true taken items exact part =
      let p = part refl in
      let more = grows p.0 p.1 in
      record { rest = more.0; is = ap (λ (xs : List A). xs ++ more.0) (p.3 ∙ ended Memory p.0) ∙ more.1 ∙ ap given (sym p.2) }

module _ (policy : Policy) (view : SessionView) (events : List Event) (taken : Taken) (stands : StandsFor policy view events taken) where
  abbrev items : History
  items = history policy view.mode events

  -- the first items, and those that come after them
  part : {A : Type 0} (given : History → List A) (told : List A) → ((all : History) → Holds policy view all taken → told ≡ given all) → is_memory view.ended ≡ true
      → (first : History) × (added : History) × (items ≡ added ++ first) × (told ≡ given (Ended Memory ∷ first))
  part given told is e =
      let r = stands.refused e in
      let others = others_after r.0 items in
      (first_items r.0 items, others.0, others.1, is (Ended Memory ∷ first_items r.0 items) r.1.holds)

  pub bus_front : IsFront (taken.bus_side ++ view.bus_side) (bus_bytes policy (history policy view.mode events))
  bus_front =
      front_by (bus_bytes policy) (bus_ended policy) (bus_grows policy) (is_memory view.ended) (taken.bus_side ++ view.bus_side) items (λ e. (stands.holds e).for_bus)
      (part (bus_bytes policy) (taken.bus_side ++ view.bus_side) (λ all h. h.for_bus))

  pub client_front : IsFront (taken.client_side ++ view.client_side) (client_bytes policy (history policy view.mode events))
  client_front =
      front_by (client_bytes policy) (client_ended policy) (client_grows policy) (is_memory view.ended) (taken.client_side ++ view.client_side) items (λ e. (stands.holds e).for_client)
      (part (client_bytes policy) (taken.client_side ++ view.client_side) (λ all h. h.for_client))

  made_ended : (make : Bool) (end : End) (all : History) → cond make (notes policy (Ended end ∷ all)) [] ≡ cond make (notes policy all) []
  made_ended make end all = ap (λ (ns : List Note). cond make ns []) (notes_ended policy end all)

  made_grows : (make : Bool) (before added : History) → IsPrefixOf (cond make (notes policy before) []) (cond make (notes policy (added ++ before)) [])
  made_grows true before added = notes_grow policy before added
  made_grows false before added = ([], refl)

  pub notes_front : IsFront (taken.notes ++ view.notes) (notes_made view.mode policy (history policy view.mode events))
  notes_front =
      front_by (notes_made view.mode policy) (made_ended view.mode.notes) (made_grows view.mode.notes) (is_memory view.ended) (taken.notes ++ view.notes) items (λ e. (stands.holds e).noted)
      (part (notes_made view.mode policy) (taken.notes ++ view.notes) (λ all h. h.noted))

  given_grow : (watches : Bool) (before added : History) → IsPrefixOf (elements_given watches policy before) (elements_given watches policy (added ++ before))
  given_grow true before added = elements_grow policy before added
  given_grow false before added = ([], refl)

  pub visible_front : IsFront (taken.visible ++ view.visible) (elements_given view.watches policy (history policy view.mode events))
  visible_front =
      front_by (elements_given view.watches policy) (elements_ended view.watches policy) (given_grow view.watches) (is_memory view.ended) (taken.visible ++ view.visible) items (λ e. (stands.holds e).watched)
      (part (elements_given view.watches policy) (taken.visible ++ view.visible) (λ all h. h.watched))
