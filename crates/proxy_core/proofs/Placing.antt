-- What takes an item's place in a history that runs.
use Rattle.std.proofs.Common.{ℕ, ◌≡◌, ◌+◌, nat_le, true, false, cond, flat_map, List, [], ◌∷◌, ◌++◌, length, Bool, Option, None, refl, ap, ◌∙◌, sym, subst, append-nil}
use Rattle.std.specs.Prelude.{IsTrue}
use Rattle.policy_args.specs.Policy.{Policy}
use Rattle.policy_view.specs.Sent.{Past}
use Rattle.policy_view.specs.Past.{Item, Ended, History, past, due}
use Rattle.policy_view.specs.History.{end_of, followed_by, followed_unless, placed, most_sent}
use Rattle.policy_view.specs.Elements.{given_of}
use Rattle.policy_view.specs.Notes.{numbered, notes_made}
use Rattle.policy_view.specs.Visible.{visible_of}
use Rattle.policy_view.specs.declared.visible.Visible.{Visible as Element}
use Rattle.policy_view.proofs.ElementLaws.{elements_step}
use Rattle.reply_ledger.specs.Ledger.{Ledger}
use Rattle.unique_names.specs.Taught.{Ids}
use Rattle.verdicts.specs.Kept.{StandFor}
use Rattle.policy_view.specs.Outputs.{bus_bytes, client_bytes, to_bus, to_client}
use Rattle.policy_view.specs.declared.End.{End}
use Rattle.policy_view.specs.declared.End.TheVariants.{SerialsSpent}
use Rattle.proxy_core.specs.Sessions.{SessionView, Taken, Holds, Knows, elements_given}
use Rattle.proxy_core.specs.Messages.{ended_by, if_watched}

pub followed : (policy : Policy) (items : History) (item : Item) → end_of items ≡ None → followed_by policy items item ≡ placed policy (past policy items) item ∷ items
unfolding followed_by
followed policy items item e = ap (λ (o : Option End). followed_unless o policy items item) e

pub placed_itself : (policy : Policy) (before : Past) (item : Item) →
    nat_le (length before.told.sent + length (due policy before item)) most_sent ≡ true → placed policy before item ≡ item
unfolding placed
placed_itself policy before item r = ap (λ (c : Bool). cond c item (Ended SerialsSpent)) r

pub placed_spent : (policy : Policy) (before : Past) (item : Item) →
    nat_le (length before.told.sent + length (due policy before item)) most_sent ≡ false → placed policy before item ≡ Ended SerialsSpent
unfolding placed
placed_spent policy before item r = ap (λ (c : Bool). cond c item (Ended SerialsSpent)) r

-- what a session holds of a history, without its notes and its elements
pub record HoldsSides (policy : Policy) (view : SessionView) (items : History) (taken : Taken) : Type 0 where
  pub for_bus : taken.bus_side ++ view.bus_side ≡ bus_bytes policy items
  pub for_client : taken.client_side ++ view.client_side ≡ client_bytes policy items
  pub end_is : view.ended ≡ end_of items
  pub knows : view.ended ≡ None → Knows policy view (past policy items)

-- and without its elements
pub record HoldsNotes (policy : Policy) (view : SessionView) (items : History) (taken : Taken) : Type 0 where
  pub for_bus : taken.bus_side ++ view.bus_side ≡ bus_bytes policy items
  pub for_client : taken.client_side ++ view.client_side ≡ client_bytes policy items
  pub end_is : view.ended ≡ end_of items
  pub noted : taken.notes ++ view.notes ≡ notes_made view.mode policy items
  pub count : IsTrue view.mode.notes → view.numbered ≡ (numbered policy items).1
  pub knows : view.ended ≡ None → Knows policy view (past policy items)

-- what is known rests on what was sent, what is known of names, and the ledger
pub knows_still : (policy : Policy) (view new : SessionView) (before : Past) → new.sent ≡ view.sent → new.greeted ≡ view.greeted → new.ids ≡ view.ids → new.ledger ≡ view.ledger → Knows policy view before → Knows policy new before
knows_still policy view new before sent greeted ids ledger k = record {
  count = sent ∙ k.count;
  fits = k.fits;
  greeted = greeted ∙ k.greeted;
  stand = subst (λ (known : Ids). StandFor policy known new.ledger before) (sym ids) (subst (λ (l : Ledger). StandFor policy view.ids l before) (sym ledger) k.stand);
}

pub sides_of : (policy : Policy) (view : SessionView) (items : History) (taken : Taken) → Holds policy view items taken → HoldsSides policy view items taken
sides_of policy view items taken h = record { for_bus = h.for_bus; for_client = h.for_client; end_is = h.end_is; knows = h.knows }

-- ---- the elements of one item more

pub given_more : (watches : Bool) (policy : Policy) (items : History) (item : Item) → elements_given watches policy items ++ if_watched watches (flat_map given_of (visible_of policy (past policy items) item)) ≡ elements_given watches policy (item ∷ items)
given_more true policy items item = sym (elements_step policy items item)
given_more false policy items item = refl

-- if it has none
pub given_none : (watches : Bool) (policy : Policy) (items : History) (item : Item) → flat_map given_of (visible_of policy (past policy items) item) ≡ [] → elements_given watches policy items ≡ elements_given watches policy (item ∷ items)
given_none watches policy items item none =
    sym (append-nil (elements_given watches policy items)) ∙ ap (λ (es : List Element). elements_given watches policy items ++ es) (sym (none_watched watches none)) ∙ given_more watches policy items item
  where
    none_watched : (w : Bool) {es : List Element} → es ≡ [] → if_watched w es ≡ []
    none_watched true e = e
    none_watched false e = refl

-- an End follows, and nothing more waits
pub ended_sides : (policy : Policy) (view origin : SessionView) (items : History) (taken : Taken) (end : End) → origin.bus_side ≡ view.bus_side → origin.client_side ≡ view.client_side →
    HoldsSides policy view items taken → HoldsSides policy (ended_by end origin) (Ended end ∷ items) taken
unfolding bus_bytes client_bytes to_bus to_client
ended_sides policy view origin items taken end bus client h = record {
  for_bus = ap (λ (w : List ℕ). taken.bus_side ++ w) bus ∙ h.for_bus ∙ sym (append-nil (bus_bytes policy items));
  for_client = ap (λ (w : List ℕ). taken.client_side ++ w) client ∙ h.for_client ∙ sym (append-nil (client_bytes policy items));
  end_is = refl;
  knows = λ e. cc;
}

pub ended_holds : (policy : Policy) (view : SessionView) (items : History) (taken : Taken) (end : End) →
    Holds policy view items taken → Holds policy (ended_by end view) (Ended end ∷ items) taken
unfolding numbered visible_of
ended_holds policy view items taken end h =
    let sides = ended_sides policy view view items taken end refl refl (sides_of policy view items taken h) in
    record {
      for_bus = sides.for_bus;
      for_client = sides.for_client;
      end_is = sides.end_is;
      noted = h.noted;
      count = h.count;
      watched = h.watched ∙ given_none view.watches policy items (Ended end) refl;
      knows = sides.knows;
    }
