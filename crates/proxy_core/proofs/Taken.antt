-- What is taken of what waits for either side.
use Rattle.std.proofs.Common.{ℕ, ◌≡◌, ◌≤◌, List, [], ◌∷◌, ◌++◌, length, take, drop, refl, ap, ◌∙◌, sym, subst, append_assoc}
use Rattle.std.proofs.lemmas.List.{take-append-drop}
use Rattle.policy_args.specs.Policy.{Policy}
use Rattle.policy_view.specs.History.{Event, first_items, history}
use Rattle.policy_view.specs.Notes.{Note}
use Rattle.policy_view.specs.Past.{Ended, History}
use Rattle.policy_view.specs.declared.End.TheVariants.{Memory}
use Rattle.policy_view.specs.declared.Mode.{Mode}
use Rattle.policy_view.specs.declared.Side.{Side}
use Rattle.policy_view.specs.declared.Side.TheVariants.{Client, Bus}
use Rattle.policy_view.specs.declared.visible.Visible.{Visible as Element}
use Rattle.proxy_core.specs.Sessions.{SessionView, Taken, Holds, HoldsFirst, StandsFor, FollowsStream, is_memory}
use Rattle.proxy_core.specs.Streams.{StreamView}
use Rattle.proxy_core.proofs.Placing.{knows_still}

-- what was taken, and then what is taken, and then the rest
taken_on : {A : Type 0} (before first rest waits : List A) → first ++ rest ≡ waits → (before ++ first) ++ rest ≡ before ++ waits
taken_on before first rest waits e = append_assoc before first rest ∙ ap (λ (w : List _). before ++ w) e

-- a session keeps what it holds of any history
abbrev Keeps : Policy → SessionView → SessionView → Taken → Taken → Type 0
Keeps policy view new taken now = (items : History) → Holds policy view items taken → Holds policy new items now

still_stands : (policy : Policy) (view new : SessionView) (events : List Event) (taken now : Taken) → new.mode ≡ view.mode → new.ended ≡ view.ended → new.client ≡ view.client → new.bus ≡ view.bus → now.held ≡ taken.held
    → Keeps policy view new taken now → StandsFor policy view events taken → StandsFor policy new events now
still_stands policy view new events taken now mode ended client bus held keeps stands = record {
  holds = λ e. subst (λ (m : Mode). Holds policy new (history policy m events) now) (sym mode) (keeps (history policy view.mode events) (stands.holds (ap is_memory (sym ended) ∙ e)));
  refused = λ e.
      let r = stands.refused (ap is_memory (sym ended) ∙ e) in
      (r.0, subst (λ (m : Mode). HoldsFirst policy new (history policy m events) now r.0) (sym mode) (record { before = subst (λ (k : ℕ). k ≤ r.0) (sym held) r.1.before; within = r.1.within; holds = keeps (Ended Memory ∷ first_items r.0 (history policy view.mode events)) r.1.holds }));
  held = subst (λ (m : Mode). now.held ≤ length (history policy m events)) (sym mode) (subst (λ (k : ℕ). k ≤ length (history policy view.mode events)) (sym held) stands.held);
  follows = λ e.
      let f = stands.follows (sym ended ∙ e) in
      record { client = follows_as Client mode client f.client; bus = follows_as Bus mode bus f.bus };
}
  where
    follows_as : (side : Side) {m n : Mode} {s t : StreamView} → m ≡ n → s ≡ t → FollowsStream n side events t → FollowsStream m side events s
    follows_as side {m = m} {t = t} mode same f = subst (λ (s : StreamView). FollowsStream m side events s) (sym same) (subst (λ (n : Mode). FollowsStream n side events t) (sym mode) f)

module _ (policy : Policy) (view : SessionView) (events : List Event) (taken : Taken) (stands : StandsFor policy view events taken) where
  pub took_bus : (n : ℕ) → StandsFor policy (record view { bus_side = drop n view.bus_side }) events (record taken { bus_side = taken.bus_side ++ take n view.bus_side })
  took_bus n =
      still_stands policy view (record view { bus_side = drop n view.bus_side }) events taken (record taken { bus_side = taken.bus_side ++ take n view.bus_side }) refl refl refl refl refl
      (λ items h. record {
        for_bus = taken_on taken.bus_side (take n view.bus_side) (drop n view.bus_side) view.bus_side (take-append-drop n view.bus_side) ∙ h.for_bus;
        for_client = h.for_client;
        end_is = h.end_is;
        noted = h.noted;
        count = h.count;
        watched = h.watched;
        knows = λ r. knows_still policy view _ _ refl refl refl refl (h.knows r);
      }) stands

  pub took_client : (n : ℕ) → StandsFor policy (record view { client_side = drop n view.client_side }) events (record taken { client_side = taken.client_side ++ take n view.client_side })
  took_client n =
      still_stands policy view (record view { client_side = drop n view.client_side }) events taken (record taken { client_side = taken.client_side ++ take n view.client_side }) refl refl refl refl refl
      (λ items h. record {
        for_bus = h.for_bus;
        for_client = taken_on taken.client_side (take n view.client_side) (drop n view.client_side) view.client_side (take-append-drop n view.client_side) ∙ h.for_client;
        end_is = h.end_is;
        noted = h.noted;
        count = h.count;
        watched = h.watched;
        knows = λ r. knows_still policy view _ _ refl refl refl refl (h.knows r);
      }) stands

  -- the first of the notes
  pub took_note : (note : Note) (rest : List Note) → view.notes ≡ note ∷ rest → StandsFor policy (record view { notes = rest }) events (record taken { notes = taken.notes ++ note ∷ [] })
  took_note note rest is =
      still_stands policy view (record view { notes = rest }) events taken (record taken { notes = taken.notes ++ note ∷ [] }) refl refl refl refl refl
      (λ items h. record {
        for_bus = h.for_bus;
        for_client = h.for_client;
        end_is = h.end_is;
        noted = taken_on taken.notes (note ∷ []) rest view.notes (sym is) ∙ h.noted;
        count = h.count;
        watched = h.watched;
        knows = λ r. knows_still policy view _ _ refl refl refl refl (h.knows r);
      }) stands

  -- and of the elements
  pub took_element : (element : Element) (rest : List Element) → view.visible ≡ element ∷ rest → StandsFor policy (record view { visible = rest }) events (record taken { visible = taken.visible ++ element ∷ [] })
  took_element element rest is =
      still_stands policy view (record view { visible = rest }) events taken (record taken { visible = taken.visible ++ element ∷ [] }) refl refl refl refl refl
      (λ items h. record {
        for_bus = h.for_bus;
        for_client = h.for_client;
        end_is = h.end_is;
        noted = h.noted;
        count = h.count;
        watched = taken_on taken.visible (element ∷ []) rest view.visible (sym is) ∙ h.watched;
        knows = λ r. knows_still policy view _ _ refl refl refl refl (h.knows r);
      }) stands
