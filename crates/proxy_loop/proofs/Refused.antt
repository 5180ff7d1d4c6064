-- What a session holds of a journal when memory was refused to it: the first items of its history.
use Rattle.std.proofs.Common.{ℕ, suc, ◌≡◌, ◌≤◌, ◌⊎◌, Bool, true, List, [], ◌∷◌, ◌++◌, Option, Some, None, refl, ap, ◌∙◌, sym, append-nil, arith, length, length-append, inl, inr, if◌then◌else◌}
use Rattle.link_traits.specs.Journals.{Journal, written}
use Rattle.link_traits.specs.Answers.{client_link, bus_link}
use Rattle.policy_args.specs.Policy.{Policy}
use Rattle.policy_view.specs.declared.End.{End}
use Rattle.policy_view.specs.declared.End.TheVariants.{Memory}
use Rattle.policy_view.specs.History.{Event, first_items, history, end_of}
use Rattle.policy_view.specs.Notes.{Note, notes}
use Rattle.policy_view.specs.Outputs.{bus_bytes, client_bytes}
use Rattle.policy_view.specs.Past.{Ended, History}
use Rattle.policy_view.proofs.Growth.{IsGrown}
use Rattle.proxy_core.specs.Sessions.{SessionView, StandsFor, is_memory}
use Rattle.proxy_core.proofs.Fronts.{bus_ended, client_ended, notes_ended}
use Rattle.proxy_loop.specs.Sessions.{events_of, taken_of, IsWithStop}
use Rattle.proxy_loop.proofs.Prefixes.{IsSameButEnd, base_of, common, longer, same_first}

-- what is given leaves out an End
pub given_without_end : {A : Type 0} (given : History → List A) → ((end : End) (items : History) → given (Ended end ∷ items) ≡ given items) → (before now : History) → IsSameButEnd before now → given now ≡ given before
given_without_end given ended before now (inl e) = ap given e
given_without_end given ended before now (inr (end, e)) = ap given e ∙ ended end before

-- a history that has no End is part of what is the same but for one
open_within : (before base now : History) → IsGrown before now → end_of before ≡ None → IsSameButEnd base now → length before ≤ length base
open_within before base now (added, e) runs (inl same) = omega (arith, ap length e, ap length same, length-append added before)
open_within before base now ([], e) runs (inr (end, same)) = absurd (let has : Some end ≡ None = ap end_of (sym same ∙ e) ∙ runs in cc)
open_within before base now (item ∷ added, e) runs (inr (end, same)) =
    let longer : suc (length base) ≡ suc (length (added ++ before)) = ap length (sym same ∙ e) in
    omega (arith, longer, length-append added before)

-- The first `done` items of the journal's history give what was written and then waits, and the notes that were taken
-- and those that wait.
pub record HeldFirst (policy : Policy) (n : ℕ) (session : SessionView) (journal : Journal) (told : List Note) (least : ℕ) : Type 0 where
  pub done : ℕ
  pub before : least ≤ done
  pub within : done ≤ length (history policy session.mode (events_of n journal))
  pub bus : written (bus_link n) journal ++ session.bus_side ≡ bus_bytes policy (first_items done (history policy session.mode (events_of n journal)))
  pub client : written (client_link n) journal ++ session.client_side ≡ client_bytes policy (first_items done (history policy session.mode (events_of n journal)))
  pub noted : session.mode.notes ≡ true → told ++ session.notes ≡ notes policy (first_items done (history policy session.mode (events_of n journal)))

pub held_first : (policy : Policy) (n : ℕ) (session : SessionView) (journal : Journal) (put : Bool) (events : List Event) (told : List Note) (before : History) → IsWithStop put events (events_of n journal)
    → IsGrown before (history policy session.mode events) → end_of before ≡ None → StandsFor policy session events (record (taken_of n told journal) { held = length before }) → is_memory session.ended ≡ true
    → HeldFirst policy n session journal told (length before)
held_first policy n session journal put events told before stop grown runs stands memory =
    let r = stands.refused memory in
    let base = base_of policy session.mode put events (events_of n journal) stop in
    let small = open_within before base.0 (history policy session.mode events) grown runs base.1 in
    let c = common base.0 (history policy session.mode events) r.0 (length before) small r.1.before r.1.within base.1 in
    let now : History = history policy session.mode (events_of n journal) in
    let first : History = first_items r.0 (history policy session.mode events) in
    let same : first_items c.count now ≡ first_items c.count base.0 = same_first c.count base.0 now c.within base.2 in
    record {
      done = c.count;
      before = c.before;
      within = omega (arith, c.within, longer base.0 now base.2);
      bus = r.1.holds.for_bus ∙ bus_ended policy Memory first ∙ given_without_end (bus_bytes policy) (bus_ended policy) (first_items c.count base.0) first c.is ∙ ap (bus_bytes policy) (sym same);
      client = r.1.holds.for_client ∙ client_ended policy Memory first ∙ given_without_end (client_bytes policy) (client_ended policy) (first_items c.count base.0) first c.is ∙ ap (client_bytes policy) (sym same);
      noted = λ k. r.1.holds.noted ∙ ap (λ (b : Bool). if b then notes policy (Ended Memory ∷ first) else []) k ∙ notes_ended policy Memory first
          ∙ given_without_end (notes policy) (notes_ended policy) (first_items c.count base.0) first c.is ∙ ap (notes policy) (sym same);
    }
