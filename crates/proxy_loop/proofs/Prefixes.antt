-- What was taken of a session is a prefix of what the journal's events give.
use Rattle.std.proofs.Common.{ℕ, suc, ◌≡◌, ◌≤◌, ◌⊎◌, Bool, true, false, if◌then◌else◌, List, [], ◌∷◌, ◌++◌, Option, Some, None, refl, ap, ◌∙◌, sym, subst, append-nil, append_assoc, arith, inl, inr}
use Rattle.std.proofs.lemmas.Bool.Decides.{nat_tests}
use Rattle.std.specs.List.{list_all}
use Rattle.std.specs.Prelude.{nat_le, length, ◌+◌}
use Rattle.link_traits.specs.Journals.{Journal, written}
use Rattle.link_traits.specs.Answers.{client_link, bus_link}
use Rattle.policy_args.specs.Policy.{Policy}
use Rattle.policy_view.specs.declared.End.{End}
use Rattle.policy_view.specs.declared.End.TheVariants.{SerialsSpent, LogFault}
use Rattle.policy_view.specs.declared.Mode.{Mode}
use Rattle.policy_view.specs.History.{Event, Bytes, Finished, Stopped, first_items, history, arrived, followed_by, followed_by_all, followed_unless, placed, end_of, most_sent}
use Rattle.policy_view.specs.Outputs.{bus_bytes, client_bytes}
use Rattle.policy_view.specs.Past.{Ended, History, past, due}
use Rattle.policy_view.proofs.Growth.{first_all, first_of_more}
use Rattle.policy_view.proofs.PastLaws.{ended_is_final}
use Rattle.proxy_core.specs.Sessions.{SessionView, IsFront, is_memory}
use Rattle.proxy_core.proofs.Fronts.{bus_ended, bus_front, client_ended, client_front}
use Rattle.proxy_loop.specs.Sessions.{Holds, events_of, taken_of, IsWithStop, is_stop}

front_then : {A : Type 0} (xs ys zs : List A) → IsFront xs ys → IsFront ys zs → IsFront xs zs
front_then xs ys zs a b = record { rest = a.rest ++ b.rest; is = sym (append_assoc xs a.rest b.rest) ∙ ap (λ l. l ++ b.rest) a.is ∙ b.is }

-- a stop ends a history
module _ (policy : Policy) (mode : Mode) where
  placed_end : (room : Bool) (end : End) (items : History) → (e : End) × (end_of ((if room then Ended end else Ended SerialsSpent) ∷ items) ≡ Some e)
  placed_end true end items = (end, refl)
  placed_end false end items = (SerialsSpent, refl)

  stop_ends : (last : Option End) (end : End) (items : History) → end_of items ≡ last → (e : End) × (end_of (followed_unless last policy items (Ended end)) ≡ Some e)
  unfolding placed
  stop_ends (Some e) end items h = (e, h)
  stop_ends None end items h = placed_end (nat_le (length (past policy items).told.sent + length (due policy (past policy items) (Ended end))) most_sent) end items

  stopped_end : (earlier : List Event) (end : End) → (e : End) × (end_of (history policy mode (Stopped end ∷ earlier)) ≡ Some e)
  unfolding history arrived followed_by_all followed_by
  stopped_end earlier end = stop_ends (end_of (history policy mode earlier)) end (history policy mode earlier) refl

  after_stop : (later earlier : List Event) (end : End) → history policy mode (later ++ Stopped end ∷ earlier) ≡ history policy mode (Stopped end ∷ earlier)
  after_stop [] earlier end = refl
  after_stop (event ∷ later) earlier end =
      let rest : history policy mode (later ++ Stopped end ∷ earlier) ≡ history policy mode (Stopped end ∷ earlier) = after_stop later earlier end in
      let over = stopped_end earlier end in
      ended_is_final policy mode (later ++ Stopped end ∷ earlier) event over.0 (ap end_of rest ∙ over.1) ∙ rest

-- ---- the first items, whether or not a stop was put in

-- the same items, with an End after them or none
abbrev pub IsSameButEnd : History → History → Type 0
IsSameButEnd before now = (now ≡ before) ⊎ ((end : End) × (now ≡ Ended end ∷ before))

module _ (policy : Policy) (mode : Mode) where
  end_or_none : (last : Option End) (end : End) (items : History) → IsSameButEnd items (followed_unless last policy items (Ended end))
  unfolding placed
  end_or_none (Some e) end items = inl refl
  end_or_none None end items = by (nat_le (length (past policy items).told.sent + length (due policy (past policy items) (Ended end))) most_sent)
    where
      by : (room : Bool) → IsSameButEnd items ((if room then Ended end else Ended SerialsSpent) ∷ items)
      by true = inr (end, refl)
      by false = inr (SerialsSpent, refl)

  one_stop : (earlier : List Event) (end : End) → IsSameButEnd (history policy mode earlier) (history policy mode (Stopped end ∷ earlier))
  unfolding history arrived followed_by_all followed_by
  one_stop earlier end = end_or_none (end_of (history policy mode earlier)) end (history policy mode earlier)

  pub stops_end : (later earlier : List Event) → list_all is_stop later ≡ true → IsSameButEnd (history policy mode earlier) (history policy mode (later ++ earlier))
  stops_end [] earlier h = inl refl
  stops_end (Stopped end ∷ later) earlier h = by (stops_end later earlier h)
    where
      by : IsSameButEnd (history policy mode earlier) (history policy mode (later ++ earlier)) → IsSameButEnd (history policy mode earlier) (history policy mode (Stopped end ∷ later ++ earlier))
      by (inl same) = subst (λ (h : History). IsSameButEnd h (history policy mode (Stopped end ∷ later ++ earlier))) same (one_stop (later ++ earlier) end)
      by (inr (e, is)) = inr (e, ended_is_final policy mode (later ++ earlier) (Stopped end) e (ap end_of is) ∙ is)
  stops_end (Bytes side piece ∷ later) earlier h = cc
  stops_end (Finished side ∷ later) earlier h = cc

  -- what was recorded, and what the journal tells
  pub base_of : (put : Bool) (events told : List Event) → IsWithStop put events told → (items : History) × IsSameButEnd items (history policy mode events) × IsSameButEnd items (history policy mode told)
  base_of false events told e = (history policy mode events, inl refl, inl (ap (history policy mode) (sym e)))
  base_of true events told s = (
    history policy mode s.1,
    subst (λ (es : List Event). IsSameButEnd (history policy mode s.1) (history policy mode es)) (sym s.3)
        (subst (λ (h : History). IsSameButEnd (history policy mode s.1) h) (sym (after_stop policy mode s.0 s.1 LogFault)) (one_stop s.1 LogFault)),
    subst (λ (es : List Event). IsSameButEnd (history policy mode s.1) (history policy mode es)) (sym s.2) (stops_end s.0 s.1 s.4),
  )

pub longer : (base now : History) → IsSameButEnd base now → length base ≤ length now
longer base now (inl e) = omega (arith, ap length e)
longer base now (inr (end, e)) = omega (arith, ap length e)

pub same_first : (n : ℕ) (base now : History) → n ≤ length base → IsSameButEnd base now → first_items n now ≡ first_items n base
same_first n base now le (inl e) = ap (first_items n) e
same_first n base now le (inr (end, e)) = ap (first_items n) e ∙ first_of_more n (Ended end ∷ []) base le

-- a number of items that both have
pub record Common (base now : History) (done least : ℕ) : Type 0 where
  pub count : ℕ
  pub before : least ≤ count
  pub within : count ≤ length base
  pub is : IsSameButEnd (first_items count base) (first_items done now)

pub common : (base now : History) (done least : ℕ) → least ≤ length base → least ≤ done → done ≤ length now → IsSameButEnd base now → Common base now done least
common base now done least small le within (inl e) = record {
  count = done;
  before = le;
  within = omega (arith, within, ap length e);
  is = inl (ap (first_items done) e);
}
common base now done least small le within (inr (end, e)) = by (nat_le done (length base)) refl
  where
    len : length now ≡ suc (length base)
    len = ap length e

    by : (b : Bool) → nat_le done (length base) ≡ b → Common base now done least
    by true fits =
        let short : done ≤ length base = grind (arith, nat_tests, fits) in
        record { count = done; before = le; within = short; is = inl (same_first done base now short (inr (end, e))) }
    by false over =
        let all : done ≡ suc (length base) = grind (arith, nat_tests, over, within, len) in
        record {
          count = length base;
          before = small;
          within = omega arith;
          is = inr (
            end,
            ap (λ (k : ℕ). first_items k now) (all ∙ sym len) ∙ whole now ∙ e ∙ ap (λ (h : History). Ended end ∷ h) (sym (whole base)),
          );
        }
      where
        whole : (h : History) → first_items (length h) h ≡ h
        whole h = first_all [] h

-- what a history gives, which an End leaves as it is
module _ {A : Type 0} (policy : Policy) (mode : Mode) (given : History → List A)
    (ended : (end : End) (items : History) → given (Ended end ∷ items) ≡ given items) where
  placed_given : (room : Bool) (end : End) (items : History) → given ((if room then Ended end else Ended SerialsSpent) ∷ items) ≡ given items
  placed_given true end items = ended end items
  placed_given false end items = ended SerialsSpent items

  stop_given : (last : Option End) (end : End) (items : History) → given (followed_unless last policy items (Ended end)) ≡ given items
  unfolding placed
  stop_given (Some e) end items = refl
  stop_given None end items = placed_given (nat_le (length (past policy items).told.sent + length (due policy (past policy items) (Ended end))) most_sent) end items

  stopped_given : (earlier : List Event) (end : End) → given (history policy mode (Stopped end ∷ earlier)) ≡ given (history policy mode earlier)
  unfolding history arrived followed_by_all followed_by
  stopped_given earlier end = stop_given (end_of (history policy mode earlier)) end (history policy mode earlier)

  pub stops_given : (later earlier : List Event) → list_all is_stop later ≡ true → given (history policy mode (later ++ earlier)) ≡ given (history policy mode earlier)
  stops_given [] earlier h = refl
  stops_given (Stopped end ∷ later) earlier h = stopped_given (later ++ earlier) end ∙ stops_given later earlier h
  stops_given (Bytes side piece ∷ later) earlier h = cc
  stops_given (Finished side ∷ later) earlier h = cc

  -- a stop that was put in changes nothing in what is given
  pub same_given : (put : Bool) (events told : List Event) → IsWithStop put events told → given (history policy mode events) ≡ given (history policy mode told)
  same_given false events told e = ap (λ (es : List Event). given (history policy mode es)) e
  same_given true events told s =
      ap (λ (es : List Event). given (history policy mode es)) s.3 ∙ ap given (after_stop policy mode s.0 s.1 LogFault) ∙ stopped_given s.1 LogFault
      ∙ sym (stops_given s.0 s.1 s.4) ∙ ap (λ (es : List Event). given (history policy mode es)) (sym s.2)

  pub taken_front : (put : Bool) (events told : List Event) (taken waits : List A) → IsWithStop put events told →
      IsFront (taken ++ waits) (given (history policy mode events)) → IsFront taken (given (history policy mode told))
  taken_front put events told taken waits s front =
      front_then taken (taken ++ waits) (given (history policy mode told)) (record { rest = waits; is = refl })
      (subst (λ (l : List A). IsFront (taken ++ waits) l) (same_given put events told s) front)

pub bus_prefix : (policy : Policy) (n : ℕ) (session : SessionView) (journal : Journal) → Holds policy n session journal →
    IsFront (written (bus_link n) journal) (bus_bytes policy (history policy session.mode (events_of n journal)))
bus_prefix policy n session journal h =
    taken_front policy session.mode (bus_bytes policy) (bus_ended policy) h.put h.events (events_of n journal)
    (written (bus_link n) journal) session.bus_side h.told (bus_front policy session h.events (taken_of n h.notes journal) h.stands)

pub client_prefix : (policy : Policy) (n : ℕ) (session : SessionView) (journal : Journal) → Holds policy n session journal →
    IsFront (written (client_link n) journal) (client_bytes policy (history policy session.mode (events_of n journal)))
client_prefix policy n session journal h =
    taken_front policy session.mode (client_bytes policy) (client_ended policy) h.put h.events (events_of n journal)
    (written (client_link n) journal) session.client_side h.told (client_front policy session h.events (taken_of n h.notes journal) h.stands)

-- what was written to a link, and what waits for it, is all that the history of the journal's events gives
pub bus_exact : (policy : Policy) (n : ℕ) (session : SessionView) (journal : Journal) → is_memory session.ended ≡ false → Holds policy n session journal →
    written (bus_link n) journal ++ session.bus_side ≡ bus_bytes policy (history policy session.mode (events_of n journal))
bus_exact policy n session journal e h =
    (h.stands.holds e).for_bus
    ∙ same_given policy session.mode (bus_bytes policy) (bus_ended policy) h.put h.events (events_of n journal) h.told

pub client_exact : (policy : Policy) (n : ℕ) (session : SessionView) (journal : Journal) → is_memory session.ended ≡ false → Holds policy n session journal →
    written (client_link n) journal ++ session.client_side ≡ client_bytes policy (history policy session.mode (events_of n journal))
client_exact policy n session journal e h =
    (h.stands.holds e).for_client
    ∙ same_given policy session.mode (client_bytes policy) (client_ended policy) h.put h.events (events_of n journal) h.told
