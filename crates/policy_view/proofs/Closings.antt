-- Laws of the event at which the history of events gets its End: before it there is no End, and after it the End stays.
use Rattle.std.proofs.Common.{ℕ, ◌≡◌, ◌+◌, ◌≤◌, ◌<◌, List, [], ◌∷◌, ◌++◌, length, Option, Some, None, refl, ap, ◌∙◌, sym, subst, arith, length-append}
use Rattle.policy_args.specs.Policy.{Policy}
use Rattle.policy_view.specs.History.{Event, history, end_of}
use Rattle.policy_view.specs.declared.End.{End}
use Rattle.policy_view.specs.declared.Mode.{Mode}
use Rattle.policy_view.proofs.PastLaws.{ended_is_final}
use Rattle.policy_view.specs.Closings.{closed_by, closing, ClosesFirst}

-- the parts of two equal pairs
abbrev end_in : End → Option (End × ℕ) → End
end_in other None = other
end_in other (Some x) = x.0

abbrev number_in : Option (End × ℕ) → ℕ
number_in None = 0
number_in (Some x) = x.1

same_end : (a b : End) (n m : ℕ) → ◌≡◌ {A = Option (End × ℕ)} (Some (a, n)) (Some (b, m)) → a ≡ b
same_end a b n m e = ap (end_in a) e

same_number : (a b : End) (n m : ℕ) → ◌≡◌ {A = Option (End × ℕ)} (Some (a, n)) (Some (b, m)) → n ≡ m
same_number a b n m e = ap number_in e

module _ (policy : Policy) (mode : Mode) where
  abbrev ends : List Event → Option End
  ends events = end_of (history policy mode events)

  -- ---- the End of a history

  end_stays : (event : Event) (events : List Event) (end : End) → ends events ≡ Some end → ends (event ∷ events) ≡ Some end
  end_stays event events end e = ap end_of (ended_is_final policy mode events event end e) ∙ e

  open_before : (event : Event) (events : List Event) → ends (event ∷ events) ≡ None → ends events ≡ None
  open_before event events e = by (ends events) refl
    where
      by : (o : Option End) → ends events ≡ o → ends events ≡ None
      by None is = is
      by (Some end) is = let some : Some end ≡ None = sym (end_stays event events end is) ∙ e in cc

  -- ---- an open history has no closing

  pub open_has_none : (events : List Event) → end_of (history policy mode events) ≡ None → closing policy mode events ≡ None
  unfolding closing
  open_has_none [] e = refl
  open_has_none (event ∷ events) e =
      ap (λ (o : Option (End × ℕ)). closed_by o (ends (event ∷ events)) (length events + 1)) (open_has_none events (open_before event events e))
      ∙ ap (λ (o : Option End). closed_by None o (length events + 1)) e

  none_closed : (o : Option (End × ℕ)) (now : Option End) (n : ℕ) → closed_by o now n ≡ None → now ≡ None
  none_closed (Some first) now n e = cc
  none_closed None None n e = refl
  none_closed None (Some end) n e = cc

  -- and a history with none is open
  pub none_is_open : (events : List Event) → closing policy mode events ≡ None → end_of (history policy mode events) ≡ None
  unfolding closing history
  none_is_open [] e = refl
  none_is_open (event ∷ events) e = none_closed (closing policy mode events) (ends (event ∷ events)) (length events + 1) e

  -- ---- the event at which an open history gets its End

  pub closes_at : (event : Event) (events : List Event) (end : End) → end_of (history policy mode events) ≡ None → end_of (history policy mode (event ∷ events)) ≡ Some end → closing policy mode (event ∷ events) ≡ Some (end, length events + 1)
  unfolding closing
  closes_at event events end before now =
      ap (λ (o : Option (End × ℕ)). closed_by o (ends (event ∷ events)) (length events + 1)) (open_has_none events before)
      ∙ ap (λ (o : Option End). closed_by None o (length events + 1)) now

  -- ---- a closing stays

  pub closing_stays : (event : Event) (events : List Event) (x : End × ℕ) → closing policy mode events ≡ Some x → closing policy mode (event ∷ events) ≡ Some x
  unfolding closing
  closing_stays event events x e = ap (λ (o : Option (End × ℕ)). closed_by o (ends (event ∷ events)) (length events + 1)) e

  -- whatever comes later
  pub closing_stays_on : (later events : List Event) (x : End × ℕ) → closing policy mode events ≡ Some x → closing policy mode (later ++ events) ≡ Some x
  closing_stays_on [] events x e = e
  closing_stays_on (event ∷ later) events x e = closing_stays event (later ++ events) x (closing_stays_on later events x e)

  -- ---- a closing is the history's End, at one of its events

  record IsOf (events : List Event) (end : End) (n : ℕ) : Type 0 where
    pub ended : end_of (history policy mode events) ≡ Some end
    pub first : 1 ≤ n
    pub last : n ≤ length events

  one_more : (event : Event) (events : List Event) (end : End) (n : ℕ) → IsOf events end n → IsOf (event ∷ events) end n
  one_more event events end n is = record { ended = end_stays event events end is.ended; first = is.first; last = let l = is.last in omega (arith, l) }

  closing_of : (events : List Event) (end : End) (n : ℕ) → closing policy mode events ≡ Some (end, n) → IsOf events end n
  unfolding closing
  closing_of [] end n e = let none : ◌≡◌ {A = Option (End × ℕ)} None (Some (end, n)) = e in cc
  closing_of (event ∷ events) end n e = by (closing policy mode events) (ends (event ∷ events)) refl refl (closing_of events end n) e
    where
      by : (o : Option (End × ℕ)) (now : Option End) → closing policy mode events ≡ o → ends (event ∷ events) ≡ now → (closing policy mode events ≡ Some (end, n) → IsOf events end n) →
          closed_by o now (length events + 1) ≡ Some (end, n) → IsOf (event ∷ events) end n
      by (Some x) now was is before e = one_more event events end n (before (was ∙ e))
      by None None was is before e = let none : ◌≡◌ {A = Option (End × ℕ)} None (Some (end, n)) = e in cc
      by None (Some here) was is before e =
          let same : here ≡ end = same_end here end (length events + 1) n e in
          let place : length events + 1 ≡ n = same_number here end (length events + 1) n e in
          record { ended = is ∙ ap Some same; first = omega (arith, place); last = omega (arith, place) }

  pub closing_end : (events : List Event) (end : End) (n : ℕ) → closing policy mode events ≡ Some (end, n) → end_of (history policy mode events) ≡ Some end
  closing_end events end n e = (closing_of events end n e).ended

  pub closing_first : (events : List Event) (end : End) (n : ℕ) → closing policy mode events ≡ Some (end, n) → 1 ≤ n
  closing_first events end n e = (closing_of events end n e).first

  pub closing_last : (events : List Event) (end : End) (n : ℕ) → closing policy mode events ≡ Some (end, n) → n ≤ length events
  closing_last events end n e = (closing_of events end n e).last

  -- a history with an End has a closing
  pub there_is_closing : (events : List Event) (end : End) → end_of (history policy mode events) ≡ Some end → (n : ℕ) × (closing policy mode events ≡ Some (end, n))
  there_is_closing events end e = by (closing policy mode events) refl
    where
      by : (o : Option (End × ℕ)) → closing policy mode events ≡ o → (n : ℕ) × (closing policy mode events ≡ Some (end, n))
      by None is = let none : None ≡ Some end = sym (none_is_open events is) ∙ e in absurd cc
      by (Some x) is =
          let both : Some x.0 ≡ Some end = sym (closing_end events x.0 x.1 is) ∙ e in
          let same : x.0 ≡ end = cc in
          (x.1, is ∙ ap (λ (y : End). Some (y, x.1)) same)

  -- events that were open and go on close at one of the later ones
  pub closes_later : (later events : List Event) (end : End) (n : ℕ) → closing policy mode events ≡ None → closing policy mode (later ++ events) ≡ Some (end, n) → length events < n
  unfolding closing
  closes_later [] events end n none e = let no : ◌≡◌ {A = Option (End × ℕ)} None (Some (end, n)) = sym none ∙ e in cc
  closes_later (event ∷ later) events end n none e = by (closing policy mode (later ++ events)) (ends (event ∷ (later ++ events))) refl (closes_later later events end n none) e
    where
      by : (o : Option (End × ℕ)) (now : Option End) → closing policy mode (later ++ events) ≡ o → (closing policy mode (later ++ events) ≡ Some (end, n) → length events < n) →
          closed_by o now (length (later ++ events) + 1) ≡ Some (end, n) → length events < n
      by (Some x) now was before e = before (was ∙ e)
      by None None was before e = let no : ◌≡◌ {A = Option (End × ℕ)} None (Some (end, n)) = e in cc
      by None (Some here) was before e =
          let place : length (later ++ events) + 1 ≡ n = same_number here end (length (later ++ events) + 1) n e in
          let many : length (later ++ events) ≡ length later + length events = length-append later events in
          omega (arith, place, many)

  -- the number of a closing is that of the first event after which there is an End
  pub closes_first : (events : List Event) → ClosesFirst policy mode events
  closes_first events = record {
    none = open_has_none events;
    some = λ end e. let c = there_is_closing events end e in (c.0, c.1, closing_first events end c.0 c.1, closing_last events end c.0 c.1);
    before = λ later earlier end n is e runs. closes_later later earlier end n (open_has_none earlier runs) (subst (λ (es : List Event). closing policy mode es ≡ Some (end, n)) is e);
    after = λ later earlier end first n is e ended.
        let c = there_is_closing earlier first ended in
        let both : ◌≡◌ {A = Option (End × ℕ)} (Some (first, c.0)) (Some (end, n)) =
        sym (closing_stays_on later earlier (first, c.0) c.1) ∙ subst (λ (es : List Event). closing policy mode es ≡ Some (end, n)) is e in
        let same : c.0 ≡ n = same_number first end c.0 n both in
        let most : c.0 ≤ length earlier = closing_last earlier first c.0 c.1 in
        omega (arith, same, most);
  }
