-- The shortest of the times that are left until listeners are tried again, found one listener after the other.
use Rattle.std.proofs.Common.{ℕ, ◌≡◌, ◌+◌, ◌<◌, ◌⊎◌, zero, suc, inl, inr, nat_lt, List, [], ◌∷◌, length, slice_get, vec_len, Bool, true, false, Option, Some, None, if◌then◌else◌, unwrap_or, refl, ap, ◌∙◌, subst, sym, arith}
use Rattle.std.specs.Duration.{as_nanos}
use Rattle.std.specs.Option.{option_map}
use Rattle.std.specs.declared.time.Duration.{Duration}
use Rattle.std.specs.declared.time.Instant.{Instant}
use Rattle.std.proofs.lemmas.Bool.Decides.{nat_tests}
use Rattle.proxy_net.specs.Delays.{IsWithin, accept_left, connect_left, nanos_of, nanos_until}
use Rattle.proxy_net.specs.Sockets.{accept_left_at, is_stalled_at, left_in, IsFirstDue, IsFirstLeft, IsDelay, IsIdleTimeout}
use Rattle.proxy_net.specs.declared.listeners.ListenerSocket.{ListenerSocket}
use Rattle.proxy_net.specs.declared.sockets.SocketSet.{SocketSet}

pub none_left : {T L : Type 0} → (sockets : SocketSet T L) (now : Option Instant) → IsFirstLeft sockets now 0 None
none_left sockets now = record { by = λ place left below at. absurd (omega (arith, below)); one = λ nanos e. cc }

pub within_through : (first next : Option ℕ) (left : ℕ) → IsWithin left first → ((nanos : ℕ) → first ≡ Some nanos → IsWithin nanos next) → IsWithin left next
within_through None next left within through = absurd within
within_through (Some nanos) next left within through = by next (through nanos refl)
  where
    by : (o : Option ℕ) → IsWithin nanos o → IsWithin left o
    by None w = absurd w
    by (Some n) w = omega (arith, w, within)

-- one listener more
pub one_more_left : {T L : Type 0} → (sockets : SocketSet T L) (now : Option Instant) (place : ℕ) (first own next : Option ℕ) → IsFirstLeft sockets now place first → own ≡ accept_left_at sockets now place
    → ((nanos : ℕ) → first ≡ Some nanos → IsWithin nanos next) → ((nanos : ℕ) → own ≡ Some nanos → IsWithin nanos next) → (next ≡ first) ⊎ (next ≡ own) → IsFirstLeft sockets now (place + 1) next
one_more_left sockets now place first own next before is not_longer no_longer either = record {
  by = λ other left below at. chosen other left below at (nat_lt other place) refl;
  one = λ nanos e. elim either [
    | inl same ↦ before.one nanos (sym same ∙ e)
    | inr same ↦ (place, sym is ∙ sym same ∙ e)
  ];
}
  where
    chosen : (other left : ℕ) → other < place + 1 → accept_left_at sockets now other ≡ Some left → (less : Bool) → nat_lt other place ≡ less → IsWithin left next
    chosen other left below at true e = within_through first next left (before.by other left (grind (arith, nat_tests, e)) at) not_longer
    chosen other left below at false e =
        let same : other ≡ place = grind (arith, nat_tests, e, below) in
        no_longer left (is ∙ ap (accept_left_at sockets now) (sym same) ∙ at)

-- only at the place of a listener is something left
pub left_below : {L : Type 0} → (now : Option Instant) (listeners : List (ListenerSocket L)) (place left : ℕ) → left_in now (slice_get listeners place) ≡ Some left → place < length listeners
left_below now [] place left e = absurd (let no : None ≡ Some left = e in cc)
left_below now (listener ∷ listeners) zero left e = omega arith
left_below now (listener ∷ listeners) (suc place) left e = let below = left_below now listeners place left e in omega (arith, below)

none_within : (first : Option ℕ) → ((nanos : ℕ) → first ≡ Some nanos → IsWithin nanos None) → first ≡ None
none_within None within = refl
none_within (Some nanos) within = absurd (within nanos refl)

-- the shorter of the times until a connect and until an accept
module _ {T L : Type 0} (sockets : SocketSet T L) (due now : Option Instant) (until_connect until_accept best : Option ℕ) (is : until_connect ≡ connect_left due now) (first : IsFirstLeft sockets now (vec_len sockets.listeners) until_accept)
    (by_connect : (nanos : ℕ) → until_connect ≡ Some nanos → IsWithin nanos best) (by_accept : (nanos : ℕ) → until_accept ≡ Some nanos → IsWithin nanos best)
    (inside : (place time : ℕ) → accept_left_at sockets now place ≡ Some time → place < vec_len sockets.listeners) where
  accept_within : (place time : ℕ) → accept_left_at sockets now place ≡ Some time → IsWithin time best
  accept_within place time at = within_through until_accept best time (first.by place time (inside place time at) at) by_accept

  pub delay_is : (best ≡ until_connect) ⊎ (best ≡ until_accept) → (nanos : ℕ) → best ≡ Some nanos → IsDelay sockets due now nanos
  delay_is either nanos found = record {
    connect = λ time at. subst (λ (o : Option ℕ). IsWithin time o) found (by_connect time (is ∙ at));
    accept = λ place time at. subst (λ (o : Option ℕ). IsWithin time o) found (accept_within place time at);
    one = elim either [ inl same ↦ inl (sym is ∙ sym same ∙ found) | inr same ↦ inr (first.one nanos (sym same ∙ found)) ];
  }

  -- .. which is none
  pub neither_due : best ≡ None → due ≡ None
  neither_due none = by due (sym is ∙ none_within until_connect (λ time at. subst (λ (o : Option ℕ). IsWithin time o) none (by_connect time at)))
    where
      by : (o : Option Instant) → connect_left o now ≡ None → o ≡ None
      by None e = refl
      by (Some time) e = absurd (let no : Some (nanos_until (Some time) now) ≡ None = e in cc)

  pub none_stalled : best ≡ None → (place : ℕ) → is_stalled_at sockets place ≡ false
  none_stalled none place = by (slice_get sockets.listeners.items place) (no_left (accept_left_at sockets now place) refl)
    where
      no_left : (left : Option ℕ) → accept_left_at sockets now place ≡ left → accept_left_at sockets now place ≡ None
      no_left None e = e
      no_left (Some time) e = absurd (subst (λ (o : Option ℕ). IsWithin time o) none (accept_within place time e))

      runs : (s : ListenerSocket L) (stalled : Bool) → s.stalled ≡ stalled → accept_left now s ≡ None → s.stalled ≡ false
      runs s true e f = absurd (let no : Some (nanos_until s.due now) ≡ None = sym (ap (λ (b : Bool). if b then Some (nanos_until s.due now) else None) e) ∙ f in cc)
      runs s false e f = e

      by : (o : Option (ListenerSocket L)) → left_in now o ≡ None → unwrap_or (option_map (λ (s : ListenerSocket _). s.stalled) o) false ≡ false
      by None e = refl
      by (Some s) e = runs s s.stalled refl e

-- how long it is waited if nothing is to be named
pub idle_until : {T L : Type 0} (Shows : Option Instant → Type 0) (sockets : SocketSet T L) (due now : Option Instant) (delay : Option Duration) → Shows now → IsFirstDue sockets sockets.pending.items due
    → ((nanos : ℕ) → nanos_of delay ≡ Some nanos → IsDelay sockets due now nanos) → (delay ≡ None → due ≡ None) → (delay ≡ None → (place : ℕ) → is_stalled_at sockets place ≡ false) → IsIdleTimeout Shows sockets (nanos_of delay)
idle_until Shows sockets due now None shown first delay none stalled = (subst (λ (o : Option Instant). IsFirstDue sockets sockets.pending.items o) (none refl) first, stalled refl)
idle_until Shows sockets due now (Some duration) shown first delay none stalled = (due, now, shown, first, delay (as_nanos duration) refl)
