-- How many sessions are named.
use Rattle.std.proofs.Common.{◌≡◌, ℕ, ◌≤◌, List, [], ◌∷◌, ◌++◌, length, refl, arith}
use Rattle.std.specs.BTreeSet.{insert_key}
use Rattle.std.specs.Ordering.{nat_cmp, match_ordering}
use Rattle.std.specs.declared.cmp.Ordering.{Ordering}
use Rattle.std.specs.declared.cmp.Ordering.TheVariants.{Less, Equal, Greater}
use Rattle.recording.specs.Sessions.{SessionEvent, with_session, sessions_named}

pub with-grows : (before : List ℕ) (session : ℕ) → length before ≤ length (with_session before session)
with-grows [] session = omega arith
with-grows (k ∷ ks) session = by (nat_cmp session k) (with-grows ks session)
  where
    by : (o : Ordering) → length ks ≤ length (with_session ks session) → length (k ∷ ks) ≤ length (match_ordering o (session ∷ k ∷ ks) (k ∷ ks) (k ∷ insert_key nat_cmp ks session))
    by Less h = omega arith
    by Equal h = omega arith
    by Greater h = omega (arith, h)

pub named-grows : (before : List ℕ) (events : List SessionEvent) → length before ≤ length (sessions_named before events)
named-grows before [] = omega arith
named-grows before (e ∷ events) = omega (arith, with-grows before e.session, named-grows (with_session before e.session) events)

-- one event more
pub named-push : (before : List ℕ) (events : List SessionEvent) (e : SessionEvent) → sessions_named before (events ++ e ∷ []) ≡ with_session (sessions_named before events) e.session
named-push before [] e = refl
named-push before (x ∷ events) e = named-push (with_session before x.session) events e
