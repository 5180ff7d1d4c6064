-- What happened in one session among the events of all, as one more event comes.
use Rattle.std.proofs.Common.{◌≡◌, ◌≤◌, ℕ, List, [], ◌∷◌, ◌++◌, true, false, cond, refl, ap, ◌∙◌, append-nil, arith, length, map}
use Rattle.std.specs.List.{filter, sum_by, list_any}
use Rattle.std.specs.Prelude.{◌==◌, ◌&&◌, ◌||◌, Bool}
use Rattle.std.proofs.lemmas.Bool.{ne_eqb}
use Rattle.std.proofs.lemmas.List.{map-append}
use Rattle.std.proofs.lemmas.List.Elements.{filter-append}
use Rattle.std.proofs.lemmas.List.Sums.{sum_by-cons}
use Rattle.recording.specs.Recording.{Event}
use Rattle.recording.specs.Sessions.{SessionEvent, What}
use Rattle.recording.specs.SessionsSeen.{session_event_seen, sessions_size, what_size}
use Rattle.recording.specs.declared.sessions.SessionEvent.{SessionEvent as Declared}
use Rattle.replay.specs.SessionsOutput.{is_of}
use Rattle.session_files.specs.Counting.{AreCountable, IsCountable}
use Rattle.session_files.specs.OneSession.{before_stop, happened_in}

abbrev pub whats : List SessionEvent → List What
whats events = map (λ e. e.what) events

-- ---- the last event

own-last : (k : ℕ) (es : List SessionEvent) (e : SessionEvent) → happened_in k (es ++ e ∷ []) ≡ whats (filter (is_of k) es ++ filter (is_of k) (e ∷ []))
own-last k es e = ap whats (filter-append (is_of k) es (e ∷ []))

-- an event of the session
pub own-here : (k : ℕ) (es : List SessionEvent) (e : SessionEvent) → (e.session == k) ≡ true → happened_in k (es ++ e ∷ []) ≡ happened_in k es ++ e.what ∷ []
own-here k es e is =
    own-last k es e ∙ ap (λ b. whats (filter (is_of k) es ++ cond b (e ∷ []) [])) is ∙ map-append (λ (x : SessionEvent). x.what) (filter (is_of k) es) (e ∷ [])

-- an event of another
pub own-other : (k : ℕ) (es : List SessionEvent) (e : SessionEvent) → (e.session == k) ≡ false → happened_in k (es ++ e ∷ []) ≡ happened_in k es
own-other k es e is = own-last k es e ∙ ap (λ b. whats (filter (is_of k) es ++ cond b (e ∷ []) [])) is ∙ ap whats (append-nil (filter (is_of k) es))

-- ---- the first event

pub first-here : (k : ℕ) (e : SessionEvent) (es : List SessionEvent) → (e.session == k) ≡ true → happened_in k (e ∷ es) ≡ e.what ∷ happened_in k es
first-here k e es is = ap (λ b. whats (cond b (e ∷ filter (is_of k) es) (filter (is_of k) es))) is

pub first-other : (k : ℕ) (e : SessionEvent) (es : List SessionEvent) → (e.session == k) ≡ false → happened_in k (e ∷ es) ≡ happened_in k es
first-other k e es is = ap (λ b. whats (cond b (e ∷ filter (is_of k) es) (filter (is_of k) es))) is

-- ---- how many and how large they are

few-own : (k : ℕ) (es : List SessionEvent) → length (happened_in k es) ≤ length es
few-own k [] = omega arith
few-own k (e ∷ es) =
    let fewer = few-own k es in
    elim (e.session == k) as (λ b. length (whats (cond b (e ∷ filter (is_of k) es) (filter (is_of k) es))) ≤ length (e ∷ es)) [
      | true ↦ omega arith
      | false ↦ omega arith
    ]

small-own : (k : ℕ) (es : List SessionEvent) → sum_by what_size (happened_in k es) ≤ sessions_size es
small-own k [] = omega arith
small-own k (e ∷ es) =
    let smaller = small-own k es in
    let all = sum_by-cons (λ (x : SessionEvent). what_size x.what) e es in
    let own = sum_by-cons what_size e.what (happened_in k es) in
    elim (e.session == k) as (λ b. sum_by what_size (whats (cond b (e ∷ filter (is_of k) es) (filter (is_of k) es))) ≤ sessions_size (e ∷ es)) [
      | true ↦ omega (arith, smaller, all, own)
      | false ↦ omega (arith, smaller, all)
    ]

pub own-countable : (k : ℕ) (es : List SessionEvent) → AreCountable es → IsCountable (happened_in k es)
own-countable k es are = record {
  few = omega (arith, few-own k es, are.few);
  small = omega (arith, small-own k es, are.small);
}

-- ---- the events of the code

pub any-seen : (k : ℕ) (events : List Declared) → list_any (is_of k) (map session_event_seen events) ≡ list_any (λ e. e.session == k) events
any-seen k [] = refl
any-seen k (e ∷ events) = ap (λ (b : Bool). e.session == k || b) (any-seen k events)

-- these events of a session, and then those of it among the rest, up to the first stop
abbrev pub events_with : List Event → ℕ → List Declared → List Event
events_with so_far k rest = so_far ++ before_stop (happened_in k (map session_event_seen rest))

-- ---- a recording that isn't of version 1, or a session that isn't 1

pub none-first : (version : ℕ) (b : Bool) → (version ≡ 1 → ⊥) → (version == 1 && b) ≡ false
none-first version b apart = ap (λ (x : Bool). x && b) (ne_eqb version 1 apart)

pub none-second : (b : Bool) (session : ℕ) → (session ≡ 1 → ⊥) → (b && session == 1) ≡ false
none-second true session apart = ne_eqb session 1 apart
none-second false session apart = refl

pub or-false : (a b : Bool) → a ≡ false → b ≡ (a || b)
or-false true b e = absurd cc
or-false false b e = refl
