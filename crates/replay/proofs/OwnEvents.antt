-- The events of one session among those of all, as one more event comes.
use Rattle.std.proofs.Common.{◌≡◌, ◌<◌, length, take, get_or, ◌+◌, ℕ, List, [], ◌∷◌, ◌++◌, true, false, ap, ◌∙◌, map, reverse, sym, cond, append-nil}
use Rattle.std.specs.List.{filter}
use Rattle.std.specs.Prelude.{◌==◌}
use Rattle.std.proofs.lemmas.List.{take_more, reverse-append, map-append}
use Rattle.std.proofs.lemmas.List.Elements.{filter-append}
use Rattle.std.proofs.lemmas.List.Sums.{sum_by_push}
use Rattle.recording.specs.Sessions.{SessionEvent}
use Rattle.recording.specs.SessionsSeen.{session_event_seen, sessions_size, what_seen, what_size}
use Rattle.recording.specs.declared.sessions.SessionEvent.{SessionEvent as Declared}
use Rattle.replay.specs.SessionsOutput.{event_by, is_of, own_events, session_events}

pub session-events-last : (es : List SessionEvent) (e : SessionEvent) → session_events (es ++ e ∷ []) ≡ event_by e.what ∷ session_events es
session-events-last es e = ap reverse (map-append (λ (x : SessionEvent). event_by x.what) es (e ∷ [])) ∙ reverse-append (map (λ (x : SessionEvent). event_by x.what) es) (event_by e.what ∷ [])

own-last : (k : ℕ) (es : List SessionEvent) (e : SessionEvent) → own_events k (es ++ e ∷ []) ≡ session_events (filter (is_of k) es ++ filter (is_of k) (e ∷ []))
own-last k es e = ap session_events (filter-append (is_of k) es (e ∷ []))

-- an event of the session
pub own-here : (k : ℕ) (es : List SessionEvent) (e : SessionEvent) → (e.session == k) ≡ true → own_events k (es ++ e ∷ []) ≡ event_by e.what ∷ own_events k es
own-here k es e is = own-last k es e ∙ ap (λ b. session_events (filter (is_of k) es ++ cond b (e ∷ []) [])) is ∙ session-events-last (filter (is_of k) es) e

-- an event of another
pub own-other : (k : ℕ) (es : List SessionEvent) (e : SessionEvent) → (e.session == k) ≡ false → own_events k (es ++ e ∷ []) ≡ own_events k es
own-other k es e is = own-last k es e ∙ ap (λ b. session_events (filter (is_of k) es ++ cond b (e ∷ []) [])) is ∙ ap session_events (append-nil (filter (is_of k) es))

pub sessions-size-last : (es : List SessionEvent) (e : SessionEvent) → sessions_size (es ++ e ∷ []) ≡ sessions_size es + what_size e.what
sessions-size-last es e = sum_by_push (λ (x : SessionEvent). what_size x.what) es e

-- the events so far, with the next
pub so-far-seen : (es : List Declared) (i : ℕ) (e : Declared) → i < length es → e ≡ get_or es i e → map session_event_seen (take (i + 1) es) ≡ map session_event_seen (take i es) ++ session_event_seen e ∷ []
so-far-seen es i e lt is =
    ap (map session_event_seen) (take_more es i e lt ∙ ap (λ x. take i es ++ x ∷ []) (sym is)) ∙ map-append session_event_seen (take i es) (e ∷ [])

-- what happened so far, with the next
pub next-what : (es : List Declared) (i : ℕ) (e : Declared) → i < length es → e ≡ get_or es i e →
    session_events (map session_event_seen (take (i + 1) es)) ≡ event_by (what_seen e.what) ∷ session_events (map session_event_seen (take i es))
next-what es i e lt is = ap session_events (so-far-seen es i e lt is) ∙ session-events-last (map session_event_seen (take i es)) (session_event_seen e)

pub next-what-size : (es : List Declared) (i : ℕ) (e : Declared) → i < length es → e ≡ get_or es i e →
    sessions_size (map session_event_seen (take (i + 1) es)) ≡ sessions_size (map session_event_seen (take i es)) + what_size (what_seen e.what)
next-what-size es i e lt is = ap sessions_size (so-far-seen es i e lt is) ∙ sessions-size-last (map session_event_seen (take i es)) (session_event_seen e)
