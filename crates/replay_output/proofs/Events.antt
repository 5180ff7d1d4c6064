-- The events so far, the newest first, and how many bytes they have.
use Rattle.std.proofs.Common.{◌≡◌, ◌<◌, ◌+◌, ℕ, List, [], ◌∷◌, ◌++◌, ap, sym, ◌∙◌, length, take, map, reverse, get_or}
use Rattle.std.proofs.lemmas.List.{take_more, take-map, reverse-append, map-append}
use Rattle.std.proofs.lemmas.List.Sums.{sum_by_push}
use Rattle.recording.specs.declared.Event.{Event as Declared}
use Rattle.recording.specs.Recording.{Event as Recorded}
use Rattle.recording.specs.Seen.{seen, size, size_of}
use Rattle.replay_output.specs.Output.{event_of, events_of}

pub events-last : (es : List Recorded) (e : Recorded) → events_of (es ++ e ∷ []) ≡ event_of e ∷ events_of es
events-last es e = ap reverse (map-append event_of es (e ∷ [])) ∙ reverse-append (map event_of es) (event_of e ∷ [])

size-last : (es : List Recorded) (e : Recorded) → size (es ++ e ∷ []) ≡ size es + size_of e
size-last es e = sum_by_push size_of es e

so-far : (es : List Declared) (i : ℕ) (e : Declared) → i < length es → e ≡ get_or es i e → map seen (take (i + 1) es) ≡ map seen (take i es) ++ seen e ∷ []
so-far es i e lt is = ap (map seen) (take_more es i e lt ∙ ap (λ x. take i es ++ x ∷ []) (sym is)) ∙ map-append seen (take i es) (e ∷ [])

pub next-event : (es : List Declared) (i : ℕ) (e : Declared) → i < length es → e ≡ get_or es i e → events_of (map seen (take (i + 1) es)) ≡ event_of (seen e) ∷ events_of (map seen (take i es))
next-event es i e lt is = ap events_of (so-far es i e lt is) ∙ events-last (map seen (take i es)) (seen e)

pub next-size : (es : List Declared) (i : ℕ) (e : Declared) → i < length es → e ≡ get_or es i e → size (map seen (take (i + 1) es)) ≡ size (map seen (take i es)) + size_of (seen e)
next-size es i e lt is = ap size (so-far es i e lt is) ∙ size-last (map seen (take i es)) (seen e)

pub event-played : (es : List Declared) (i : ℕ) (e : Declared) → i < length es → e ≡ get_or es i e → events_of (take (i + 1) (map seen es)) ≡ event_of (seen e) ∷ events_of (take i (map seen es))
event-played es i e lt is = ap events_of (take-map seen (i + 1) es) ∙ next-event es i e lt is ∙ ap (λ xs. event_of (seen e) ∷ events_of xs) (sym (take-map seen i es))
