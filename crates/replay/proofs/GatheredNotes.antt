-- The notes of a session, as they are taken from it and put after those of others.
use Rattle.std.proofs.Common.{◌≡◌, List, ℕ, [], ◌∷◌, ◌++◌, refl, ap, sym, ◌∙◌, subst, append_assoc, append-nil, map}
use Rattle.std.proofs.lemmas.List.{map-append}
use Rattle.policy_args.specs.Policy.{Policy}
use Rattle.policy_view.specs.History.{Event}
use Rattle.policy_view.specs.Notes.{Note}
use Rattle.proxy_core.specs.Sessions.{SessionView, StandsFor, Taken}
use Rattle.replay.specs.SessionsOutput.{in_session}
use Rattle.replay.specs.declared.session_notes.SessionNote.{SessionNote}

abbrev StandsAlike : SessionView → SessionView → List Note → Type 0
StandsAlike start now taken = (policy : Policy) (events : List Event) (t : Taken) → StandsFor policy start events t → StandsFor policy now events (record t { notes = t.notes ++ taken })

-- these notes were taken
pub record Gathered (start now : SessionView) (number : ℕ) (before after : List SessionNote) (taken : List Note) : Type 0 where
  pub split : start.notes ≡ taken ++ now.notes
  pub same : now ≡ record start { notes = now.notes }
  pub got : after ≡ before ++ map (in_session number) taken
  pub stands : StandsAlike start now taken

pub gathered-start : (start : SessionView) (number : ℕ) (before : List SessionNote) → Gathered start start number before before []
gathered-start start number before = record {
  split = refl;
  same = refl;
  got = sym (append-nil before);
  stands = λ policy events t stood. subst (λ ns. StandsFor policy start events (record t { notes = ns })) (sym (append-nil t.notes)) stood;
}

pub gathered-step : (start old new : SessionView) (number : ℕ) (before between after : List SessionNote) (taken rest : List Note) (note : Note) → Gathered start old number before between taken →
    old.notes ≡ note ∷ rest → new ≡ record old { notes = rest } → after ≡ between ++ in_session number note ∷ [] →
    ((policy : Policy) (events : List Event) (t : Taken) → StandsFor policy old events t → StandsFor policy new events (record t { notes = t.notes ++ note ∷ [] })) →
    Gathered start new number before after (taken ++ note ∷ [])
gathered-step start old new number before between after taken rest note gathered next took put stands = record {
  split = gathered.split ∙ ap (λ ns. taken ++ ns) next ∙ sym (append_assoc taken (note ∷ []) rest)
      ∙ ap (λ (v : SessionView). (taken ++ note ∷ []) ++ v.notes) (sym took);
  same = took ∙ ap (λ (v : SessionView). record v { notes = rest }) gathered.same ∙ ap (λ (v : SessionView). record start { notes = v.notes }) (sym took);
  got = put ∙ ap (λ ns. ns ++ in_session number note ∷ []) gathered.got ∙ append_assoc before (map (in_session number) taken) (in_session number note ∷ [])
      ∙ ap (λ ns. before ++ ns) (sym (map-append (in_session number) taken (note ∷ [])));
  stands = λ policy events t stood.
      subst (λ ns. StandsFor policy new events (record t { notes = ns })) (append_assoc t.notes taken (note ∷ []))
      (stands policy events (record t { notes = t.notes ++ taken }) (gathered.stands policy events t stood));
}

-- no more wait, and so all were taken
module _ (start now last : SessionView) (number : ℕ) (before after : List SessionNote) (taken : List Note) (gathered : Gathered start now number before after taken)
    (none : now.notes ≡ []) (is_last : last ≡ now) where
  all-are : start.notes ≡ taken
  all-are = gathered.split ∙ ap (λ ns. taken ++ ns) none ∙ append-nil taken

  pub gathered-all : after ≡ before ++ map (in_session number) start.notes
  gathered-all = gathered.got ∙ ap (λ ns. before ++ map (in_session number) ns) (sym all-are)

  pub gathered-left : last ≡ record start { notes = [] }
  gathered-left = is_last ∙ gathered.same ∙ ap (λ ns. record start { notes = ns }) none

  pub gathered-stands : StandsAlike start last start.notes
  gathered-stands policy events t stood = subst (λ v. StandsFor policy v events (record t { notes = t.notes ++ start.notes })) (sym is_last)
      (subst (λ ns. StandsFor policy now events (record t { notes = t.notes ++ ns })) (sym all-are) (gathered.stands policy events t stood))
