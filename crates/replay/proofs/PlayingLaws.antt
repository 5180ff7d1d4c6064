-- A session of a recording while its events are played: at its start, after its own event, and after another session's.
use Rattle.std.proofs.Common.{◌≡◌, ◌≤◌, ℕ, List, [], ◌∷◌, ◌++◌, Bool, true, false, if◌then◌else◌, refl, ap, sym, ◌∙◌, subst, arith, length, drop, map}
use Rattle.std.specs.Prelude.{◌==◌, OnOk, Result, Ok, Err}
use Rattle.std.proofs.lemmas.Bool.{eq-eqb}
use Rattle.std.proofs.lemmas.List.{drop_at}
use Rattle.policy_args.specs.Policy.{Policy}
use Rattle.policy_view.specs.History.{Event, history, new_in}
use Rattle.policy_view.specs.Notes.{Note, notes, notes_made, numbered}
use Rattle.policy_view.specs.declared.Mode.{Mode}
use Rattle.proxy_core.specs.Sessions.{SessionView, StandsFor, Taken, at_start, is_memory, nothing}
use Rattle.proxy_core.specs.Steps.{IsLight, weight}
use Rattle.recording.specs.Sessions.{SessionEvent}
use Rattle.recording.specs.SessionsSeen.{what_size}
use Rattle.replay.specs.SessionsOutput.{event_by, in_session, own_events}
use Rattle.replay.specs.SessionsPlayed.{Plays, PlaysOn, notes_by, notes_taken}
use Rattle.replay.specs.declared.session_notes.SessionNote.{SessionNote}
use Rattle.replay.proofs.OwnEvents.{own-here, own-other, sessions-size-last}

-- ---- the start

no-notes-at-start : (policy : Policy) (mode : Mode) → notes policy (history policy mode []) ≡ []
unfolding history numbered
no-notes-at-start policy mode = refl

none-made : (policy : Policy) (mode : Mode) (makes : Bool) → (if makes then notes policy (history policy mode []) else []) ≡ []
none-made policy mode true = no-notes-at-start policy mode
none-made policy mode false = refl

pub none-by : (policy : Policy) (mode : Mode) (number : ℕ) (events : List SessionEvent) → own_events number events ≡ [] → notes_by policy mode number events ≡ []
none-by policy mode number events none = ap (λ es. notes_made mode policy (history policy mode es)) none ∙ none-made policy mode mode.notes

-- a new session has no events
pub plays-start : (policy : Policy) (mode : Mode) (events : List SessionEvent) (number : ℕ) (session : SessionView) → own_events number events ≡ [] → session ≡ at_start mode →
    StandsFor policy session [] nothing → weight policy session ≤ 60161266 → Plays policy mode events number session
plays-start policy mode events number session none start stands light = record {
  mode_is = ap (λ (v : SessionView). v.mode) start;
  sound = ap (λ (v : SessionView). is_memory v.ended) start;
  stands = subst (λ ns. StandsFor policy session (own_events number events) (notes_taken ns)) (sym (none-by policy mode number events none))
      (subst (λ es. StandsFor policy session es nothing) (sym none) stands);
  light = omega (arith, light);
  no_notes = ap (λ (v : SessionView). v.notes) start;
}

-- ---- an event of another session

pub plays-other : (policy : Policy) (mode : Mode) (events : List SessionEvent) (event : SessionEvent) (number : ℕ) (session : SessionView) → (event.session == number) ≡ false →
    Plays policy mode events number session → Plays policy mode (events ++ event ∷ []) number session
plays-other policy mode events event number session other plays = record {
  mode_is = plays.mode_is;
  sound = plays.sound;
  stands = subst (λ es. StandsFor policy session es (notes_taken (notes_made mode policy (history policy mode es)))) (sym (own-other number events event other)) plays.stands;
  light = omega (arith, plays.light, sessions-size-last events event);
  no_notes = plays.no_notes;
}

-- ---- an event of its own

-- the notes that wait are those that the event brings
pub brought-notes : (before waiting after : List Note) → before ++ waiting ≡ after → waiting ≡ new_in before after
brought-notes before waiting after is = sym (drop_at before waiting (length before) refl) ∙ ap (drop (length before)) is

pub plays-own : (policy : Policy) (mode : Mode) (events : List SessionEvent) (event : SessionEvent) (old played taken : SessionView) (before after : List SessionNote) →
    Plays policy mode events event.session old →
    ((es : List Event) (t : Taken) → StandsFor policy old es t → StandsFor policy played (event_by event.what ∷ es) t) →
    IsLight policy (what_size event.what) old played → is_memory played.ended ≡ false →
    after ≡ before ++ map (in_session event.session) played.notes → taken ≡ record played { notes = [] } →
    ((p : Policy) (es : List Event) (t : Taken) → StandsFor p played es t → StandsFor p taken es (record t { notes = t.notes ++ played.notes })) →
    PlaysOn policy mode events event taken before after
plays-own policy mode events event old played taken before after plays stands light running got took stands_taken =
    let k = event.session in
    let earlier = notes_by policy mode k events in
    let own : own_events k (events ++ event ∷ []) ≡ event_by event.what ∷ own_events k events = own-here k events event (eq-eqb k k refl) in
    let now : StandsFor policy played (event_by event.what ∷ own_events k events) (notes_taken earlier) = stands _ _ plays.stands in
    let mode_is : played.mode ≡ mode = light.mode ∙ plays.mode_is in
    let all : earlier ++ played.notes ≡ notes_by policy mode k (events ++ event ∷ []) =
    (now.holds running).noted ∙ ap (λ (m : Mode). notes_made m policy (history policy m (event_by event.what ∷ own_events k events))) mode_is
    ∙ ap (λ es. notes_made mode policy (history policy mode es)) (sym own) in
    record {
      plays = record {
        mode_is = ap (λ (v : SessionView). v.mode) took ∙ mode_is;
        sound = ap (λ (v : SessionView). is_memory v.ended) took ∙ running;
        stands = subst (λ ns. StandsFor policy taken (own_events k (events ++ event ∷ [])) (notes_taken ns)) all
            (subst (λ es. StandsFor policy taken es (notes_taken (earlier ++ played.notes))) (sym own) (stands_taken policy _ _ now));
        light = omega (arith, ap (weight policy) took, light.weighs, plays.light, sessions-size-last events event);
        no_notes = ap (λ (v : SessionView). v.notes) took;
      };
      noted = got ∙ ap (λ ns. before ++ map (in_session k) ns) (brought-notes earlier played.notes _ all);
    }

-- three clauses of one call
pub when-ok : {T E A B C D : Type 0} (r : Result T E) → OnOk r A → OnOk r B → OnOk r C → (A → B → C → D) → OnOk r D
when-ok (Ok x) a b c f = f a b c
when-ok (Err e) a b c f = tt
