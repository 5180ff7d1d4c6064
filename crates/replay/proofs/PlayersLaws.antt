-- All sessions of a recording while its events are played: as one is made, and as one plays an event.
use Rattle.std.proofs.Common.{◌≡◌, ℕ, List, [], ◌∷◌, ◌++◌, Bool, true, false, cond, Option, Some, None, is_some, refl, ap, sym, ◌∙◌, subst, append_assoc, append-nil, map}
use Rattle.std.specs.Prelude.{◌==◌, OnOk, Result, Ok, Err}
use Rattle.std.specs.BTreeMap.{BTreeMap, IsOrdered, get, insert_entry, is_at, keys}
use Rattle.std.specs.BTreeSet.{insert_key}
use Rattle.std.specs.Map.{keys_of, lookup}
use Rattle.std.specs.Ordering.{nat_cmp}
use Rattle.policy_args.specs.Policy.{Policy}
use Rattle.policy_view.specs.declared.Mode.{Mode}
use Rattle.proxy_core.specs.Sessions.{SessionView}
use Rattle.recording.specs.Sessions.{SessionEvent, sessions_named, with_session}
use Rattle.replay.specs.SessionsOutput.{in_session, own_events}
use Rattle.replay.specs.SessionsPlayed.{AllPlay, PlayedSoFar, Plays, PlaysAt, PlaysOn, noted_by, notes_more}
use Rattle.replay.specs.declared.session_playing.Players.{Players}
use Rattle.replay.proofs.Ascending.{keys-inserted, keys-there, named-last, other-key, same-key}
use Rattle.replay.proofs.OwnEvents.{own-other}
use Rattle.replay.proofs.PlayingLaws.{plays-other}

-- ---- a session is made

pub all-made : (policy : Policy) (mode : Mode) (events : List SessionEvent) (named : List ℕ) (m n : BTreeMap ℕ SessionView) (number : ℕ) (session : SessionView) →
    AllPlay policy mode events named m → get nat_cmp m number ≡ None → ((q : ℕ) → get nat_cmp n q ≡ cond (is_at (nat_cmp number) q) (Some session) (get nat_cmp m q)) →
    n.entries ≡ insert_entry nat_cmp m.entries number session → IsOrdered nat_cmp n → (own_events number events ≡ [] → Plays policy mode events number session) →
    AllPlay policy mode events (with_session named number) n
all-made policy mode events named m n number session all absent updates entries ordered plays = record {
  each = λ q. subst (λ o. PlaysAt policy mode events q o) (sym (updates q)) (at q (is_at (nat_cmp number) q) refl);
  named_are = ap keys_of entries ∙ keys-inserted m.entries number session ∙ ap (λ ks. insert_key nat_cmp ks number) all.named_are;
  ordered = ordered;
}
  where
    none : own_events number events ≡ []
    none = subst (λ o. PlaysAt policy mode events number o) absent (all.each number)

    at : (q : ℕ) (b : Bool) → is_at (nat_cmp number) q ≡ b → PlaysAt policy mode events q (cond b (Some session) (get nat_cmp m q))
    at q true is = subst (λ k. Plays policy mode events k session) (same-key number q is) (plays none)
    at q false is = all.each q

-- it was there
pub all-there : (policy : Policy) (mode : Mode) (events : List SessionEvent) (named : List ℕ) (m : BTreeMap ℕ SessionView) (number : ℕ) →
    AllPlay policy mode events named m → is_some (get nat_cmp m number) ≡ true → AllPlay policy mode events (with_session named number) m
all-there policy mode events named m number all there = record {
  each = all.each;
  named_are = sym (keys-there m.entries number all.ordered there) ∙ ap (λ ks. insert_key nat_cmp ks number) all.named_are;
  ordered = all.ordered;
}

-- ---- an event is played

pub all-on : (policy : Policy) (mode : Mode) (events : List SessionEvent) (event : SessionEvent) (named : List ℕ) (m n : BTreeMap ℕ SessionView) (session : SessionView) →
    AllPlay policy mode events named m → ((q : ℕ) → get nat_cmp n q ≡ cond (is_at (nat_cmp event.session) q) (Some session) (get nat_cmp m q)) →
    keys n ≡ keys m → IsOrdered nat_cmp n → Plays policy mode (events ++ event ∷ []) event.session session → AllPlay policy mode (events ++ event ∷ []) named n
all-on policy mode events event named m n session all updates keys_are ordered plays = record {
  each = λ q. subst (λ o. PlaysAt policy mode (events ++ event ∷ []) q o) (sym (updates q)) (at q (is_at (nat_cmp event.session) q) refl);
  named_are = keys_are ∙ all.named_are;
  ordered = ordered;
}
  where
    other : (q : ℕ) → (event.session == q) ≡ false → (o : Option SessionView) → PlaysAt policy mode events q o → PlaysAt policy mode (events ++ event ∷ []) q o
    other q apart None none = own-other q events event apart ∙ none
    other q apart (Some s) plays = plays-other policy mode events event q s apart plays

    at : (q : ℕ) (b : Bool) → is_at (nat_cmp event.session) q ≡ b → PlaysAt policy mode (events ++ event ∷ []) q (cond b (Some session) (get nat_cmp m q))
    at q true is = subst (λ k. Plays policy mode (events ++ event ∷ []) k session) (same-key event.session q is) plays
    at q false is = other q (other-key event.session q is) (get nat_cmp m q) (all.each q)

-- the notes of one more event
noted-last : (policy : Policy) (mode : Mode) (earlier events : List SessionEvent) (event : SessionEvent) →
    noted_by policy mode earlier (events ++ event ∷ []) ≡ noted_by policy mode earlier events ++ map (in_session event.session) (notes_more policy mode (earlier ++ events) event)
noted-last policy mode earlier [] event =
    append-nil (map (in_session event.session) (notes_more policy mode earlier event))
    ∙ ap (λ es. map (in_session event.session) (notes_more policy mode es event)) (sym (append-nil earlier))
noted-last policy mode earlier (e ∷ events) event =
    let first = map (in_session e.session) (notes_more policy mode earlier e) in
    ap (λ t. first ++ t) (noted-last policy mode (earlier ++ e ∷ []) events event)
    ∙ ap (λ es. first ++ (noted_by policy mode (earlier ++ e ∷ []) events ++ map (in_session event.session) (notes_more policy mode es event))) (append_assoc earlier (e ∷ []) events)
    ∙ sym (append_assoc first (noted_by policy mode (earlier ++ e ∷ []) events) (map (in_session event.session) (notes_more policy mode (earlier ++ e ∷ events) event)))

pub played-on : (policy : Policy) (mode : Mode) (events : List SessionEvent) (event : SessionEvent) (old new : Players) (started : BTreeMap ℕ SessionView) (session : SessionView) →
    PlayedSoFar policy mode events old → AllPlay policy mode events (with_session (sessions_named [] events) event.session) started →
    ((q : ℕ) → get nat_cmp new.running q ≡ cond (is_at (nat_cmp event.session) q) (Some session) (get nat_cmp started q)) →
    keys new.running ≡ keys started → IsOrdered nat_cmp new.running → PlaysOn policy mode events event session old.notes.items new.notes.items →
    PlayedSoFar policy mode (events ++ event ∷ []) new
played-on policy mode events event old new started session so_far all updates keys_are ordered on = record {
  all = subst (λ ks. AllPlay policy mode (events ++ event ∷ []) ks new.running) (sym (named-last [] events event))
      (all-on policy mode events event _ started new.running session all updates keys_are ordered on.plays);
  noted = on.noted ∙ ap (λ ns. ns ++ map (in_session event.session) (notes_more policy mode events event)) so_far.noted ∙ sym (noted-last policy mode [] events event);
}

-- nothing was played
pub played-none : (policy : Policy) (mode : Mode) (players : Players) → players.running.entries ≡ [] → IsOrdered nat_cmp players.running → players.notes.items ≡ [] → PlayedSoFar policy mode [] players
played-none policy mode players none ordered no_notes = record {
  all = record {
    each = λ q. subst (λ es. PlaysAt policy mode [] q (lookup (is_at (nat_cmp q)) es)) (sym none) refl;
    named_are = ap keys_of none;
    ordered = ordered;
  };
  noted = no_notes;
}

pub none-is : {X : Type 0} (o : Option X) → is_some o ≡ false → o ≡ None
none-is None e = refl
none-is (Some x) e = cc

pub when-played : {T E A B : Type 0} (r : Result T E) → OnOk r A → (A → B) → OnOk r B
when-played (Ok x) a f = f a
when-played (Err e) a f = tt
