-- The counts of all sessions of a recording: as those of a session are made, and as one more event is counted.
use Rattle.std.proofs.Common.{◌≡◌, ◌≤◌, ◌<◌, ◌+◌, ◌^◌, ℕ, zero, suc, List, [], ◌∷◌, ◌++◌, Bool, true, false, cond, Option, Some, None, is_some, refl, ap, sym, ◌∙◌, subst, arith, if◌then◌else◌, length, length-take, get_or, map, take}
use Rattle.std.specs.Prelude.{◌==◌}
use Rattle.std.specs.BTreeMap.{BTreeMap, IsOrdered, get, insert_entry, is_at, keys}
use Rattle.std.specs.BTreeSet.{insert_key}
use Rattle.std.specs.Map.{keys_of, lookup}
use Rattle.std.specs.Ordering.{nat_cmp}
use Rattle.std.proofs.lemmas.Bool.{eq-eqb, eqb-true}
use Rattle.std.proofs.lemmas.List.{length-map, take_all}
use Rattle.std.proofs.lemmas.List.Sums.{sum_by-cons}
use Rattle.recording.specs.Recording.{Event}
use Rattle.recording.specs.Sessions.{SessionEvent, Sessions, What, one_session_event, sessions_named, with_session}
use Rattle.recording.specs.SessionsSeen.{IsReadable, session_event_seen, sessions_size, what_size}
use Rattle.recording.specs.declared.sessions.SessionEvent.{SessionEvent as Declared}
use Rattle.replay.proofs.Ascending.{keys-inserted, keys-there, named-last, other-key, same-key}
use Rattle.replay.proofs.OwnEvents.{so-far-seen}
use Rattle.session_files.specs.Counting.{AllCounted, AreCountable, Counted, CountedAt, IsCountable, only_session}
use Rattle.session_files.specs.Listing.{sessions_in}
use Rattle.session_files.specs.OneSession.{happened_in}
use Rattle.session_files.specs.declared.counting.Counts.{Counts}
use Rattle.session_files.proofs.OwnWhats.{own-countable, own-here, own-other}

-- ---- the counts of a session are made

pub all-made : (events : List SessionEvent) (sessions : List ℕ) (m n : BTreeMap ℕ Counts) (number : ℕ) (counts : Counts) →
    AllCounted events sessions m → get nat_cmp m number ≡ None → ((q : ℕ) → get nat_cmp n q ≡ cond (is_at (nat_cmp number) q) (Some counts) (get nat_cmp m q)) →
    n.entries ≡ insert_entry nat_cmp m.entries number counts → IsOrdered nat_cmp n → Counted [] counts →
    AllCounted events (with_session sessions number) n
all-made events sessions m n number counts all absent updates entries ordered start = record {
  each = λ q. subst (λ o. CountedAt events q o) (sym (updates q)) (at q (is_at (nat_cmp number) q) refl);
  keys_are = ap keys_of entries ∙ keys-inserted m.entries number counts ∙ ap (λ ks. insert_key nat_cmp ks number) all.keys_are;
  ordered = ordered;
}
  where
    none : happened_in number events ≡ []
    none = subst (λ o. CountedAt events number o) absent (all.each number)

    at : (q : ℕ) (b : Bool) → is_at (nat_cmp number) q ≡ b → CountedAt events q (cond b (Some counts) (get nat_cmp m q))
    at q true is = subst (λ k. Counted (happened_in k events) counts) (same-key number q is) (subst (λ ws. Counted ws counts) (sym none) start)
    at q false is = all.each q

-- they were there
pub all-there : (events : List SessionEvent) (sessions : List ℕ) (m : BTreeMap ℕ Counts) (number : ℕ) →
    AllCounted events sessions m → is_some (get nat_cmp m number) ≡ true → AllCounted events (with_session sessions number) m
all-there events sessions m number all there = record {
  each = all.each;
  keys_are = sym (keys-there m.entries number all.ordered there) ∙ ap (λ ks. insert_key nat_cmp ks number) all.keys_are;
  ordered = all.ordered;
}

-- ---- an event is counted

pub all-on : (events : List SessionEvent) (event : SessionEvent) (sessions : List ℕ) (m n : BTreeMap ℕ Counts) (counts : Counts) →
    AllCounted events sessions m → ((q : ℕ) → get nat_cmp n q ≡ cond (is_at (nat_cmp event.session) q) (Some counts) (get nat_cmp m q)) →
    keys n ≡ keys m → IsOrdered nat_cmp n → Counted (happened_in event.session (events ++ event ∷ [])) counts → AllCounted (events ++ event ∷ []) sessions n
all-on events event sessions m n counts all updates same_keys ordered counted = record {
  each = λ q. subst (λ o. CountedAt (events ++ event ∷ []) q o) (sym (updates q)) (at q (is_at (nat_cmp event.session) q) refl);
  keys_are = same_keys ∙ all.keys_are;
  ordered = ordered;
}
  where
    other : (q : ℕ) → (event.session == q) ≡ false → (o : Option Counts) → CountedAt events q o → CountedAt (events ++ event ∷ []) q o
    other q apart None none = own-other q events event apart ∙ none
    other q apart (Some c) counted = subst (λ ws. Counted ws c) (sym (own-other q events event apart)) counted

    at : (q : ℕ) (b : Bool) → is_at (nat_cmp event.session) q ≡ b → CountedAt (events ++ event ∷ []) q (cond b (Some counts) (get nat_cmp m q))
    at q true is = subst (λ k. Counted (happened_in k (events ++ event ∷ [])) counts) (same-key event.session q is) counted
    at q false is = other q (other-key event.session q is) (get nat_cmp m q) (all.each q)

-- an event is counted for its session, whose counts were found
pub counted-next : (events : List SessionEvent) (event : SessionEvent) (sessions : List ℕ) (m n : BTreeMap ℕ Counts) (old new : Counts) →
    AllCounted events sessions m → get nat_cmp m event.session ≡ Some old → ((q : ℕ) → get nat_cmp n q ≡ cond (is_at (nat_cmp event.session) q) (Some new) (get nat_cmp m q)) →
    keys n ≡ keys m → IsOrdered nat_cmp n → AreCountable (events ++ event ∷ []) →
    ((ws : List What) → Counted ws old → IsCountable (ws ++ event.what ∷ []) → Counted (ws ++ event.what ∷ []) new) → AllCounted (events ++ event ∷ []) sessions n
counted-next events event sessions m n old new all found updates same_keys ordered are add =
    let k = event.session in
    let here : happened_in k (events ++ event ∷ []) ≡ happened_in k events ++ event.what ∷ [] = own-here k events event (eq-eqb k k refl) in
    let was : Counted (happened_in k events) old = subst (λ o. CountedAt events k o) found (all.each k) in
    let room : IsCountable (happened_in k events ++ event.what ∷ []) = subst (λ ws. IsCountable ws) here (own-countable k (events ++ event ∷ []) are) in
    all-on events event sessions m n new all updates same_keys ordered (subst (λ ws. Counted ws new) (sym here) (add (happened_in k events) was room))

-- ---- the events so far

abbrev pub seen_to : List Declared → ℕ → List SessionEvent
seen_to es i = map session_event_seen (take i es)

size-to : (es : List Declared) (i : ℕ) → sessions_size (seen_to es i) ≤ sessions_size (map session_event_seen es)
size-to es zero = omega arith
size-to [] (suc i) = omega arith
size-to (e ∷ es) (suc i) =
    let f : SessionEvent → ℕ = λ x. what_size x.what in
    omega (arith, size-to es i, sum_by-cons f (session_event_seen e) (seen_to es i), sum_by-cons f (session_event_seen e) (map session_event_seen es))

countable-to : (es : List Declared) (i : ℕ) → length es < 2 ^ 64 → sessions_size (map session_event_seen es) < 2 ^ 64 → AreCountable (seen_to es i)
countable-to es i few small = record {
  few = omega (arith, few, length-map (take i es) session_event_seen, length-take i es);
  small = omega (arith, small, size-to es i);
}

pub all-next : (first : List ℕ) (es : List Declared) (i : ℕ) (e : Declared) (m n : BTreeMap ℕ Counts) → i < length es → e ≡ get_or es i e → length es < 2 ^ 64 →
    sessions_size (map session_event_seen es) < 2 ^ 64 → AllCounted (seen_to es i) (sessions_named first (seen_to es i)) m →
    ((events : List SessionEvent) (sessions : List ℕ) → AllCounted events sessions m → AreCountable (events ++ session_event_seen e ∷ []) → AllCounted (events ++ session_event_seen e ∷ []) (with_session sessions e.session) n) →
    AllCounted (seen_to es (i + 1)) (sessions_named first (seen_to es (i + 1))) n
all-next first es i e m n here is few small all count =
    let next : seen_to es (i + 1) ≡ seen_to es i ++ session_event_seen e ∷ [] = so-far-seen es i e here is in
    let room : AreCountable (seen_to es i ++ session_event_seen e ∷ []) = subst (λ xs. AreCountable xs) next (countable-to es (i + 1) few small) in
    let counted = count (seen_to es i) (sessions_named first (seen_to es i)) all room in
    subst (λ xs. AllCounted xs (sessions_named first xs) n) (sym next)
    (subst (λ ks. AllCounted (seen_to es i ++ session_event_seen e ∷ []) ks n) (sym (named-last first (seen_to es i) (session_event_seen e))) counted)

-- nothing was counted
pub all-none : (m : BTreeMap ℕ Counts) → m.entries ≡ [] → IsOrdered nat_cmp m → AllCounted [] [] m
all-none m none ordered = record {
  each = λ q. subst (λ es. CountedAt [] q (lookup (is_at (nat_cmp q)) es)) (sym none) refl;
  keys_are = ap keys_of none;
  ordered = ordered;
}

-- ---- the sessions of a whole recording

one-named : (events : List Event) → sessions_named (1 ∷ []) (map one_session_event events) ≡ 1 ∷ []
one-named [] = refl
one-named (e ∷ events) = one-named events

pub all-named : (s : Sessions) → IsReadable s → sessions_named (only_session s.version) s.events ≡ sessions_in s
all-named s readable = go (s.version == 1) refl
  where
    go : (b : Bool) → (s.version == 1) ≡ b → sessions_named (if b then 1 ∷ [] else []) s.events ≡ (if b then 1 ∷ [] else sessions_named [] s.events)
    go true is =
        let (r, same) = readable.one_session (eqb-true s.version 1 is) in
        ap (λ (x : Sessions). sessions_named (1 ∷ []) x.events) same ∙ one-named r.events
    go false is = refl

-- all events are counted
pub all-counted : (es : List Declared) (i : ℕ) (s : Sessions) (m : BTreeMap ℕ Counts) → IsReadable s → map session_event_seen es ≡ s.events → length es ≤ i →
    AllCounted (seen_to es i) (sessions_named (only_session s.version) (seen_to es i)) m → AllCounted s.events (sessions_in s) m
all-counted es i s m readable is all_seen counted =
    subst (λ ks. AllCounted s.events ks m) (all-named s readable)
    (subst (λ xs. AllCounted xs (sessions_named (only_session s.version) xs) m) (ap (map session_event_seen) (take_all i es all_seen) ∙ is) counted)

-- ---- results

pub none-is : {X : Type 0} (o : Option X) → is_some o ≡ false → o ≡ None
none-is None e = refl
none-is (Some x) e = cc
