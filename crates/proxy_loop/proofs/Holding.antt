-- How a session goes on standing for its journal, entry by entry.
use Rattle.std.proofs.Common.{ℕ, nat_eq, ◌≡◌, ◌≤◌, ◌<◌, ◌-◌, ◌^◌, ◌⊎◌, inl, inr, Bool, true, false, ◌&&◌, ◌||◌, List, [], ◌∷◌, ◌++◌, Option, Some, None, is_some, refl, ap, ap₂, ◌∙◌, sym, subst, append-nil, append_assoc, take, drop, length, arith}
use Rattle.std.proofs.lemmas.Bool.Decides.{nat_tests}
use Rattle.std.proofs.Math.Logic.{∥∥₁_map}
use Rattle.std.proofs.lemmas.List.{take-append-le, take-append-drop}
use Rattle.link_traits.specs.Journals.{Journal, written, written_by, same_side, same_link}
use Rattle.link_traits.specs.Told.{Rose}
use Rattle.link_traits.specs.Views.{NetView, Adds, RoseAt, KeepsWishes}
use Rattle.link_traits.specs.Answers.{client_link, bus_link, read_entry}
use Rattle.link_traits.specs.Entries.{Entry, read as Read, finished as Finished, wrote as Wrote, not_ready as NotReady, failed as Failed, shut as Shut}
use Rattle.link_traits.specs.declared.links.Count.{Count}
use Rattle.link_traits.specs.declared.links.Count.TheVariants.{Link as OfLink}
use Rattle.link_traits.specs.declared.links.Side.{Side}
use Rattle.link_traits.specs.declared.links.Side.TheVariants.{Client, Bus}
use Rattle.link_traits.specs.declared.links.Link.{Link}
use Rattle.link_traits.specs.declared.links.Call.TheVariants.{Read as ReadCall, Write as WriteCall}
use Rattle.link_traits.specs.declared.links.Took.{Took}
use Rattle.link_traits.specs.declared.links.Got.{Got}
use Rattle.link_traits.specs.declared.links.Got.TheVariants.{Bytes as GotBytes, Finished as GotFinished, NotReady as GotNotReady, Failed as GotFailed}
use Rattle.link_traits.specs.declared.links.Took.TheVariants.{Bytes as TookBytes, NotReady as TookNotReady, Failed as TookFailed}
use Rattle.policy_args.specs.Policy.{Policy}
use Rattle.policy_view.specs.declared.End.{End}
use Rattle.policy_view.specs.declared.End.TheVariants.{ClientMalformed, BusMalformed, ClientEnd, BusEnd, SerialsSpent, Memory, ClientRead, ClientWrite, BusRead, BusWrite, BusConnect, LogFault}
use Rattle.policy_view.specs.History.{Event, Bytes, Finished as FinishedEvent, Stopped}
use Rattle.proxy_core.specs.Sessions.{SessionView, Taken, StandsFor, IsFront, is_memory}
use Rattle.proxy_core.specs.Messages.{ended_by}
use Rattle.proxy_loop.specs.Sessions.{events_of, events_by, side_of, read_end, write_end}
use Rattle.proxy_loop.specs.Kinds.{is_write, is_taken, gave_bytes, all_are, some_of, gone_by, last_write, only_newest_stops}
use Rattle.proxy_loop.specs.Works.{with_taken, with_queue, more_taken, Moves, Stood, StoodFor, Goes, Any, Only, Cause, queue_of, OneWrite, Writes, WritesOn, WroteOut, FedOnce, read_room, ShutWhere, KeepsEnd, KeepsWaiting}
use Rattle.proxy_loop.proofs.Ends.{is_plain, event_cause}

pub same_number : (n : ℕ) → nat_eq n n ≡ true
same_number n = grind (arith, nat_tests)

pub same_side_self : (side : Side) → same_side side side ≡ true
same_side_self Client = refl
same_side_self Bus = refl

pub same_link_self : (link : Link) → same_link link link ≡ true
same_link_self link = rw (same_number link.session, same_side_self link.side) refl

pub wrote_append : (link : Link) (second first : Journal) → written link (second ++ first) ≡ written link first ++ written link second
wrote_append link [] first = sym (append-nil (written link first))
wrote_append link (entry ∷ second) first =
    ap (λ (l : List ℕ). l ++ written_by link entry) (wrote_append link second first) ∙ append_assoc (written link first) (written link second) (written_by link entry)

pub events_append : (n : ℕ) (second first : Journal) → events_of n (second ++ first) ≡ events_of n second ++ events_of n first
unfolding events_of
events_append n [] first = refl
events_append n (entry ∷ second) first =
    ap (λ (l : List Event). events_by n entry ++ l) (events_append n second first) ∙ sym (append_assoc (events_by n entry) (events_of n second) (events_of n first))

taken_by : List ℕ → List ℕ → Taken → Taken
taken_by bus client taken = record { bus_side = taken.bus_side ++ bus; client_side = taken.client_side ++ client; notes = taken.notes; visible = taken.visible; held = taken.held }

taken_none : (n : ℕ) (added : Journal) (taken : Taken) → written (bus_link n) added ≡ [] → written (client_link n) added ≡ [] → more_taken n added taken ≡ taken
taken_none n added taken b c = rw (b, c, append-nil taken.bus_side, append-nil taken.client_side) refl

pub moves_none : (policy : Policy) (n : ℕ) (session : SessionView) → Moves policy n session session []
unfolding events_of
moves_none policy n session = record {
  each = λ events taken s. subst (λ (t : Taken). StandsFor policy session events t) (sym (taken_none n [] taken refl refl)) s;
}

pub moves_then : (policy : Policy) (n : ℕ) (old mid new : SessionView) (first second : Journal) →
    Moves policy n old mid first → Moves policy n mid new second → Moves policy n old new (second ++ first)
moves_then policy n old mid new first second a b = record {
  each = λ events taken s.
      let done = b.each (events_of n first ++ events) (more_taken n first taken) (a.each events taken s) in
      let told : events_of n second ++ (events_of n first ++ events) ≡ events_of n (second ++ first) ++ events =
      sym (append_assoc (events_of n second) (events_of n first) events) ∙ ap (λ (l : List Event). l ++ events) (sym (events_append n second first)) in
      let side : (link : Link) (bytes : List ℕ) → (bytes ++ written link first) ++ written link second ≡ bytes ++ written link (second ++ first) =
      λ link bytes. append_assoc bytes (written link first) (written link second) ∙ ap (λ (l : List ℕ). bytes ++ l) (sym (wrote_append link second first)) in
      let both : more_taken n second (more_taken n first taken) ≡ more_taken n (second ++ first) taken =
      ap₂ (λ (x y : List ℕ). record { bus_side = x; client_side = y; notes = taken.notes; visible = taken.visible; held = taken.held }) (side (bus_link n) taken.bus_side) (side (client_link n) taken.client_side) in
      subst (λ (t : Taken). StandsFor policy new (events_of n (second ++ first) ++ events) t) both
      (subst (λ (es : List Event). StandsFor policy new es (more_taken n second (more_taken n first taken))) told done);
}

-- bytes that were written were taken from the session
taken_wrote : (n : ℕ) (side : Side) (bytes : List ℕ) (taken : Taken) →
    with_taken side bytes taken ≡ more_taken n (Wrote (record { session = n; side = side }) bytes ∷ []) taken
taken_wrote n Client bytes taken = rw (same_number n, append-nil) refl
taken_wrote n Bus bytes taken = rw (same_number n, append-nil) refl

pub moves_wrote : (policy : Policy) (link : Link) (old new : SessionView) (bytes : List ℕ) →
    ((events : List Event) (taken : Taken) → StandsFor policy old events taken → StandsFor policy new events (with_taken link.side bytes taken)) →
    Moves policy link.session old new (Wrote link bytes ∷ [])
unfolding events_of
moves_wrote policy link old new bytes step = record {
  each = λ events taken s. subst (λ (t : Taken). StandsFor policy new events t) (taken_wrote link.session link.side bytes taken) (step events taken s);
}

-- an entry that tells the session nothing
pub moves_quiet : (policy : Policy) (n : ℕ) (session : SessionView) (entry : Entry) →
    written_by (bus_link n) entry ≡ [] → written_by (client_link n) entry ≡ [] → events_by n entry ≡ [] → Moves policy n session session (entry ∷ [])
unfolding events_of
moves_quiet policy n session entry b c none = record {
  each = λ events taken s. rw none (subst (λ (t : Taken). StandsFor policy session events t) (sym (taken_none n (entry ∷ []) taken b c)) s);
}

-- an entry that tells the session one event
pub moves_event : (policy : Policy) (n : ℕ) (old new : SessionView) (entry : Entry) (event : Event) →
    written_by (bus_link n) entry ≡ [] → written_by (client_link n) entry ≡ [] → events_by n entry ≡ event ∷ [] →
    ((events : List Event) (taken : Taken) → StandsFor policy old events taken → StandsFor policy new (event ∷ events) taken) →
    Moves policy n old new (entry ∷ [])
unfolding events_of
moves_event policy n old new entry event b c one step = record {
  each = λ events taken s. rw one (subst (λ (t : Taken). StandsFor policy new (event ∷ events) t) (sym (taken_none n (entry ∷ []) taken b c)) (step events taken s));
}

-- a session that goes by some entries stands for some events after them
pub stood_moved : (policy : Policy) (n : ℕ) (old new : SessionView) (added : Journal) → Moves policy n old new added → Stood policy old → Stood policy new
stood_moved policy n old new added moves s = ∥∥₁_map s (λ (w : StoodFor policy old). record {
  events = events_of n added ++ w.events;
  taken = more_taken n added w.taken;
  stands = moves.each w.events w.taken w.stands;
})

-- one call that added one entry
pub goes_one : (under : Policy → Type 0) (n : ℕ) (old new : SessionView) (before after : NetView) (Shape : Journal → Type 0) (entry : Entry) →
    Adds before after (entry ∷ []) → Shape (entry ∷ []) →
    ((policy : Policy) → under policy → Moves policy n old new (entry ∷ [])) →
    ((end : End) → old.ended ≡ Some end → new.ended ≡ Some end) →
    ((policy : Policy) → under policy → Stood policy old → (end : End) → new.ended ≡ Some end → (old.ended ≡ Some end) ⊎ Cause n end before after) →
    new.mode ≡ old.mode →
    Goes under n old new before after Shape
goes_one under n old new before after Shape entry adds shape step kept cause mode = record {
  told = λ last e. let a = adds.told last e in (a.0, a.1, entry ∷ [], a.2, shape, step);
  counts = adds.counts;
  stood = λ policy u s. stood_moved policy n old new (entry ∷ []) (step policy u) s;
  end = kept;
  cause = cause;
  mode = mode;
}

-- nothing was done
pub goes_none : (under : Policy → Type 0) (n : ℕ) (session : SessionView) (net : NetView) (Shape : Journal → Type 0) →
    Shape [] → Goes under n session session net net Shape
goes_none under n session net Shape shape = record {
  told = λ last e. (last, e, [], refl, shape, λ policy u. moves_none policy n session);
  counts = λ count. omega arith;
  stood = λ policy u s. s;
  end = λ end e. e;
  cause = λ policy u s end e. inl e;
  mode = refl;
}

pub rose_later : (a b c : ℕ) → Rose a b → b ≤ c → Rose a c
rose_later a b c r h = λ k. let l : b < 2 ^ 64 - 1 = omega (arith, h, k) in let m : a < b = r l in omega (arith, m, h)

pub rose_sooner : (a b c : ℕ) → a ≤ b → Rose b c → Rose a c
rose_sooner a b c h r = λ k. let m : b < c = r k in omega (arith, m, h)

pub cause_later : (n : ℕ) (end : End) (a b c : NetView) → ((count : Count) → b.counts count ≤ c.counts count) → Cause n end a b → Cause n end a c
cause_later n ClientRead a b c h r = rose_later _ _ _ r (h (OfLink (client_link n)))
cause_later n ClientWrite a b c h r = rose_later _ _ _ r (h (OfLink (client_link n)))
cause_later n BusRead a b c h r = rose_later _ _ _ r (h (OfLink (bus_link n)))
cause_later n BusWrite a b c h r = rose_later _ _ _ r (h (OfLink (bus_link n)))
cause_later n BusConnect a b c h r = rose_later _ _ _ r (h (OfLink (bus_link n)))
cause_later n LogFault a b c h r = r
cause_later n (ClientMalformed fault) a b c h r = tt
cause_later n (BusMalformed fault) a b c h r = tt
cause_later n ClientEnd a b c h r = tt
cause_later n BusEnd a b c h r = tt
cause_later n SerialsSpent a b c h r = tt
cause_later n Memory a b c h r = tt

pub cause_sooner : (n : ℕ) (end : End) (a b c : NetView) → ((count : Count) → a.counts count ≤ b.counts count) → Cause n end b c → Cause n end a c
cause_sooner n ClientRead a b c h r = rose_sooner _ _ _ (h (OfLink (client_link n))) r
cause_sooner n ClientWrite a b c h r = rose_sooner _ _ _ (h (OfLink (client_link n))) r
cause_sooner n BusRead a b c h r = rose_sooner _ _ _ (h (OfLink (bus_link n))) r
cause_sooner n BusWrite a b c h r = rose_sooner _ _ _ (h (OfLink (bus_link n))) r
cause_sooner n BusConnect a b c h r = rose_sooner _ _ _ (h (OfLink (bus_link n))) r
cause_sooner n LogFault a b c h r = r
cause_sooner n (ClientMalformed fault) a b c h r = tt
cause_sooner n (BusMalformed fault) a b c h r = tt
cause_sooner n ClientEnd a b c h r = tt
cause_sooner n BusEnd a b c h r = tt
cause_sooner n SerialsSpent a b c h r = tt
cause_sooner n Memory a b c h r = tt

-- one after the other
pub goes_then : (under : Policy → Type 0) (n : ℕ) (old mid new : SessionView) (before between after : NetView) (First Second Both : Journal → Type 0) →
    ((first second : Journal) → First first → Second second → Both (second ++ first)) →
    Goes under n old mid before between First → Goes under n mid new between after Second →
    Goes under n old new before after Both
goes_then under n old mid new before between after First Second Both both a b = record {
  told = λ last e.
      let y = b.told last e in
      let x = a.told y.0 y.1 in
      let whole : last ≡ (y.2 ++ x.2) ++ x.0 = y.3 ∙ ap (λ (j : Journal). y.2 ++ j) x.3 ∙ sym (append_assoc y.2 x.2 x.0) in
      (x.0, x.1, y.2 ++ x.2, whole, both x.2 y.2 x.4 y.4, λ policy u. moves_then policy n old mid new x.2 y.2 (x.5 policy u) (y.5 policy u));
  counts = λ count. let h : before.counts count ≤ between.counts count = a.counts count in
      let k : between.counts count ≤ after.counts count = b.counts count in omega arith;
  stood = λ policy u s. b.stood policy u (a.stood policy u s);
  end = λ end e. b.end end (a.end end e);
  cause = λ policy u s end e. second policy u s end (b.cause policy u (a.stood policy u s) end e);
  mode = b.mode ∙ a.mode;
}
  where
    first : (end : End) → (old.ended ≡ Some end) ⊎ Cause n end before between → (old.ended ≡ Some end) ⊎ Cause n end before after
    first end (inl e) = inl e
    first end (inr c) = inr (cause_later n end before between after b.counts c)

    second : (policy : Policy) → under policy → Stood policy old → (end : End) → (mid.ended ≡ Some end) ⊎ Cause n end between after → (old.ended ≡ Some end) ⊎ Cause n end before after
    second policy u s end (inl e) = first end (a.cause policy u s end e)
    second policy u s end (inr c) = inr (cause_sooner n end before between after a.counts c)

-- what a stop tells of a session: it stands for one event more, and its End is the first one's
pub record Stops (old new : SessionView) (own result : End) : Type 0 where
  pub stands : (policy : Policy) (events : List Event) (taken : Taken) → StandsFor policy old events taken → StandsFor policy new (Stopped own ∷ events) taken
  pub answer : new ≡ ended_by result old
  pub first : old.ended ≡ None → result ≡ own
  pub last : (end : End) → old.ended ≡ Some end → result ≡ end

pub same_end : (old new : SessionView) (result end : End) → new ≡ ended_by result old → ((first : End) → old.ended ≡ Some first → result ≡ first) →
    old.ended ≡ Some end → new.ended ≡ Some end
same_end old new result end answer last e = ap (λ (v : SessionView). v.ended) answer ∙ ap (λ (x : End). Some x) (last end e)

pub stop_cause : (n : ℕ) (old new : SessionView) (own result : End) (before after : NetView) → Stops old new own result → Cause n own before after →
    (end : End) → new.ended ≡ Some end → (old.ended ≡ Some end) ⊎ Cause n end before after
stop_cause n old new own result before after stops cause end is = by_end old.ended refl
  where
    now : Some result ≡ Some end
    now = sym (ap (λ (v : SessionView). v.ended) stops.answer) ∙ is

    by_end : (o : Option End) → old.ended ≡ o → (old.ended ≡ Some end) ⊎ Cause n end before after
    by_end None e = let same : result ≡ end = let s : Some result ≡ Some end = now in cc in
        inr (subst (λ (x : End). Cause n x before after) (sym (stops.first e) ∙ same) cause)
    by_end (Some x) e = inl (e ∙ ap (λ (y : End). Some y) (sym (stops.last x e)) ∙ now)

pub stopped_mode : (old new : SessionView) (result : End) → new ≡ ended_by result old → new.mode ≡ old.mode
stopped_mode old new result answer = ap (λ (v : SessionView). v.mode) answer

writes_one : (link : Link) (entry : Entry) → is_write link entry ≡ true → all_are (is_write link) (entry ∷ []) ≡ true
unfolding all_are
writes_one link entry e = rw e refl

and_right : (x y z : Bool) → (y ≡ true → z ≡ true) → x && y ≡ true → x && z ≡ true
and_right true y z h e = h e
and_right false y z h e = cc

pub all_joined : (test : Entry → Bool) (first second : Journal) → all_are test first ≡ true → all_are test second ≡ true → all_are test (second ++ first) ≡ true
unfolding all_are
all_joined test first [] a b = a
all_joined test first (entry ∷ second) a b =
    and_right (test entry) (all_are test second) (all_are test (second ++ first)) (λ h. all_joined test first second a h) b

-- one of several passes a test
pub some_append : (test : Entry → Bool) (second first : Journal) → some_of test (second ++ first) ≡ (some_of test second || some_of test first)
unfolding some_of
some_append test [] first = refl
some_append test (entry ∷ second) first = ap (λ (b : Bool). test entry || b) (some_append test second first) ∙ or_assoc (test entry) (some_of test second) (some_of test first)
  where
    or_assoc : (x y z : Bool) → x || (y || z) ≡ (x || y) || z
    or_assoc true y z = refl
    or_assoc false y z = refl

some_one : (test : Entry → Bool) (entry : Entry) → some_of test (entry ∷ []) ≡ test entry
unfolding some_of
some_one test entry = or_false (test entry)
  where
    or_false : (x : Bool) → x || false ≡ x
    or_false true = refl
    or_false false = refl

pub or_nothing : (x y : Bool) → y ≡ x → y ≡ (x || false)
or_nothing true y e = e
or_nothing false y e = e

or_ended : (x : Bool) → true ≡ (x || true)
or_ended true = refl
or_ended false = refl

wrote_one : (link : Link) (bytes : List ℕ) → written link (Wrote link bytes ∷ []) ≡ bytes
wrote_one link bytes = rw (same_link_self link) refl

-- what a queue leaves as it is
pub left_queue : (side : Side) (queue : List ℕ) (old new : SessionView) → new ≡ with_queue side queue old → queue_of side new ≡ queue
left_queue Client queue old new e = ap (λ (v : SessionView). v.client_side) e
left_queue Bus queue old new e = ap (λ (v : SessionView). v.bus_side) e

pub queue_ended : (side : Side) (queue : List ℕ) (old new : SessionView) → new ≡ with_queue side queue old → new.ended ≡ old.ended
queue_ended Client queue old new e = ap (λ (v : SessionView). v.ended) e
queue_ended Bus queue old new e = ap (λ (v : SessionView). v.ended) e

pub queue_mode : (side : Side) (queue : List ℕ) (old new : SessionView) → new ≡ with_queue side queue old → new.mode ≡ old.mode
queue_mode Client queue old new e = ap (λ (v : SessionView). v.mode) e
queue_mode Bus queue old new e = ap (λ (v : SessionView). v.mode) e

-- one write, by its answer
pub wrote_goes : (link : Link) (old new : SessionView) (before after : NetView) (n : ℕ) (piece : List ℕ) (front : IsFront piece (queue_of link.side old)) → n ≤ length piece →
    Adds before after (Wrote link (take n piece) ∷ []) → new ≡ with_queue link.side (drop n (queue_of link.side old)) old →
    ((policy : Policy) (events : List Event) (taken : Taken) → StandsFor policy old events taken → StandsFor policy new events (with_taken link.side (take n (queue_of link.side old)) taken)) →
    Goes Any link.session old new before after (OneWrite link old new (TookBytes n))
wrote_goes link old new before after n piece front within adds view step =
    let same : take n piece ≡ take n (queue_of link.side old) = sym (take-append-le n piece front.rest within) ∙ ap (λ (l : List ℕ). take n l) front.is in
    let left : queue_of link.side new ≡ drop n (queue_of link.side old) = left_queue link.side (drop n (queue_of link.side old)) old new view in
    let ended : new.ended ≡ old.ended = queue_ended link.side (drop n (queue_of link.side old)) old new view in
    goes_one Any link.session old new before after (OneWrite link old new (TookBytes n)) (Wrote link (take n piece)) adds
    (record {
      piece = piece;
      front = front;
      is = refl;
      took = sym (take-append-drop n (queue_of link.side old)) ∙ ap₂ (λ (x y : List ℕ). x ++ y) (sym same ∙ sym (wrote_one link (take n piece))) (sym left);
      ended = or_nothing (is_some old.ended) (is_some new.ended) (ap (λ (o : Option End). is_some o) ended);
    })
    (λ policy u. moves_wrote policy link old new (take n piece) (λ events taken s. subst (λ (l : List ℕ). StandsFor policy new events (with_taken link.side l taken)) (sym same) (step policy events taken s)))
    (λ end e. ended ∙ e) (λ policy u s end e. inl (sym ended ∙ e)) (queue_mode link.side (drop n (queue_of link.side old)) old new view)

pub unwritten_goes : (link : Link) (session : SessionView) (before after : NetView) (piece : List ℕ) → IsFront piece (queue_of link.side session) →
    Adds before after (NotReady (WriteCall link) ∷ []) →
    Goes Any link.session session session before after (OneWrite link session session TookNotReady)
unwritten_goes link session before after piece front adds =
    goes_one Any link.session session session before after (OneWrite link session session TookNotReady) (NotReady (WriteCall link)) adds
    (record { piece = piece; front = front; is = refl; took = refl; ended = or_nothing (is_some session.ended) (is_some session.ended) refl })
    (λ policy u. moves_quiet policy link.session session (NotReady (WriteCall link)) refl refl refl)
    (λ end e. e) (λ policy u s end e. inl e) refl

-- so far no write failed
pub writes_none : (link : Link) (session : SessionView) → WritesOn link session session []
unfolding all_are some_of
writes_none link session = record {
  writes = record { all = refl; gone = refl; took = refl; ended = or_nothing (is_some session.ended) (is_some session.ended) refl };
  taken = refl;
  stops = refl;
}

taken_one : (link : Link) (bytes : List ℕ) → all_are (is_taken link) (Wrote link bytes ∷ []) ≡ true
unfolding all_are
taken_one link bytes = rw (same_link_self link) refl

-- one write more
module _ (link : Link) (old mid new : SessionView) (first second : Journal) (so_far : WritesOn link old mid first) where
  took_more : queue_of link.side mid ≡ written link second ++ queue_of link.side new →
      queue_of link.side old ≡ written link (second ++ first) ++ queue_of link.side new
  took_more e = so_far.writes.took ∙ ap (λ (l : List ℕ). written link first ++ l) e ∙ sym (append_assoc (written link first) (written link second) (queue_of link.side new))
      ∙ ap (λ (l : List ℕ). l ++ queue_of link.side new) (sym (wrote_append link second first))

  ended_more : (failed : Bool) → is_some new.ended ≡ (is_some mid.ended || failed) → is_some new.ended ≡ (is_some old.ended || failed)
  ended_more failed e = e ∙ ap (λ (b : Bool). b || failed) (so_far.writes.ended ∙ sym (or_nothing (is_some old.ended) (is_some old.ended) refl))

  writes_with : (entry : Entry) (failed : Bool) → second ≡ entry ∷ [] → is_write link entry ≡ true → gone_by link entry ≡ failed →
      queue_of link.side mid ≡ written link second ++ queue_of link.side new → is_some new.ended ≡ (is_some mid.ended || failed) →
      Writes link old new failed (second ++ first)
  writes_with entry failed is write gone took ended = record {
    all = all_joined (is_write link) first second so_far.writes.all (rw is (writes_one link entry write));
    gone = some_append (gone_by link) second first ∙ ap₂ (λ (x y : Bool). x || y) (ap (some_of (gone_by link)) is ∙ some_one (gone_by link) entry ∙ gone) so_far.writes.gone ∙ or_end failed;
    took = took_more took;
    ended = ended_more failed ended;
  }
    where
      or_end : (x : Bool) → x || false ≡ x
      or_end true = refl
      or_end false = refl

  stops_first : (entry : Entry) → second ≡ entry ∷ [] → only_newest_stops link (second ++ first) ≡ true
  stops_first entry is = rw is so_far.taken

  pub one_more : (n : ℕ) (answer : Took) → answer ≡ TookBytes n → OneWrite link mid new answer second → WritesOn link old new (second ++ first)
  one_more n answer e w = subst (λ (t : Took). OneWrite link mid new t second → WritesOn link old new (second ++ first)) (sym e)
      (λ o. record {
        writes = writes_with (Wrote link (take n o.piece)) false o.is (same_link_self link) refl o.took o.ended;
        taken = all_joined (is_taken link) first second so_far.taken (rw o.is (taken_one link (take n o.piece)));
        stops = stops_first (Wrote link (take n o.piece)) o.is;
      }) w

  last_first : (entry : Entry) → second ≡ entry ∷ [] → is_write link entry ≡ true → last_write link (second ++ first) ≡ Some entry
  unfolding last_write
  last_first entry is write = rw (is, write) refl

  pub then_waits : (answer : Took) → answer ≡ TookNotReady → OneWrite link mid new answer second → WroteOut link old new false (second ++ first)
  then_waits answer e w = subst (λ (t : Took). OneWrite link mid new t second → WroteOut link old new false (second ++ first)) (sym e)
      (λ o. record {
        writes = writes_with (NotReady (WriteCall link)) false o.is (same_link_self link) refl o.took o.ended;
        stops = stops_first (NotReady (WriteCall link)) o.is;
        drained = inr (inr (last_first (NotReady (WriteCall link)) o.is (same_link_self link)));
      }) w

  pub then_fails : (answer : Took) → answer ≡ TookFailed → OneWrite link mid new answer second → WroteOut link old new true (second ++ first)
  then_fails answer e w = subst (λ (t : Took). OneWrite link mid new t second → WroteOut link old new true (second ++ first)) (sym e)
      (λ o. record {
        writes = writes_with (Failed (WriteCall link)) true o.is (same_link_self link) (same_link_self link) o.took o.ended;
        stops = stops_first (Failed (WriteCall link)) o.is;
        drained = inr (inl refl);
      }) w

write_cause : (link : Link) (before after : NetView) → RoseAt (OfLink link) before after → Cause link.session (write_end link.side) before after
write_cause link before after rose = by_side link.side rose
  where
    by_side : (side : Side) → RoseAt (OfLink (record { session = link.session; side = side })) before after → Cause link.session (write_end side) before after
    by_side Client r = r
    by_side Bus r = r

read_cause : (link : Link) (before after : NetView) → RoseAt (OfLink link) before after → Cause link.session (read_end link.side) before after
read_cause link before after rose = by_side link.side rose
  where
    by_side : (side : Side) → RoseAt (OfLink (record { session = link.session; side = side })) before after → Cause link.session (read_end side) before after
    by_side Client r = r
    by_side Bus r = r

-- what a stop leaves as it is
pub stopped_queue : (side : Side) (old new : SessionView) (result : End) → new ≡ ended_by result old → queue_of side new ≡ queue_of side old
stopped_queue Client old new result e = ap (λ (v : SessionView). v.client_side) e
stopped_queue Bus old new result e = ap (λ (v : SessionView). v.bus_side) e

pub failed_write_goes : (link : Link) (old new : SessionView) (result : End) (before after : NetView) (piece : List ℕ) → IsFront piece (queue_of link.side old) →
    Adds before after (Failed (WriteCall link) ∷ []) → RoseAt (OfLink link) before after → Stops old new (write_end link.side) result →
    Goes Any link.session old new before after (OneWrite link old new TookFailed)
failed_write_goes link old new result before after piece front adds rose stops =
    let same : queue_of link.side new ≡ queue_of link.side old = stopped_queue link.side old new result stops.answer in
    goes_one Any link.session old new before after (OneWrite link old new TookFailed) (Failed (WriteCall link)) adds
    (record {
      piece = piece;
      front = front;
      is = refl;
      took = sym same;
      ended = ap (λ (v : SessionView). is_some v.ended) stops.answer ∙ or_ended (is_some old.ended);
    })
    (λ policy u. moves_event policy link.session old new (Failed (WriteCall link)) (Stopped (write_end link.side)) refl refl
    (rw (same_number link.session) refl) (stops.stands policy))
    (λ end e. same_end old new result end stops.answer stops.last e)
    (λ policy u s end e. stop_cause link.session old new (write_end link.side) result before after stops (write_cause link before after rose) end e)
    (stopped_mode old new result stops.answer)

-- a stop that tells of no refused memory
pub ended_keeps : (old new : SessionView) (result : End) → new ≡ ended_by result old → (old.ended ≡ None → is_memory (Some result) ≡ false) → ((end : End) → old.ended ≡ Some end → result ≡ end) → KeepsEnd old new
ended_keeps old new result answer own last = record {
  each = λ end e. same_end old new result end answer last e;
  notes = ap (λ (v : SessionView). v.notes) answer;
  memory = ap (λ (v : SessionView). is_memory v.ended) answer ∙ by old.ended refl;
}
  where
    by : (o : Option End) → old.ended ≡ o → is_memory (Some result) ≡ is_memory old.ended
    by None e = own e ∙ sym (ap is_memory e)
    by (Some x) e = ap (λ (y : End). is_memory (Some y)) (last x e) ∙ sym (ap is_memory e)

write_end_plain : (side : Side) → is_memory (Some (write_end side)) ≡ false
write_end_plain Client = refl
write_end_plain Bus = refl

read_end_plain : (side : Side) → is_memory (Some (read_end side)) ≡ false
read_end_plain Client = refl
read_end_plain Bus = refl

pub stop_write_keeps : (side : Side) (old new : SessionView) (result : End) → Stops old new (write_end side) result → KeepsEnd old new
stop_write_keeps side old new result stops =
    ended_keeps old new result stops.answer (λ e. ap (λ (x : End). is_memory (Some x)) (stops.first e) ∙ write_end_plain side) stops.last

-- what a queue leaves as it is
pub queue_keeps : (side : Side) (queue : List ℕ) (old new : SessionView) → new ≡ with_queue side queue old → KeepsEnd old new
queue_keeps Client queue old new e = record {
  each = λ end h. ap (λ (v : SessionView). v.ended) e ∙ h;
  notes = ap (λ (v : SessionView). v.notes) e;
  memory = ap (λ (v : SessionView). is_memory v.ended) e;
}
queue_keeps Bus queue old new e = record {
  each = λ end h. ap (λ (v : SessionView). v.ended) e ∙ h;
  notes = ap (λ (v : SessionView). v.notes) e;
  memory = ap (λ (v : SessionView). is_memory v.ended) e;
}

pub end_none : (a : SessionView) → KeepsEnd a a
end_none a = record { each = λ end e. e; notes = refl; memory = refl }

pub end_then : (a b c : SessionView) → KeepsEnd a b → KeepsEnd b c → KeepsEnd a c
end_then a b c x y = record { each = λ end e. y.each end (x.each end e); notes = y.notes ∙ x.notes; memory = y.memory ∙ x.memory }

-- what takes nothing that waits
pub waits_none : (a : SessionView) → KeepsWaiting a a
waits_none a = record { client = record { rest = []; is = append-nil a.client_side }; bus = record { rest = []; is = append-nil a.bus_side } }

waits_ended : (old new : SessionView) (result : End) → new ≡ ended_by result old → KeepsWaiting old new
waits_ended old new result answer = record {
  client = record { rest = []; is = append-nil old.client_side ∙ sym (ap (λ (v : SessionView). v.client_side) answer) };
  bus = record { rest = []; is = append-nil old.bus_side ∙ sym (ap (λ (v : SessionView). v.bus_side) answer) };
}

pub some_room : (into : List ℕ) → length into ≡ read_room → 0 < length into
some_room into e = omega (arith, e)

-- one read, by its answer
module _ (policy : Policy) (link : Link) (old new : SessionView) (before after : NetView) (into : List ℕ) (room : length into ≡ read_room) where
  read_one : (answer : Got) (gone : Bool) → Adds before after (read_entry link into answer ∷ []) → ((n : ℕ) → answer ≡ GotBytes n → (0 < n) × (n ≤ read_room)) →
      gone_by link (read_entry link into answer) ≡ gone → Moves policy link.session old new (read_entry link into answer ∷ []) →
      ((end : End) → old.ended ≡ Some end → new.ended ≡ Some end) →
      (Stood policy old → (end : End) → new.ended ≡ Some end → (old.ended ≡ Some end) ⊎ Cause link.session end before after) → new.mode ≡ old.mode →
      KeepsWaiting old new → (gave_bytes (read_entry link into answer) ≡ false → KeepsEnd old new) → Goes (Only policy) link.session old new before after (FedOnce link old new gone)
  read_one answer gone adds progress is moves kept cause mode waits unfed =
      goes_one (Only policy) link.session old new before after (FedOnce link old new gone) (read_entry link into answer) adds
      (record {
        once = record { into = into; answer = answer; room = room; progress = progress; one = refl; gone = is };
        waits = waits;
        unfed = λ e. unfed (sym (some_one gave_bytes (read_entry link into answer)) ∙ e);
      })
      (λ p u. subst (λ (x : Policy). Moves x link.session old new (read_entry link into answer ∷ [])) (sym u) moves) kept
      (λ p u s end e. cause (subst (λ (x : Policy). Stood x old) u s) end e) mode

  pub failed_read_goes : (result : End) → Adds before after (Failed (ReadCall link) ∷ []) → RoseAt (OfLink link) before after →
      Stops old new (read_end link.side) result →
      Goes (Only policy) link.session old new before after (FedOnce link old new true)
  failed_read_goes result adds rose stops =
      read_one GotFailed true adds (λ n e. cc) (same_link_self link)
      (moves_event policy link.session old new (Failed (ReadCall link)) (Stopped (read_end link.side)) refl refl (rw (same_number link.session) refl) (stops.stands policy))
      (λ end e. same_end old new result end stops.answer stops.last e)
      (λ s end e. stop_cause link.session old new (read_end link.side) result before after stops (read_cause link before after rose) end e)
      (stopped_mode old new result stops.answer) (waits_ended old new result stops.answer)
      (λ e. ended_keeps old new result stops.answer (λ none. ap (λ (x : End). is_memory (Some x)) (stops.first none) ∙ read_end_plain link.side) stops.last)

  -- an entry that tells an event other than a stop
  plain_goes : (answer : Got) (gone : Bool) (event : Event) → Adds before after (read_entry link into answer ∷ []) → ((n : ℕ) → answer ≡ GotBytes n → (0 < n) × (n ≤ read_room)) →
      gone_by link (read_entry link into answer) ≡ gone → written_by (bus_link link.session) (read_entry link into answer) ≡ [] →
      written_by (client_link link.session) (read_entry link into answer) ≡ [] → events_by link.session (read_entry link into answer) ≡ event ∷ [] → is_plain event ≡ true →
      ((events : List Event) (taken : Taken) → StandsFor policy old events taken → StandsFor policy new (event ∷ events) taken) →
      ((end : End) → old.ended ≡ Some end → new.ended ≡ Some end) → new.mode ≡ old.mode → KeepsWaiting old new →
      (gave_bytes (read_entry link into answer) ≡ false → KeepsEnd old new) → Goes (Only policy) link.session old new before after (FedOnce link old new gone)
  plain_goes answer gone event adds progress is bus client one plain step kept mode waits unfed =
      read_one answer gone adds progress is (moves_event policy link.session old new (read_entry link into answer) event bus client one step) kept
      (λ s end e. event_cause policy link.session old new before after event plain step kept mode s end e) mode waits unfed

  pub read_goes : (n : ℕ) → Adds before after (Read link (take n into) ∷ []) → 0 < n → n ≤ length into →
      ((events : List Event) (taken : Taken) → StandsFor policy old events taken → StandsFor policy new (Bytes (side_of link.side) (take n into) ∷ events) taken) →
      ((end : End) → old.ended ≡ Some end → new ≡ old) → new.mode ≡ old.mode → KeepsWaiting old new →
      Goes (Only policy) link.session old new before after (FedOnce link old new false)
  read_goes n adds some within step last mode waits =
      plain_goes (GotBytes n) false (Bytes (side_of link.side) (take n into)) adds
      (λ m e. let same : n ≡ m = cc in (subst (λ (k : ℕ). 0 < k) same some, subst (λ (k : ℕ). m ≤ k) room (subst (λ (k : ℕ). k ≤ length into) same within)))
      refl refl refl (rw (same_number link.session) refl) refl step
      (λ end e. ap (λ (v : SessionView). v.ended) (last end e) ∙ e) mode waits (λ e. cc)

  pub finished_goes : (result : End) → Adds before after (Finished link ∷ []) →
      ((events : List Event) (taken : Taken) → StandsFor policy old events taken → StandsFor policy new (FinishedEvent (side_of link.side) ∷ events) taken) →
      new ≡ ended_by result old → (old.ended ≡ None → is_memory (Some result) ≡ false) → ((end : End) → old.ended ≡ Some end → result ≡ end) →
      Goes (Only policy) link.session old new before after (FedOnce link old new true)
  finished_goes result adds step answer own last =
      plain_goes GotFinished true (FinishedEvent (side_of link.side)) adds (λ n e. cc) (same_link_self link) refl refl (rw (same_number link.session) refl) refl step
      (λ end e. same_end old new result end answer last e) (stopped_mode old new result answer) (waits_ended old new result answer) (λ e. ended_keeps old new result answer own last)

  pub unread_goes : new ≡ old → Adds before after (NotReady (ReadCall link) ∷ []) → Goes (Only policy) link.session old new before after (FedOnce link old new false)
  unread_goes same adds =
      read_one GotNotReady false adds (λ n e. cc) refl
      (subst (λ (s : SessionView). Moves policy link.session old s (NotReady (ReadCall link) ∷ [])) (sym same)
      (moves_quiet policy link.session old (NotReady (ReadCall link)) refl refl refl))
      (λ end e. ap (λ (s : SessionView). s.ended) same ∙ e) (λ s end e. inl (sym (ap (λ (s : SessionView). s.ended) same) ∙ e)) (ap (λ (s : SessionView). s.mode) same)
      (subst (λ (s : SessionView). KeepsWaiting old s) (sym same) (waits_none old))
      (λ e. subst (λ (s : SessionView). KeepsEnd old s) (sym same) (end_none old))

pub wishes_none : (a : NetView) → KeepsWishes a a
wishes_none a = record { each = λ l. refl }

pub wishes_then : (a b c : NetView) → KeepsWishes a b → KeepsWishes b c → KeepsWishes a c
wishes_then a b c x y = record { each = λ l. y.each l ∙ x.each l }

pub shut_goes : (link : Link) (session : SessionView) (before after : NetView) (here : Bool) → here ≡ true →
    Adds before after (Shut link ∷ []) → Goes Any link.session session session before after (ShutWhere link here)
shut_goes link session before after here is adds =
    goes_one Any link.session session session before after (ShutWhere link here) (Shut link) adds
    (record { is = rw is refl })
    (λ policy u. moves_quiet policy link.session session (Shut link) refl refl refl)
    (λ end e. e) (λ policy u s end e. inl e) refl

pub unshut_goes : (link : Link) (session : SessionView) (net : NetView) (here : Bool) → here ≡ false →
    Goes Any link.session session session net net (ShutWhere link here)
unshut_goes link session net here is =
    goes_none Any link.session session net (ShutWhere link here) (record { is = rw is refl })

pub goes_under : (under other : Policy → Type 0) (n : ℕ) (old new : SessionView) (before after : NetView) (Shape : Journal → Type 0) →
    ((policy : Policy) → other policy → under policy) → Goes under n old new before after Shape → Goes other n old new before after Shape
goes_under under other n old new before after Shape f g = record {
  told = λ last e. let x = g.told last e in (x.0, x.1, x.2, x.3, x.4, λ policy u. x.5 policy (f policy u));
  counts = g.counts;
  stood = λ policy u s. g.stood policy (f policy u) s;
  end = g.end;
  cause = λ policy u s. g.cause policy (f policy u) s;
  mode = g.mode;
}

pub goes_any : (policy : Policy) (n : ℕ) (old new : SessionView) (before after : NetView) (Shape : Journal → Type 0) →
    Goes Any n old new before after Shape → Goes (Only policy) n old new before after Shape
goes_any policy n old new before after Shape g = goes_under Any (Only policy) n old new before after Shape (λ p u. tt) g

pub goes_map : (under : Policy → Type 0) (n : ℕ) (old new : SessionView) (before after : NetView) (P Q : Journal → Type 0) →
    ((added : Journal) → P added → Q added) → Goes under n old new before after P → Goes under n old new before after Q
goes_map under n old new before after P Q f g = record {
  told = λ last e. let x = g.told last e in (x.0, x.1, x.2, x.3, f x.2 x.4, x.5);
  counts = g.counts;
  stood = g.stood;
  end = g.end;
  cause = g.cause;
  mode = g.mode;
}

pub not_failed : (x y b : Bool) → b ≡ false → y ≡ (x || b) → y ≡ x
not_failed true y false e h = h
not_failed false y false e h = h
not_failed x y true e h = cc

pub drained_out : (link : Link) (old new : SessionView) (added : Journal) → queue_of link.side new ≡ [] → WritesOn link old new added → WroteOut link old new false added
drained_out link old new added e w = record { writes = w.writes; stops = w.stops; drained = inl e }
