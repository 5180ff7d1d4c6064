-- The calls of one turn for one session, joined.
use Rattle.std.proofs.Common.{ℕ, nat_eq, ◌≡◌, ◌⊎◌, inl, inr, Bool, true, false, ◌&&◌, ◌||◌, not, is_some, List, [], ◌∷◌, ◌++◌, Option, Some, None, if◌then◌else◌, refl, ap, ap₂, ◌∙◌, sym, subst, append-nil, arith}
use Rattle.link_traits.specs.Journals.{Journal, same_side, same_link, written, written_by}
use Rattle.link_traits.specs.Told.{Rose}
use Rattle.link_traits.specs.Views.{NetView, SinkView}
use Rattle.link_traits.specs.Answers.{client_link, bus_link, read_entry}
use Rattle.link_traits.specs.Entries.{Entry, not_ready as NotReady, shut as Shut}
use Rattle.link_traits.specs.declared.links.Got.{Got}
use Rattle.link_traits.specs.declared.links.Got.TheVariants.{Bytes as GotBytes, Finished as GotFinished, NotReady as GotNotReady, Failed as GotFailed}
use Rattle.link_traits.specs.declared.links.Side.{Side}
use Rattle.link_traits.specs.declared.links.Side.TheVariants.{Client, Bus}
use Rattle.link_traits.specs.declared.links.Link.{Link}
use Rattle.link_traits.specs.declared.links.Call.TheVariants.{Write as WriteCall}
use Rattle.policy_args.specs.Policy.{Policy}
use Rattle.policy_view.specs.declared.End.{End}
use Rattle.policy_view.specs.declared.End.TheVariants.{LogFault}
use Rattle.proxy_core.specs.Sessions.{SessionView, Taken, StandsFor, IsFront, is_memory}
use Rattle.proxy_loop.specs.declared.serving.Running.{Running}
use Rattle.proxy_loop.specs.Kinds.{is_write, is_read, writes_of, gave_bytes, all_are, some_of, gone_by, last_write, first_of}
use Rattle.proxy_loop.specs.Works.{Any, Only, Goes, OneRead, FedOnce, KeepsEnd, ShutWhere, ShutBoth, link_at, IsDrained, KeepsWaiting}
use Rattle.proxy_loop.specs.Writing.{Written}
use Rattle.proxy_loop.specs.Logging.{stopped_at, LogEnds, Logs}
use Rattle.proxy_loop.specs.Runs.{Sound, WroteBoth, Reads, LogsIf, ReadPart, WrittenUnless, IsLogEnd, ReadsAndLogs, pick_side}
use Rattle.proxy_loop.proofs.KindCases.{read_cases, write_cases}
use Rattle.proxy_loop.proofs.Holding.{same_link_self, waits_none, goes_then, goes_none, goes_map, all_joined, wrote_append, some_append}
use Rattle.proxy_loop.proofs.Logged.{appends_none}

-- two links that are never the same
pub record Apart (a b : Link) : Type 0 where
  pub each : (at : Link) → same_link a at ≡ true → same_link b at ≡ false

other_side : (n : ℕ) (s t : Side) → ((x : Side) → same_side s x ≡ true → same_side t x ≡ false) → Apart (link_at n s) (link_at n t)
other_side n s t h = record { each = λ at e. by_number (nat_eq n at.session) (same_side s at.side) (same_side t at.side) (h at.side) e }
  where
    by_number : (b x y : Bool) → (x ≡ true → y ≡ false) → b && x ≡ true → b && y ≡ false
    by_number true x y k e = k e
    by_number false x y k e = refl

bus_only : (x : Side) → same_side Bus x ≡ true → same_side Client x ≡ false
bus_only Client e = cc
bus_only Bus e = refl

client_only : (x : Side) → same_side Client x ≡ true → same_side Bus x ≡ false
client_only Client e = refl
client_only Bus e = cc

pub bus_apart : (n : ℕ) → Apart (bus_link n) (client_link n)
bus_apart n = other_side n Bus Client bus_only

pub client_apart : (n : ℕ) → Apart (client_link n) (bus_link n)
client_apart n = other_side n Client Bus client_only

and_first : (x y : Bool) → x && y ≡ true → x ≡ true
and_first true y h = refl
and_first false y h = cc

and_second : (x y : Bool) → x && y ≡ true → y ≡ true
and_second true y h = h
and_second false y h = cc

-- what a call of one link is for another
module _ (a b : Link) (apart : Apart a b) where
  pub write_other : (entry : Entry) → is_write a entry ≡ true → is_write b entry ≡ false
  write_other entry h = write_cases (λ (e : Entry). is_write b e ≡ false) a entry h (λ at bytes same. apart.each at same) apart.each apart.each

  pub write_gone_other : (entry : Entry) → is_write a entry ≡ true → gone_by b entry ≡ false
  write_gone_other entry h = write_cases (λ (e : Entry). gone_by b e ≡ false) a entry h (λ at bytes same. refl) (λ at same. refl) apart.each

  write_wrote_other : (entry : Entry) → is_write a entry ≡ true → written_by b entry ≡ []
  write_wrote_other entry h = write_cases (λ (e : Entry). written_by b e ≡ []) a entry h (λ at bytes same. rw (apart.each at same) refl) (λ at same. refl) (λ at same. refl)

  pub read_gone_other : (entry : Entry) → is_read a entry ≡ true → gone_by b entry ≡ false
  read_gone_other entry h = read_cases (λ (e : Entry). gone_by b e ≡ false) a entry h (λ at bytes same. refl) apart.each (λ at same. refl) apart.each

  pub wrote_other : (added : Journal) → all_are (is_write a) added ≡ true → written b added ≡ []
  unfolding all_are
  wrote_other [] h = refl
  wrote_other (entry ∷ added) h =
      rw (write_wrote_other entry (and_first (is_write a entry) (all_are (is_write a) added) h), append-nil (written b added))
      (wrote_other added (and_second (is_write a entry) (all_are (is_write a) added) h))

  pub skip_writes : (added first : Journal) → all_are (is_write a) added ≡ true → last_write b (added ++ first) ≡ last_write b first
  unfolding all_are last_write
  skip_writes [] first h = refl
  skip_writes (entry ∷ added) first h =
      let none : is_write b entry ≡ false = write_other entry (and_first (is_write a entry) (all_are (is_write a) added) h) in
      let rest : last_write b (added ++ first) ≡ last_write b first = skip_writes added first (and_second (is_write a entry) (all_are (is_write a) added) h) in
      ap (λ (x : Bool). first_of x entry (last_write b (added ++ first))) none ∙ rest

pub none_of : (f g : Entry → Bool) → ((entry : Entry) → f entry ≡ true → g entry ≡ false) → (added : Journal) → all_are f added ≡ true → some_of g added ≡ false
unfolding all_are some_of
none_of f g h [] a = refl
none_of f g h (entry ∷ added) a =
    rw (h entry (and_first (f entry) (all_are f added) a)) (none_of f g h added (and_second (f entry) (all_are f added) a))

pub all_implied : (f g : Entry → Bool) → ((entry : Entry) → f entry ≡ true → g entry ≡ true) → (added : Journal) →
    all_are f added ≡ true → all_are g added ≡ true
unfolding all_are
all_implied f g h [] a = refl
all_implied f g h (entry ∷ added) a = both (f entry) (g entry) (all_are f added) (all_are g added) (h entry) (all_implied f g h added) a
  where
    both : (x y p q : Bool) → (x ≡ true → y ≡ true) → (p ≡ true → q ≡ true) → x && p ≡ true → y && q ≡ true
    both true y p q h k e = rw (h refl) (k e)
    both false y p q h k e = cc

or_left : (x y : Bool) → x ≡ true → x || y ≡ true
or_left true y h = refl
or_left false y h = cc

or_right : (x y : Bool) → y ≡ true → x || y ≡ true
or_right true y h = refl
or_right false y h = h

pub or_assoc : (x y z : Bool) → (x || y) || z ≡ x || (y || z)
or_assoc true y z = refl
or_assoc false y z = refl

pub or_none : (x : Bool) → x || false ≡ x
or_none true = refl
or_none false = refl

-- the newest write of a link is that of the newest part that has one
pub last_newer : (link : Link) (newer older : Journal) (entry : Entry) → last_write link newer ≡ Some entry → last_write link (newer ++ older) ≡ Some entry
unfolding last_write
last_newer link [] older entry h = cc
last_newer link (e ∷ newer) older entry h = by_test (is_write link e) (last_newer link newer older entry) h
  where
    by_test : (b : Bool) → (last_write link newer ≡ Some entry → last_write link (newer ++ older) ≡ Some entry) →
        first_of b e (last_write link newer) ≡ Some entry → first_of b e (last_write link (newer ++ older)) ≡ Some entry
    by_test true rest k = k
    by_test false rest k = rest k

-- the writes to the client, and then those to the bus
module _ (n : ℕ) (r0 r2 : Running) (s1 : SessionView) (first second : Journal)
    (a : Written (client_link n) r0.session s1 r0.client r2.client first) (b : Written (bus_link n) s1 r2.session r0.bus r2.bus second)
    (bus_kept : s1.bus_side ≡ r0.session.bus_side) (client_kept : r2.session.client_side ≡ s1.client_side) where
  client_after : some_of (gone_by (client_link n)) (second ++ first) ≡ some_of (gone_by (client_link n)) first
  client_after = some_append (gone_by (client_link n)) second first
      ∙ ap (λ (x : Bool). x || some_of (gone_by (client_link n)) first) (none_of (is_write (bus_link n)) (gone_by (client_link n)) (write_gone_other (bus_link n) (client_link n) (bus_apart n)) second b.all)

  bus_after : some_of (gone_by (bus_link n)) (second ++ first) ≡ some_of (gone_by (bus_link n)) second
  bus_after = some_append (gone_by (bus_link n)) second first
      ∙ ap (λ (x : Bool). some_of (gone_by (bus_link n)) second || x) (none_of (is_write (client_link n)) (gone_by (bus_link n)) (write_gone_other (client_link n) (bus_link n) (client_apart n)) first a.all)
      ∙ or_none (some_of (gone_by (bus_link n)) second)

  client_wrote : written (client_link n) (second ++ first) ≡ written (client_link n) first
  client_wrote = wrote_append (client_link n) second first
      ∙ ap (λ (l : List ℕ). written (client_link n) first ++ l) (wrote_other (bus_link n) (client_link n) (bus_apart n) second b.all) ∙ append-nil (written (client_link n) first)

  bus_wrote : written (bus_link n) (second ++ first) ≡ written (bus_link n) second
  bus_wrote = wrote_append (bus_link n) second first
      ∙ ap (λ (l : List ℕ). l ++ written (bus_link n) second) (wrote_other (client_link n) (bus_link n) (client_apart n) first a.all)

  client_drained : IsDrained (client_link n) s1.client_side (r2.client.gone || r2.client.shut) first → IsDrained (client_link n) r2.session.client_side (r2.client.gone || r2.client.shut) (second ++ first)
  client_drained (inl e) = inl (client_kept ∙ e)
  client_drained (inr (inl e)) = inr (inl e)
  client_drained (inr (inr e)) = inr (inr (skip_writes (bus_link n) (client_link n) (bus_apart n) second first b.all ∙ e))

  bus_drained : IsDrained (bus_link n) r2.session.bus_side (r2.bus.gone || r2.bus.shut) second → IsDrained (bus_link n) r2.session.bus_side (r2.bus.gone || r2.bus.shut) (second ++ first)
  bus_drained (inl e) = inl e
  bus_drained (inr (inl e)) = inr (inl e)
  bus_drained (inr (inr e)) = inr (inr (last_newer (bus_link n) second first (NotReady (WriteCall (bus_link n))) e))

  pub wrote_both : WroteBoth n r0 r2 (second ++ first)
  wrote_both = record {
    all = all_joined (writes_of n) first second
        (all_implied (is_write (client_link n)) (writes_of n) (λ e h. or_left (is_write (client_link n) e) (is_write (bus_link n) e) h) first a.all)
        (all_implied (is_write (bus_link n)) (writes_of n) (λ e h. or_right (is_write (client_link n) e) (is_write (bus_link n) e) h) second b.all);
    order = record {
      to_client = first;
      to_bus = second;
      is = refl;
      client = record { all = a.all; stops = a.stops; none = a.none };
      bus = record { all = b.all; stops = b.stops; none = b.none };
    };
    client_took = a.took ∙ ap₂ (λ (x y : List ℕ). x ++ y) (sym client_wrote) (sym client_kept);
    bus_took = sym bus_kept ∙ b.took ∙ ap (λ (x : List ℕ). x ++ r2.session.bus_side) (sym bus_wrote);
    client_gone = a.gone ∙ ap (λ (x : Bool). x || r0.client.gone) (sym client_after);
    bus_gone = b.gone ∙ ap (λ (x : Bool). x || r0.bus.gone) (sym bus_after);
    ended = b.ended ∙ ap (λ (x : Bool). x || some_of (gone_by (bus_link n)) second) a.ended
        ∙ or_assoc (is_some r0.session.ended) (some_of (gone_by (client_link n)) first) (some_of (gone_by (bus_link n)) second)
        ∙ ap₂ (λ (x y : Bool). is_some r0.session.ended || (x || y)) (sym client_after) (sym bus_after);
    client_drained = client_drained a.drained;
    bus_drained = bus_drained b.drained;
  }

pub both_goes : (under : Policy → Type 0) (n : ℕ) (r0 r2 : Running) (s1 : SessionView) (v0 v1 v2 : NetView) →
    s1.bus_side ≡ r0.session.bus_side → r2.session.client_side ≡ s1.client_side →
    Goes under n r0.session s1 v0 v1 (Written (client_link n) r0.session s1 r0.client r2.client) →
    Goes under n s1 r2.session v1 v2 (Written (bus_link n) s1 r2.session r0.bus r2.bus) →
    Goes under n r0.session r2.session v0 v2 (WroteBoth n r0 r2)
both_goes under n r0 r2 s1 v0 v1 v2 bus_kept client_kept a b =
    goes_then under n r0.session s1 r2.session v0 v1 v2 (Written (client_link n) r0.session s1 r0.client r2.client)
    (Written (bus_link n) s1 r2.session r0.bus r2.bus) (WroteBoth n r0 r2)
    (λ first second p q. wrote_both n r0 r2 s1 first second p q bus_kept client_kept) a b

-- links that are shut
pub shut_both_goes : (under : Policy → Type 0) (n : ℕ) (session : SessionView) (v0 v1 v2 : NetView) (client bus : Bool) →
    Goes under n session session v0 v1 (ShutWhere (client_link n) client) →
    Goes under n session session v1 v2 (ShutWhere (bus_link n) bus) →
    Goes under n session session v0 v2 (ShutBoth n client bus)
shut_both_goes under n session v0 v1 v2 client bus a b =
    goes_then under n session session session v0 v1 v2 (ShutWhere (client_link n) client) (ShutWhere (bus_link n) bus) (ShutBoth n client bus)
    (λ first second p q. record { is = ap (λ (j : Journal). j ++ first) q.is ∙ ap (λ (j : Journal). (if bus then Shut (bus_link n) ∷ [] else []) ++ j) p.is }) a b

-- a link that was shut now
pub now_shut : (shut now after : Bool) → after ≡ (shut || now) → (not shut && now) ≡ (not shut && after)
now_shut true now after e = refl
now_shut false now after e = sym e

pub shut_flags_goes : (n : ℕ) (session : SessionView) (v0 v1 v2 : NetView) (client client2 bus bus2 : Bool) → client ≡ client2 → bus ≡ bus2 →
    Goes Any n session session v0 v1 (ShutWhere (client_link n) client) →
    Goes Any n session session v1 v2 (ShutWhere (bus_link n) bus) →
    Goes Any n session session v0 v2 (ShutBoth n client2 bus2)
shut_flags_goes n session v0 v1 v2 client client2 bus bus2 e f a b =
    shut_both_goes Any n session v0 v1 v2 client2 bus2
    (subst (λ (x : Bool). Goes Any n session session v0 v1 (ShutWhere (client_link n) x)) e a)
    (subst (λ (x : Bool). Goes Any n session session v1 v2 (ShutWhere (bus_link n) x)) f b)

-- one read, as it leaves the states of the links
or_was : (x old : Bool) → old ≡ false → x ≡ (x || old)
or_was true old e = refl
or_was false old e = sym e

pub read_is : (link : Link) (into : List ℕ) (answer : Got) → is_read link (read_entry link into answer) ≡ true
read_is link into (GotBytes n) = same_link_self link
read_is link into GotFinished = same_link_self link
read_is link into GotNotReady = same_link_self link
read_is link into GotFailed = same_link_self link

read_part : (n : ℕ) (side : Side) (r0 r1 : Running) (gone : Bool) (added : Journal) → OneRead (link_at n side) gone added →
    r0.client.gone ≡ false → r0.bus.gone ≡ false →
    r1.client.gone ≡ pick_side side gone r0.client.gone → r1.bus.gone ≡ pick_side side r0.bus.gone gone → KeepsWaiting r0.session r1.session →
    (some_of gave_bytes added ≡ false → is_memory r1.session.ended ≡ is_memory r0.session.ended) → ReadPart n side false r0 r1 added
unfolding some_of
read_part n Client r0 r1 gone added o c b client bus waits unfed =
    let own : some_of (gone_by (client_link n)) added ≡ gone = ap (some_of (gone_by (client_link n))) o.one ∙ ap (λ (x : Bool). x || false) o.gone ∙ or_none gone in
    let other : some_of (gone_by (bus_link n)) added ≡ false =
    ap (some_of (gone_by (bus_link n))) o.one ∙ ap (λ (x : Bool). x || false) (read_gone_other (client_link n) (bus_link n) (client_apart n) (read_entry (client_link n) o.into o.answer) (read_is (client_link n) o.into o.answer)) in
    record {
      once = (gone, o);
      client_gone = client ∙ or_was gone r0.client.gone c ∙ ap (λ (x : Bool). x || r0.client.gone) (sym own);
      bus_gone = bus ∙ ap (λ (x : Bool). x || r0.bus.gone) (sym other);
      waits = waits;
      unfed = unfed;
    }
read_part n Bus r0 r1 gone added o c b client bus waits unfed =
    let own : some_of (gone_by (bus_link n)) added ≡ gone = ap (some_of (gone_by (bus_link n))) o.one ∙ ap (λ (x : Bool). x || false) o.gone ∙ or_none gone in
    let other : some_of (gone_by (client_link n)) added ≡ false =
    ap (some_of (gone_by (client_link n))) o.one ∙ ap (λ (x : Bool). x || false) (read_gone_other (bus_link n) (client_link n) (bus_apart n) (read_entry (bus_link n) o.into o.answer) (read_is (bus_link n) o.into o.answer)) in
    record {
      once = (gone, o);
      client_gone = client ∙ ap (λ (x : Bool). x || r0.client.gone) (sym other);
      bus_gone = bus ∙ or_was gone r0.bus.gone b ∙ ap (λ (x : Bool). x || r0.bus.gone) (sym own);
      waits = waits;
      unfed = unfed;
    }

not_gone : (gone : Bool) (ended : Option End) → (gone ≡ true → is_some ended ≡ true) → ended ≡ None → gone ≡ false
not_gone false ended h e = refl
not_gone true ended h e = let t : is_some ended ≡ true = h refl in let f : is_some ended ≡ false = ap (λ (o : Option End). is_some o) e in cc

nothing_more : (was : Taken) → was ≡ record was { notes = was.notes ++ [] }
nothing_more was = rw (append-nil was.notes) refl

-- what waits for either side, if the queues are the same
same_queues : (old mid new : SessionView) → new.bus_side ≡ mid.bus_side → new.client_side ≡ mid.client_side → KeepsWaiting old mid → KeepsWaiting old new
same_queues old mid new b c g = record {
  client = subst (λ (l : List ℕ). IsFront old.client_side l) (sym c) g.client;
  bus = subst (λ (l : List ℕ). IsFront old.bus_side l) (sym b) g.bus;
}

-- nothing is read
pub reads_idle : (policy : Policy) (log : Bool) (n : ℕ) (side : Side) (idle : Bool) (running : Running) (net : NetView) (sink : SinkView) → idle ≡ true →
    ReadsAndLogs policy log n side idle running running net net sink sink
unfolding some_of
reads_idle policy log n side idle running net sink e = record {
  fed = running.session;
  goes = goes_none (Only policy) n running.session net (ReadPart n side idle running running) (rw e (record { once = refl; client_gone = refl; bus_gone = refl; waits = waits_none running.session; unfed = λ h. refl }));
  taken = [];
  lines = [];
  rest = [];
  failed = false;
  still = λ h. refl;
  logged = λ h. cc;
  unread = λ h. refl;
  stands = λ p events was s. subst (λ (t : Taken). StandsFor p running.session events t) (nothing_more was) s;
  is = refl;
  appends = appends_none sink;
  counts = omega arith;
  written = refl;
  all = λ l s h. h;
  end = λ end h. h;
  stopped = λ h. cc;
  cause = λ end h. inl h;
  mode = refl;
  unlogged = λ h. refl;
}

-- one read, and the lines of the notes
module _ (policy : Policy) (n : ℕ) (side : Side) (idle : Bool) (r0 r1 r2 : Running) (v0 v1 : NetView) (l0 l1 : SinkView)
    (busy : idle ≡ false) (sound : Sound r0) (runs : r0.session.ended ≡ None) (reads : Reads policy n side r0 r1 v0 v1)
    (client : r2.client.gone ≡ r1.client.gone) (bus : r2.bus.gone ≡ r1.bus.gone) where
  fed_goes : (KeepsWaiting r0.session r1.session → KeepsWaiting r0.session r2.session) → (KeepsEnd r0.session r1.session → is_memory r2.session.ended ≡ is_memory r0.session.ended) →
      Goes (Only policy) n r0.session r1.session v0 v1 (ReadPart n side idle r0 r2)
  fed_goes waits unfed = goes_map (Only policy) n r0.session r1.session v0 v1 (FedOnce (link_at n side) r0.session r1.session reads.gone) (ReadPart n side idle r0 r2)
      (λ added o. rw busy (read_part n side r0 r2 reads.gone added o.once
      (not_gone r0.client.gone r0.session.ended sound.client runs) (not_gone r0.bus.gone r0.session.ended sound.bus runs)
      (client ∙ reads.client_gone) (bus ∙ reads.bus_gone) (waits o.waits) (λ e. unfed (o.unfed e))))
      reads.goes

  pub reads_unlogged : r2.session ≡ r1.session → l1 ≡ l0 → ReadsAndLogs policy false n side idle r0 r2 v0 v1 l0 l1
  reads_unlogged same quiet = record {
    fed = r1.session;
    goes = fed_goes (λ g. subst (λ (s : SessionView). KeepsWaiting r0.session s) (sym same) g) (λ k. ap (λ (s : SessionView). is_memory s.ended) same ∙ k.memory);
    taken = [];
    lines = [];
    rest = [];
    failed = false;
    still = λ h. refl;
    logged = λ h. cc;
    unread = λ h. refl;
    stands = λ p events was s. rw same (subst (λ (t : Taken). StandsFor p r1.session events t) (nothing_more was) s);
    is = refl;
    appends = rw quiet (appends_none l0);
    counts = rw quiet (omega arith);
    written = refl;
    all = λ l s h. cc;
    end = λ end h. rw same h;
    stopped = λ h. cc;
    cause = λ end h. inl (rw same at h);
    mode = ap (λ (s : SessionView). s.mode) same;
    unlogged = λ h. quiet;
  }

  module _ (logs : Logs n r1.session r2.session l0 l1) where
    stop_view : logs.failed ≡ true → Rose l0.faults l1.faults × (r2.session ≡ stopped_at r1.session.ended LogFault (record r1.session { notes = logs.left }))
    stop_view e = by logs.failed e logs.ends
      where
        by : (failed : Bool) → failed ≡ true → LogEnds failed r1.session r2.session logs.left logs.rest l0 l1 →
            Rose l0.faults l1.faults × (r2.session ≡ stopped_at r1.session.ended LogFault (record r1.session { notes = logs.left }))
        by false h w = cc
        by true h w = w

    is_stopped : logs.failed ≡ true → is_some r2.session.ended ≡ true
    is_stopped e = ap (λ (s : SessionView). is_some s.ended) (stop_view e).1 ∙ by r1.session.ended refl
      where
        by : (o : Option End) → r1.session.ended ≡ o → is_some (stopped_at o LogFault (record r1.session { notes = logs.left })).ended ≡ true
        by None h = refl
        by (Some x) h = ap (λ (o : Option End). is_some o) h

    whole_view : logs.failed ≡ false → (logs.rest ≡ []) × (r2.session ≡ record r1.session { notes = [] })
    whole_view e = by logs.failed e logs.ends
      where
        by : (failed : Bool) → failed ≡ false → LogEnds failed r1.session r2.session logs.left logs.rest l0 l1 → (logs.rest ≡ []) × (r2.session ≡ record r1.session { notes = [] })
        by false h w = (w.1, w.2)
        by true h w = cc

    written_all : WrittenUnless logs.failed logs.rest l0 l1
    written_all = by logs.failed refl
      where
        by : (failed : Bool) → logs.failed ≡ failed → WrittenUnless failed logs.rest l0 l1
        by false e = (whole_view e).0
        by true e = (stop_view e).0

    ends_stay : (failed : Bool) → logs.failed ≡ failed → (end : End) → r1.session.ended ≡ Some end → r2.session.ended ≡ Some end
    ends_stay false e end h = ap (λ (s : SessionView). s.ended) (whole_view e).1 ∙ h
    ends_stay true e end h = ap (λ (s : SessionView). s.ended) (stop_view e).1 ∙ ap (λ (o : Option End). (stopped_at o LogFault (record r1.session { notes = logs.left })).ended) h ∙ h

    causes : (failed : Bool) → logs.failed ≡ failed → (end : End) → r2.session.ended ≡ Some end → (r1.session.ended ≡ Some end) ⊎ IsLogEnd end l0 l1
    causes false e end h = inl (ap (λ (s : SessionView). s.ended) (sym (whole_view e).1) ∙ h)
    causes true e end h = by r1.session.ended refl (ap (λ (s : SessionView). s.ended) (sym (stop_view e).1) ∙ h)
      where
        by : (o : Option End) → r1.session.ended ≡ o → (stopped_at o LogFault (record r1.session { notes = logs.left })).ended ≡ Some end → (r1.session.ended ≡ Some end) ⊎ IsLogEnd end l0 l1
        by None k t = let same : end ≡ LogFault = cc in inr (same, (stop_view e).0)
        by (Some x) k t = inl t

    mode_all : (failed : Bool) → logs.failed ≡ failed → r2.session.mode ≡ r1.session.mode
    mode_all false e = ap (λ (s : SessionView). s.mode) (whole_view e).1
    mode_all true e = ap (λ (s : SessionView). s.mode) (stop_view e).1 ∙ by r1.session.ended
      where
        by : (o : Option End) → (stopped_at o LogFault (record r1.session { notes = logs.left })).mode ≡ r1.session.mode
        by None = refl
        by (Some x) = refl

    pub no_note_left : r2.session.ended ≡ None → r2.session.notes ≡ []
    no_note_left h = by logs.failed refl
      where
        by : (failed : Bool) → logs.failed ≡ failed → r2.session.notes ≡ []
        by false e = ap (λ (s : SessionView). s.notes) (whole_view e).1
        by true e = let t : is_some r2.session.ended ≡ true = is_stopped e in let f : is_some r2.session.ended ≡ false = ap (λ (o : Option End). is_some o) h in cc

    -- the log refuses no memory
    log_memory : (failed : Bool) → logs.failed ≡ failed → is_memory r2.session.ended ≡ is_memory r1.session.ended
    log_memory false e = ap (λ (s : SessionView). is_memory s.ended) (whole_view e).1
    log_memory true e = ap (λ (s : SessionView). is_memory s.ended) (stop_view e).1 ∙ by r1.session.ended refl
      where
        by : (o : Option End) → r1.session.ended ≡ o → is_memory (stopped_at o LogFault (record r1.session { notes = logs.left })).ended ≡ is_memory r1.session.ended
        by None h = sym (ap is_memory h)
        by (Some x) h = refl

    -- nor does it take a byte that waits
    log_queues : (failed : Bool) → logs.failed ≡ failed → (r2.session.bus_side ≡ r1.session.bus_side) × (r2.session.client_side ≡ r1.session.client_side)
    log_queues false e = (ap (λ (s : SessionView). s.bus_side) (whole_view e).1, ap (λ (s : SessionView). s.client_side) (whole_view e).1)
    log_queues true e =
        (ap (λ (s : SessionView). s.bus_side) (stop_view e).1 ∙ (by r1.session.ended).0, ap (λ (s : SessionView). s.client_side) (stop_view e).1 ∙ (by r1.session.ended).1)
      where
        by : (o : Option End) → let stopped = stopped_at o LogFault (record r1.session { notes = logs.left }) in (stopped.bus_side ≡ r1.session.bus_side) × (stopped.client_side ≡ r1.session.client_side)
        by None = (refl, refl)
        by (Some x) = (refl, refl)

    pub reads_logged : ReadsAndLogs policy true n side idle r0 r2 v0 v1 l0 l1
    reads_logged = record {
      fed = r1.session;
      goes = fed_goes (let same = log_queues logs.failed refl in same_queues r0.session r1.session r2.session same.0 same.1) (λ k. log_memory logs.failed refl ∙ k.memory);
      taken = logs.taken;
      lines = logs.got;
      rest = logs.rest;
      failed = logs.failed;
      still = λ h. let f : idle ≡ false = busy in cc;
      logged = λ h. refl;
      unread = λ h. let f : idle ≡ false = busy in cc;
      stands = logs.stands;
      is = logs.lines;
      appends = logs.appends;
      counts = logs.counts;
      written = written_all;
      all = λ l s h. ap (λ (s : SessionView). s.notes) (whole_view s).1;
      end = ends_stay logs.failed refl;
      stopped = is_stopped;
      cause = causes logs.failed refl;
      mode = mode_all logs.failed refl;
      unlogged = λ h. cc;
    }

  pub reads_if : (log : Bool) → LogsIf log n r1.session r2.session l0 l1 → ReadsAndLogs policy log n side idle r0 r2 v0 v1 l0 l1
  reads_if true logs = reads_logged logs
  reads_if false logs = reads_unlogged logs.0 logs.1

pub runs_on : (ended : Option End) (full : Bool) → is_some ended || full ≡ false → ended ≡ None
runs_on None full e = refl
runs_on (Some end) full e = cc
