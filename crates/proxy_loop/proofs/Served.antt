-- The five parts of a turn for one session, joined.
use Rattle.std.proofs.Common.{ℕ, ◌≡◌, ◌≤◌, ◌⊎◌, inl, inr, Bool, true, false, ◌&&◌, ◌||◌, not, is_some, List, [], ◌∷◌, ◌++◌, Some, if◌then◌else◌, refl, ap, ap₂, ◌∙◌, sym, subst, append-nil, append_assoc, arith}
use Rattle.std.proofs.Math.Logic.{∥∥₁_map}
use Rattle.dbus_names.specs.Names.{is_empty}
use Rattle.link_traits.specs.Journals.{Journal, written}
use Rattle.link_traits.specs.Views.{NetView, Adds, SinkView}
use Rattle.link_traits.specs.Answers.{client_link, bus_link, read_entry}
use Rattle.link_traits.specs.Entries.{not_ready as NotReady, shut as Shut}
use Rattle.link_traits.specs.declared.links.Count.{Count}
use Rattle.link_traits.specs.declared.links.Got.{Got}
use Rattle.link_traits.specs.declared.links.Got.TheVariants.{Bytes as GotBytes, Finished as GotFinished, NotReady as GotNotReady, Failed as GotFailed}
use Rattle.link_traits.specs.declared.links.Side.{Side}
use Rattle.link_traits.specs.declared.links.Side.TheVariants.{Client, Bus}
use Rattle.link_traits.specs.declared.links.Link.{Link}
use Rattle.link_traits.specs.declared.links.Call.TheVariants.{Write as WriteCall}
use Rattle.policy_args.specs.Policy.{Policy}
use Rattle.policy_view.specs.declared.End.{End}
use Rattle.proxy_core.specs.Sessions.{SessionView, IsFront, is_memory}
use Rattle.proxy_loop.specs.declared.serving.Running.{Running}
use Rattle.proxy_loop.specs.Kinds.{some_of, gone_by, last_write}
use Rattle.proxy_loop.specs.Works.{Any, Goes, Stood, StoodFor, Cause, ShutBoth, IsDrained, WritesInOrder, link_at, shuts_now, is_full, KeepsEnd}
use Rattle.proxy_loop.specs.Logging.{stop_events}
use Rattle.proxy_loop.specs.Runs.{IsLogEnd, Sound, KeepsPlace, KeepsShut, WroteBoth, ReadsAndLogs, ReadPart, ReadUnless, IsDone, Served, ServedStands, CauseOf, Serving}
use Rattle.proxy_loop.proofs.Holding.{moves_then, cause_later, cause_sooner, some_append, wrote_append}
use Rattle.proxy_loop.proofs.Joining.{last_newer, or_assoc}
use Rattle.proxy_loop.proofs.Standing.{served_stands, idle_by, still_some}
use Rattle.proxy_loop.proofs.Stopping.{both_stop, unread_stop, writes_stop, shuts_stop}

-- shuts are no writes, and no link is gone by them
skip_shuts : (n : ℕ) (link : Link) (client bus : Bool) (first : Journal) →
    last_write link (((if bus then Shut (bus_link n) ∷ [] else []) ++ (if client then Shut (client_link n) ∷ [] else [])) ++ first) ≡ last_write link first
unfolding last_write
skip_shuts n link true true first = refl
skip_shuts n link true false first = refl
skip_shuts n link false true first = refl
skip_shuts n link false false first = refl

none_gone : (n : ℕ) (link : Link) (client bus : Bool) →
    some_of (gone_by link) ((if bus then Shut (bus_link n) ∷ [] else []) ++ (if client then Shut (client_link n) ∷ [] else [])) ≡ false
unfolding some_of
none_gone n link true true = refl
none_gone n link true false = refl
none_gone n link false true = refl
none_gone n link false false = refl

pub shuts_gone : (n : ℕ) (link : Link) (client bus : Bool) (added : Journal) → ShutBoth n client bus added → some_of (gone_by link) added ≡ false
shuts_gone n link client bus added s = ap (some_of (gone_by link)) s.is ∙ none_gone n link client bus

-- nor is anything written by them
none_wrote : (n : ℕ) (link : Link) (client bus : Bool) →
    written link ((if bus then Shut (bus_link n) ∷ [] else []) ++ (if client then Shut (client_link n) ∷ [] else [])) ≡ []
none_wrote n link true true = refl
none_wrote n link true false = refl
none_wrote n link false true = refl
none_wrote n link false false = refl

shuts_wrote : (n : ℕ) (link : Link) (client bus : Bool) (added : Journal) → ShutBoth n client bus added → written link added ≡ []
shuts_wrote n link client bus added s = ap (written link) s.is ∙ none_wrote n link client bus

-- a read writes nothing
read_wrote : (link at : Link) (into : List ℕ) (answer : Got) → written link (read_entry at into answer ∷ []) ≡ []
read_wrote link at into (GotBytes n) = refl
read_wrote link at into GotFinished = refl
read_wrote link at into GotNotReady = refl
read_wrote link at into GotFailed = refl

unread_wrote : (n : ℕ) (side : Side) (idle : Bool) (link : Link) (reads : Journal) → ReadUnless idle (link_at n side) reads → written link reads ≡ []
unread_wrote n side true link reads none = ap (written link) none
unread_wrote n side false link reads once = ap (written link) once.1.one ∙ read_wrote link (link_at n side) once.1.into once.1.answer

-- What waited is a prefix of what was written and then waits: the first writes take from its start, the read adds to
-- its end, and the second writes take from its start.
kept_front : (link : Link) (shuts second reads first : Journal) (q0 q1 q2 q3 : List ℕ) → written link shuts ≡ [] → written link reads ≡ [] →
    q0 ≡ written link first ++ q1 → IsFront q1 q2 → q2 ≡ written link second ++ q3 →
    IsFront q0 (written link (shuts ++ (second ++ (reads ++ first))) ++ q3)
kept_front link shuts second reads first q0 q1 q2 q3 none unread took grows last =
    let wrote : written link (shuts ++ (second ++ (reads ++ first))) ≡ written link first ++ written link second =
    wrote_append link shuts (second ++ (reads ++ first)) ∙ ap (λ (l : List ℕ). written link (second ++ (reads ++ first)) ++ l) none ∙ append-nil (written link (second ++ (reads ++ first)))
    ∙ wrote_append link second (reads ++ first)
    ∙ ap (λ (l : List ℕ). l ++ written link second) (wrote_append link reads first ∙ ap (λ (l : List ℕ). written link first ++ l) unread ∙ append-nil (written link first)) in
    record {
      rest = grows.rest;
      is = ap (λ (l : List ℕ). l ++ grows.rest) took ∙ append_assoc (written link first) q1 grows.rest
          ∙ ap (λ (l : List ℕ). written link first ++ l) (grows.is ∙ last)
          ∙ sym (append_assoc (written link first) (written link second) q3) ∙ ap (λ (l : List ℕ). l ++ q3) (sym wrote);
    }

four_parts : (shuts second reads first w0 w1 w2 w3 w4 now : Journal) → now ≡ w4 → w4 ≡ shuts ++ w3 → w3 ≡ second ++ w2 → w2 ≡ reads ++ w1 → w1 ≡ first ++ w0 →
    now ≡ (shuts ++ (second ++ (reads ++ first))) ++ w0
four_parts shuts second reads first w0 w1 w2 w3 w4 now e4 e3 e2 e1 e0 =
    e4 ∙ e3
    ∙ ap (λ (j : Journal). shuts ++ j) (e2
    ∙ ap (λ (j : Journal). second ++ j) (e1 ∙ ap (λ (j : Journal). reads ++ j) e0 ∙ sym (append_assoc reads first w0))
    ∙ sym (append_assoc second (reads ++ first) w0))
    ∙ sym (append_assoc shuts (second ++ (reads ++ first)) w0)

regrouped : (shuts second reads first w0 now : Journal) → now ≡ (shuts ++ (second ++ (reads ++ first))) ++ w0 → ((shuts ++ second) ++ (reads ++ first)) ++ w0 ≡ now
regrouped shuts second reads first w0 now e = ap (λ (j : Journal). j ++ w0) (append_assoc shuts second (reads ++ first)) ∙ sym e

all_gone : (a b c d : Bool) → a || (b || (c || d)) ≡ (false || (a || (b || c))) || d
all_gone true b c d = refl
all_gone false true c d = refl
all_gone false false c d = refl

-- whether a link is gone after two parts
gone_twice : (link : Link) (later sooner : Journal) (g0 g1 g2 : Bool) → g1 ≡ (some_of (gone_by link) sooner || g0) → g2 ≡ (some_of (gone_by link) later || g1) →
    g2 ≡ (some_of (gone_by link) (later ++ sooner) || g0)
gone_twice link later sooner g0 g1 g2 x y =
    y ∙ ap (λ (p : Bool). some_of (gone_by link) later || p) x ∙ sym (or_assoc (some_of (gone_by link) later) (some_of (gone_by link) sooner) g0)
    ∙ ap (λ (p : Bool). p || g0) (sym (some_append (gone_by link) later sooner))

shut_by_now : (gone shut ended nil : Bool) → (gone ≡ true → ended ≡ true) → gone || shut ≡ true → shut || (ended && (gone || nil)) ≡ true
shut_by_now gone true ended nil h e = refl
shut_by_now true false ended nil h e = rw (h refl) refl
shut_by_now false false ended nil h e = cc

module _ (policy : Policy) (log : Bool) (n : ℕ) (side : Side) (r0 r1 r2 r3 r4 : Running) (v0 v1 v2 v3 v4 v5 : NetView) (l0 l1 : SinkView) (client bus : Bool)
    (a : Goes Any n r0.session r1.session v0 v1 (WroteBoth n r0 r1))
    (b : ReadsAndLogs policy log n side (is_some r1.session.ended || is_full side r1.session) r1 r2 v1 v2 l0 l1)
    (c : Goes Any n r2.session r3.session v2 v3 (WroteBoth n r2 r3))
    (d : Goes Any n r3.session r3.session v3 v4 (ShutBoth n client bus)) (q : Adds v4 v5 [])
    (same : r4.session ≡ r3.session) (client_gone : r4.client.gone ≡ r3.client.gone) (bus_gone : r4.bus.gone ≡ r3.bus.gone)
    (client_is : client ≡ (not r0.client.shut && r4.client.shut)) (bus_is : bus ≡ (not r0.bus.shut && r4.bus.shut))
    (client_shut : r4.client.shut ≡ (r3.client.shut || shuts_now Client r3.session r3.client.gone))
    (bus_shut : r4.bus.shut ≡ (r3.bus.shut || shuts_now Bus r3.session r3.bus.gone))
    (sound0 : Sound r0) (sound3 : Sound r3) (keeps0 : r0.session.mode.notes ≡ log) (stood0 : Stood policy r0.session)
    (first_kept : KeepsEnd r0.session r1.session) (second_kept : KeepsEnd r2.session r3.session)
    (client_same : r1.client.shut ≡ r0.client.shut) (bus_same : r1.bus.shut ≡ r0.bus.shut)
    (client_read : r2.client.shut ≡ r0.client.shut) (bus_read : r2.bus.shut ≡ r0.bus.shut)
    (client_last : r3.client.shut ≡ r0.client.shut) (bus_last : r3.bus.shut ≡ r0.bus.shut) where
  done_now : (link : Link) (shuts second older : Journal) (queue : List ℕ) (gone shut shut_after ended nil : Bool) →
      ShutBoth n client bus shuts → (gone ≡ true → ended ≡ true) → shut_after ≡ (shut || (ended && (gone || nil))) →
      IsDrained link queue (gone || shut) second → IsDone link queue shut_after (shuts ++ (second ++ older))
  done_now link shuts second older queue gone shut shut_after ended nil s sound is (inl e) = inl e
  done_now link shuts second older queue gone shut shut_after ended nil s sound is (inr (inl e)) = inr (inl (is ∙ shut_by_now gone shut ended nil sound e))
  done_now link shuts second older queue gone shut shut_after ended nil s sound is (inr (inr e)) =
      inr (inr (ap (λ (j : Journal). last_write link (j ++ (second ++ older))) s.is ∙ skip_shuts n link client bus (second ++ older)
      ∙ last_newer link second older (NotReady (WriteCall link)) e))

  gone_now : (link : Link) (first reads second shuts : Journal) (g0 g1 g2 g3 : Bool) → ShutBoth n client bus shuts →
      g1 ≡ (some_of (gone_by link) first || g0) → g2 ≡ (some_of (gone_by link) reads || g1) → g3 ≡ (some_of (gone_by link) second || g2) →
      g3 ≡ (some_of (gone_by link) (shuts ++ (second ++ (reads ++ first))) || g0)
  gone_now link first reads second shuts g0 g1 g2 g3 s x y z =
      let f = gone_by link in
      let whole : some_of f (shuts ++ (second ++ (reads ++ first))) ≡ false || (some_of f second || (some_of f reads || some_of f first)) =
      some_append f shuts (second ++ (reads ++ first))
      ∙ ap₂ (λ (p r : Bool). p || r) (shuts_gone n link client bus shuts s)
      (some_append f second (reads ++ first) ∙ ap (λ (p : Bool). some_of f second || p) (some_append f reads first)) in
      z ∙ ap (λ (p : Bool). some_of f second || p) (y ∙ ap (λ (p : Bool). some_of f reads || p) x)
      ∙ all_gone (some_of f second) (some_of f reads) (some_of f first) g0 ∙ ap (λ (p : Bool). p || g0) (sym whole)

  closed_then : (link : Link) (reads first : Journal) (g0 g1 g2 s0 s2 : Bool) → g1 ≡ (some_of (gone_by link) first || g0) → g2 ≡ (some_of (gone_by link) reads || g1) → s2 ≡ s0 →
      g2 || s2 ≡ ((some_of (gone_by link) (reads ++ first) || g0) || s0)
  closed_then link reads first g0 g1 g2 s0 s2 x y z = ap₂ (λ (p r : Bool). p || r) (gone_twice link reads first g0 g1 g2 x y) z

  served_now : (first reads second shuts : Journal) → WroteBoth n r0 r1 first → ReadPart n side (is_some r1.session.ended || is_full side r1.session) r1 r2 reads →
      WroteBoth n r2 r3 second → ShutBoth n client bus shuts → Served n side r0 r4 (shuts ++ (second ++ (reads ++ first)))
  served_now first reads second shuts w x y s = record {
    mid = r1.session;
    first = first;
    reads = reads;
    second = second;
    shuts = shuts;
    is = refl;
    first_writes = w.all;
    first_order = w.order;
    client_took = w.client_took;
    bus_took = w.bus_took;
    client_drained = subst (λ (b : Bool). IsDrained (client_link n) r1.session.client_side b first) (ap₂ (λ (x y : Bool). x || y) w.client_gone client_same) w.client_drained;
    bus_drained = subst (λ (b : Bool). IsDrained (bus_link n) r1.session.bus_side b first) (ap₂ (λ (x y : Bool). x || y) w.bus_gone bus_same) w.bus_drained;
    mid_ended = w.ended;
    once = x.once;
    unfed = λ e. ap (λ (z : SessionView). is_memory z.ended) same ∙ second_kept.memory ∙ x.unfed e ∙ first_kept.memory;
    second_writes = y.all;
    second_order =
        subst (λ (p : Bool). WritesInOrder n p ((some_of (gone_by (bus_link n)) (reads ++ first) || r0.bus.gone) || r0.bus.shut) second)
        (closed_then (client_link n) reads first r0.client.gone r1.client.gone r2.client.gone r0.client.shut r2.client.shut w.client_gone x.client_gone client_read)
        (subst (λ (p : Bool). WritesInOrder n (r2.client.gone || r2.client.shut) p second)
        (closed_then (bus_link n) reads first r0.bus.gone r1.bus.gone r2.bus.gone r0.bus.shut r2.bus.shut w.bus_gone x.bus_gone bus_read) y.order);
    client_written = subst (λ (z : SessionView). IsDrained (client_link n) z.client_side (r4.client.gone || r0.client.shut) second) (sym same)
        (subst (λ (b : Bool). IsDrained (client_link n) r3.session.client_side b second) (ap₂ (λ (p r : Bool). p || r) (sym client_gone) client_last) y.client_drained);
    bus_written = subst (λ (z : SessionView). IsDrained (bus_link n) z.bus_side (r4.bus.gone || r0.bus.shut) second) (sym same)
        (subst (λ (b : Bool). IsDrained (bus_link n) r3.session.bus_side b second) (ap₂ (λ (p r : Bool). p || r) (sym bus_gone) bus_last) y.bus_drained);
    shut = subst (λ (p : Bool). ShutBoth n p (not r0.bus.shut && r4.bus.shut) shuts) client_is (subst (λ (p : Bool). ShutBoth n client p shuts) bus_is s);
    client_gone = client_gone ∙ gone_now (client_link n) first reads second shuts r0.client.gone r1.client.gone r2.client.gone r3.client.gone s w.client_gone x.client_gone y.client_gone;
    bus_gone = bus_gone ∙ gone_now (bus_link n) first reads second shuts r0.bus.gone r1.bus.gone r2.bus.gone r3.bus.gone s w.bus_gone x.bus_gone y.bus_gone;
    client_kept = subst (λ (z : SessionView). IsFront r0.session.client_side (written (client_link n) (shuts ++ (second ++ (reads ++ first))) ++ z.client_side)) (sym same)
        (kept_front (client_link n) shuts second reads first r0.session.client_side r1.session.client_side r2.session.client_side r3.session.client_side
        (shuts_wrote n (client_link n) client bus shuts s) (unread_wrote n side (is_some r1.session.ended || is_full side r1.session) (client_link n) reads x.once)
        w.client_took x.waits.client y.client_took);
    bus_kept = subst (λ (z : SessionView). IsFront r0.session.bus_side (written (bus_link n) (shuts ++ (second ++ (reads ++ first))) ++ z.bus_side)) (sym same)
        (kept_front (bus_link n) shuts second reads first r0.session.bus_side r1.session.bus_side r2.session.bus_side r3.session.bus_side
        (shuts_wrote n (bus_link n) client bus shuts s) (unread_wrote n side (is_some r1.session.ended || is_full side r1.session) (bus_link n) reads x.once)
        w.bus_took x.waits.bus y.bus_took);
    client_done = subst (λ (z : SessionView). IsDone (client_link n) z.client_side r4.client.shut (shuts ++ (second ++ (reads ++ first)))) (sym same)
        (done_now (client_link n) shuts second (reads ++ first) r3.session.client_side r3.client.gone r3.client.shut r4.client.shut (is_some r3.session.ended) (is_empty r3.session.client_side)
        s sound3.client client_shut y.client_drained);
    bus_done = subst (λ (z : SessionView). IsDone (bus_link n) z.bus_side r4.bus.shut (shuts ++ (second ++ (reads ++ first)))) (sym same)
        (done_now (bus_link n) shuts second (reads ++ first) r3.session.bus_side r3.bus.gone r3.bus.shut r4.bus.shut (is_some r3.session.ended) (is_empty r3.session.bus_side)
        s sound3.bus bus_shut y.bus_drained);
  }

  widen : (end : End) (x y : NetView) → ((count : Count) → v0.counts count ≤ x.counts count) → ((count : Count) → y.counts count ≤ v5.counts count) →
      Cause n end x y → Cause n end v0 v5
  widen end x y h k w = cause_sooner n end v0 x v5 h (cause_later n end x y v5 k w)

  to1 : (count : Count) → v0.counts count ≤ v1.counts count
  to1 = a.counts

  to2 : (count : Count) → v0.counts count ≤ v2.counts count
  to2 count = let x : v0.counts count ≤ v1.counts count = a.counts count in let y : v1.counts count ≤ v2.counts count = b.goes.counts count in omega arith

  to3 : (count : Count) → v0.counts count ≤ v3.counts count
  to3 count = let x : v0.counts count ≤ v2.counts count = to2 count in let y : v2.counts count ≤ v3.counts count = c.counts count in omega arith

  from3 : (count : Count) → v3.counts count ≤ v5.counts count
  from3 count = let x : v3.counts count ≤ v4.counts count = d.counts count in let y : v4.counts count ≤ v5.counts count = q.counts count in omega arith

  from2 : (count : Count) → v2.counts count ≤ v5.counts count
  from2 count = let x : v2.counts count ≤ v3.counts count = c.counts count in let y : v3.counts count ≤ v5.counts count = from3 count in omega arith

  from1 : (count : Count) → v1.counts count ≤ v5.counts count
  from1 count = let x : v1.counts count ≤ v2.counts count = b.goes.counts count in let y : v2.counts count ≤ v5.counts count = from2 count in omega arith

  stood1 : Stood policy r0.session → Stood policy r1.session
  stood1 s = a.stood policy tt s

  stood2 : Stood policy r0.session → Stood policy b.fed
  stood2 s = b.goes.stood policy refl (stood1 s)

  stood3 : Stood policy r0.session → Stood policy r2.session
  stood3 s = ∥∥₁_map (stood2 s) (λ (t : StoodFor policy b.fed). record {
    events = stop_events b.failed ++ t.events;
    taken = record t.taken { notes = t.taken.notes ++ b.taken };
    stands = b.stands policy t.events t.taken t.stands;
  })

  stood4 : Stood policy r0.session → Stood policy r3.session
  stood4 s = c.stood policy tt (stood3 s)

  cause1 : (end : End) → (r0.session.ended ≡ Some end) ⊎ Cause n end v0 v1 → (r0.session.ended ≡ Some end) ⊎ CauseOf n end v0 v5 l0 l1
  cause1 end (inl e) = inl e
  cause1 end (inr w) = inr (inl (cause_later n end v0 v1 v5 from1 w))

  cause2 : Stood policy r0.session → (end : End) → (r1.session.ended ≡ Some end) ⊎ Cause n end v1 v2 → (r0.session.ended ≡ Some end) ⊎ CauseOf n end v0 v5 l0 l1
  cause2 s end (inl e) = cause1 end (a.cause policy tt s end e)
  cause2 s end (inr w) = inr (inl (widen end v1 v2 to1 from2 w))

  cause3 : Stood policy r0.session → (end : End) → (b.fed.ended ≡ Some end) ⊎ IsLogEnd end l0 l1 → (r0.session.ended ≡ Some end) ⊎ CauseOf n end v0 v5 l0 l1
  cause3 s end (inl e) = cause2 s end (b.goes.cause policy refl (stood1 s) end e)
  cause3 s end (inr w) = inr (inr w)

  cause4 : Stood policy r0.session → (end : End) → (r2.session.ended ≡ Some end) ⊎ Cause n end v2 v3 → (r0.session.ended ≡ Some end) ⊎ CauseOf n end v0 v5 l0 l1
  cause4 s end (inl e) = cause3 s end (b.cause end e)
  cause4 s end (inr w) = inr (inl (widen end v2 v3 to2 from3 w))

  all_mode : r3.session.mode ≡ r0.session.mode
  all_mode = c.mode ∙ b.mode ∙ b.goes.mode ∙ a.mode

  pub serving_now : Serving policy log n side r0 r4 v0 v5 l0 l1
  serving_now = record {
    told = λ now e.
        let t5 = q.told now e in
        let t4 = d.told t5.0 t5.1 in
        let t3 = c.told t4.0 t4.1 in
        let t2 = b.goes.told t3.0 t3.1 in
        let t1 = a.told t2.0 t2.1 in
        let first = t1.2 in let reads = t2.2 in let second = t3.2 in let shuts = t4.2 in
        let whole : now ≡ (shuts ++ (second ++ (reads ++ first))) ++ t1.0 = four_parts shuts second reads first t1.0 t2.0 t3.0 t4.0 t5.0 now t5.2 t4.3 t3.3 t2.3 t1.3 in
        let parts : ((shuts ++ second) ++ (reads ++ first)) ++ t1.0 ≡ now = regrouped shuts second reads first t1.0 now whole in (
          t1.0,
          t1.1,
          shuts ++ (second ++ (reads ++ first)),
          whole,
          served_now first reads second shuts t1.4 t2.4 t3.4 t4.4,
          λ h. subst (λ (z : SessionView). ServedStands policy log n r0.session z t1.0 now l0 l1) (sym same)
              (subst (λ (j : Journal). ServedStands policy log n r0.session r3.session t1.0 j l0 l1) parts
              (served_stands policy log n side (is_full side r1.session) r0.session r1.session r3.session r1 r2 v1 v2 l0 l1 b t1.0 (reads ++ first) (shuts ++ second)
              (moves_then policy n r0.session r1.session b.fed first reads (t1.5 policy tt) (t2.5 policy refl))
              (moves_then policy n r2.session r3.session r3.session second shuts (t3.5 policy tt) (t4.5 policy tt))
              a.end b.goes.end c.end h all_mode keeps0
              (λ e. both_stop n reads first (unread_stop n (is_some r1.session.ended || is_full side r1.session) (link_at n side) reads
              (idle_by r1.session.ended (is_full side r1.session) (still_some r0.session.ended r1.session.ended a.end e)) t2.4.once) (writes_stop n first t1.4.all))
              (both_stop n shuts second (shuts_stop n client bus shuts t4.4) (writes_stop n second t3.4.all)) sound0.notes first_kept.notes second_kept.notes)),
        );
    counts = λ count. let x : v0.counts count ≤ v3.counts count = to3 count in let y : v3.counts count ≤ v5.counts count = from3 count in omega arith;
    log_counts = b.counts;
    stood = subst (λ (z : SessionView). Stood policy z) (sym same) (stood4 stood0);
    end = λ end e. ap (λ (z : SessionView). z.ended) same ∙ c.end end (b.end end (b.goes.end end (a.end end e)));
    cause = λ end e. cause4 stood0 end (c.cause policy tt (stood3 stood0) end (ap (λ (z : SessionView). z.ended) (sym same) ∙ e));
    mode = ap (λ (z : SessionView). z.mode) same ∙ all_mode;
    unlogged = b.unlogged;
  }

-- the same, if each part names the session by its own number
module _ (policy : Policy) (log : Bool) (side : Side) (r0 r1 r2 r3 r4 : Running) (v0 v1 v2 v3 v4 v5 : NetView) (l0 l1 : SinkView)
    (p1 : KeepsPlace r0 r1) (p2 : KeepsPlace r1 r2) (p3 : KeepsPlace r2 r3) (k1 : KeepsShut r0 r1) (k2 : KeepsShut r1 r2) (k3 : KeepsShut r2 r3) where
  n1 : r1.number ≡ r0.number
  n1 = p1.number

  n2 : r2.number ≡ r0.number
  n2 = p2.number ∙ p1.number

  n3 : r3.number ≡ r0.number
  n3 = p3.number ∙ p2.number ∙ p1.number

  client_kept : r3.client.shut ≡ r0.client.shut
  client_kept = k3.client ∙ k2.client ∙ k1.client

  bus_kept : r3.bus.shut ≡ r0.bus.shut
  bus_kept = k3.bus ∙ k2.bus ∙ k1.bus

  pub serving_runs : Goes Any r0.number r0.session r1.session v0 v1 (WroteBoth r0.number r0 r1) →
      ReadsAndLogs policy log r1.number side (is_some r1.session.ended || is_full side r1.session) r1 r2 v1 v2 l0 l1 →
      Goes Any r2.number r2.session r3.session v2 v3 (WroteBoth r2.number r2 r3) →
      Goes Any r3.number r3.session r3.session v3 v4 (ShutBoth r3.number (not r3.client.shut && r4.client.shut) (not r3.bus.shut && r4.bus.shut)) → Adds v4 v5 [] →
      r4.session ≡ r3.session → r4.client.gone ≡ r3.client.gone → r4.bus.gone ≡ r3.bus.gone →
      r4.client.shut ≡ (r3.client.shut || shuts_now Client r3.session r3.client.gone) → r4.bus.shut ≡ (r3.bus.shut || shuts_now Bus r3.session r3.bus.gone) →
      Sound r0 → Sound r3 → r0.session.mode.notes ≡ log → Stood policy r0.session → KeepsEnd r0.session r1.session → KeepsEnd r2.session r3.session → Serving policy log r0.number side r0 r4 v0 v5 l0 l1
  serving_runs a b c d q same cg bg cs bs sound0 sound3 keeps0 stood0 first_kept second_kept =
      serving_now policy log r0.number side r0 r1 r2 r3 r4 v0 v1 v2 v3 v4 v5 l0 l1 (not r3.client.shut && r4.client.shut) (not r3.bus.shut && r4.bus.shut)
      a
      (subst (λ (m : ℕ). ReadsAndLogs policy log m side (is_some r1.session.ended || is_full side r1.session) r1 r2 v1 v2 l0 l1) n1 b)
      (subst (λ (m : ℕ). Goes Any m r2.session r3.session v2 v3 (WroteBoth m r2 r3)) n2 c)
      (subst (λ (m : ℕ). Goes Any m r3.session r3.session v3 v4 (ShutBoth m (not r3.client.shut && r4.client.shut) (not r3.bus.shut && r4.bus.shut))) n3 d)
      q same cg bg (ap (λ (x : Bool). not x && r4.client.shut) client_kept) (ap (λ (x : Bool). not x && r4.bus.shut) bus_kept) cs bs sound0 sound3 keeps0 stood0 first_kept second_kept k1.client k1.bus (k2.client ∙ k1.client) (k2.bus ∙ k1.bus) client_kept bus_kept
