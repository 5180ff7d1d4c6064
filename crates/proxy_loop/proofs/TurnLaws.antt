-- One turn: its parts, the sessions after it, and that they go on serving the journal.
use Rattle.std.proofs.Common.{ℕ, nat_eq, nat_lt, ◌≡◌, ◌+◌, ◌≤◌, inl, inr, Bool, true, false, ◌||◌, cond, is_err, List, [], ◌∷◌, ◌++◌, Option, Some, None, Result, Ok, Err, OnOk, OnErr, if◌then◌else◌, refl, ap, ap₂, ◌∙◌, sym, subst, append-nil, append_assoc, arith, length, slice_get, string_bytes, is_some}
use Rattle.std.proofs.lemmas.Bool.Decides.{nat_tests}
use Rattle.std.specs.Global.{Box}
use Rattle.std.specs.Map.{lookup}
use Rattle.std.specs.Option.{option_map}
use Rattle.link_traits.specs.Journals.{Journal, written, accepts, accepts_by}
use Rattle.link_traits.specs.Views.{NetView, Adds, RoseAt, SinkView}
use Rattle.link_traits.specs.Answers.{client_link, bus_link, connect_entry, accept_entry}
use Rattle.link_traits.specs.Entries.{Entry, ready as ReadyEntry, accepted as AcceptedEntry}
use Rattle.link_traits.specs.declared.links.Count.TheVariants.{Own as OfNet}
use Rattle.link_traits.specs.declared.links.Link.{Link}
use Rattle.link_traits.specs.declared.links.Ready.{Ready}
use Rattle.link_traits.specs.declared.links.Ready.TheVariants.{Listener, Link as ReadyLink, Quiet, Failed as ReadyFailed}
use Rattle.link_traits.specs.declared.links.NetFault.{NetFault}
use Rattle.link_traits.specs.declared.links.NetFault.TheVariants.{Failed as FaultFailed, Memory as FaultMemory}
use Rattle.link_traits.specs.declared.links.Accepted.{Accepted}
use Rattle.link_traits.specs.declared.links.Accepted.TheVariants.{New, NotReady as AcceptNotReady, Failed as AcceptFailed, Memory as AcceptMemory}
use Rattle.policy_args.specs.declared.line.Block.{Block}
use Rattle.policy_view.specs.History.{Event}
use Rattle.proxy_core.specs.Sessions.{StandsFor, Taken}
use Rattle.proxy_loop.specs.declared.serving.Running.{Running}
use Rattle.proxy_loop.specs.declared.table.Sessions.{Sessions}
use Rattle.proxy_loop.specs.declared.turns.Turn.{Turn}
use Rattle.proxy_loop.specs.declared.turns.ServerEnd.{ServerEnd}
use Rattle.proxy_loop.specs.declared.turns.ServerEnd.TheVariants.{Listen, Wait, Memory}
use Rattle.proxy_loop.specs.Sessions.{Holds, events_of}
use Rattle.proxy_loop.specs.Kinds.{about, all_are, some_of, gone_by}
use Rattle.proxy_loop.specs.Works.{Moves, Stood}
use Rattle.proxy_loop.specs.Runs.{is_over, Served, ServedStands}
use Rattle.proxy_loop.specs.Tables.{At, Table, table_of, unless_over, SoundUnder, SoundTable, IsCounted}
use Rattle.proxy_loop.specs.Turns.{Still, ServedDid, LinkDid, Opened, NewDid, Brought, ListenerDid, ReadyDid, is_done, answer_at, AfterWait, TurnDid}
use Rattle.proxy_loop.specs.Servers.{touches, Fresh, listener_of, Held, Stays, Serves, GoesOn}
use Rattle.proxy_loop.proofs.Holding.{same_number, all_joined, some_append}
use Rattle.proxy_loop.proofs.Standing.{holds_moved}
use Rattle.proxy_loop.proofs.Others.{quiet_entry, stays_quiet, stays_other, accepts_same, listener_same, served_about, shuts_about}
use Rattle.proxy_loop.proofs.NewSession.{same_block}

pub on_ok : {A E : Type 0} (r : Result A E) (P : Type 0) → is_err r ≡ false → OnOk r P → P
on_ok (Ok x) P e h = h
on_ok (Err x) P e h = cc

pub on_err : {A E : Type 0} (r : Result A E) (P : Type 0) → is_err r ≡ true → OnErr r P → P
on_err (Ok x) P e h = cc
on_err (Err x) P e h = h

-- what is left is what is held
counted_at : {X : Type 0} (es : List (ℕ × X)) → length es ≡ 0 → (k : ℕ) → lookup (nat_eq k) es ≡ None
counted_at [] e k = refl
counted_at (x ∷ es) e k = absurd (omega (arith, e))

counted_all : (es : List (ℕ × Box Running)) → ((k : ℕ) → option_map (λ (b : Box Running). b.value) (lookup (nat_eq k) es) ≡ None) → length es ≡ 0
counted_all [] h = refl
counted_all (x ∷ es) h =
    let here : option_map (λ (b : Box Running). b.value) (cond (nat_eq x.0 x.0) (Some x.1) (lookup (nat_eq x.0) es)) ≡ None = h x.0 in
    let there : Some x.1.value ≡ None =
    ap (λ (b : Bool). option_map (λ (c : Box Running). c.value) (cond b (Some x.1) (lookup (nat_eq x.0) es))) (sym (same_number x.0)) ∙ here in cc

pub counted_is : (sessions : Sessions) → IsCounted (table_of sessions)
counted_is sessions = record {
  none = λ e k. ap (λ (o : Option (Box Running)). option_map (λ (b : Box Running). b.value) o) (counted_at sessions.running.entries e k);
  all = counted_all sessions.running.entries;
}

-- the sessions are as sound as before
pub same_sound : (blocks : List Block) (old new : At) → ((k : ℕ) → new k ≡ old k) → SoundTable blocks old → SoundTable blocks new
same_sound blocks old new same s = record {
  each = λ n r e. s.each n r (sym (same n) ∙ e);
  number = λ n r e. s.number n r (sym (same n) ∙ e);
  runs = λ n r e. s.runs n r (sym (same n) ∙ e);
}

one_changed : (blocks : List Block) (m : ℕ) (now : Running) (old new : At) → ((k : ℕ) → new k ≡ cond (nat_eq m k) (unless_over now) (old k)) →
    SoundUnder blocks now → now.number ≡ m → SoundTable blocks old → SoundTable blocks new
one_changed blocks m now old new sets sound number s = record {
  each = λ n r e. by n r (nat_eq m n) (sym (sets n) ∙ e);
  number = λ n r e. number_by n r (nat_eq m n) refl (sym (sets n) ∙ e);
  runs = λ n r e. runs_by n r (nat_eq m n) (sym (sets n) ∙ e);
}
  where
    held : (b : Bool) (r : Running) → (if b then None else Some now) ≡ Some r → is_over now ≡ b → (now ≡ r) × (is_over now ≡ false)
    held true r e h = cc
    held false r e h = (let same : now ≡ r = cc in same, h)

    by : (n : ℕ) (r : Running) (b : Bool) → cond b (unless_over now) (old n) ≡ Some r → SoundUnder blocks r
    by n r true e = subst (λ (x : Running). SoundUnder blocks x) (held (is_over now) r e refl).0 sound
    by n r false e = s.each n r e

    number_by : (n : ℕ) (r : Running) (b : Bool) → nat_eq m n ≡ b → cond b (unless_over now) (old n) ≡ Some r → r.number ≡ n
    number_by n r true t e =
        let same : m ≡ n = grind (arith, nat_tests, t) in
        ap (λ (x : Running). x.number) (sym (held (is_over now) r e refl).0) ∙ number ∙ same
    number_by n r false t e = s.number n r e

    runs_by : (n : ℕ) (r : Running) (b : Bool) → cond b (unless_over now) (old n) ≡ Some r → is_over r ≡ false
    runs_by n r true e = let h = held (is_over now) r e refl in ap is_over (sym h.0) ∙ h.1
    runs_by n r false e = s.runs n r e

served_sound : (blocks : List Block) (link : Link) (running : Running) (old new : Table) (before after : NetView) (first last : SinkView) →
    old.at link.session ≡ Some running → ServedDid blocks link running old new before after first last → SoundTable blocks old.at → SoundTable blocks new.at
served_sound blocks link running old new before after first last at d s =
    let under : SoundUnder blocks running = s.each link.session running at in
    one_changed blocks link.session d.now old.at new.at d.sets.each
    (record {
      sound = d.served.sound;
      block = rw d.served.place.block under.block;
      mode = λ b e. d.served.serving.mode ∙ under.mode b (ap (slice_get blocks) (sym d.served.place.block) ∙ e);
      stood = λ b e.
          let here : slice_get blocks running.block ≡ Some b = ap (slice_get blocks) (sym d.served.place.block) ∙ e in
          subst (λ (x : Block). Stood x.options.policy d.now.session) (same_block blocks running.block d.served.own b d.served.at here) d.served.serving.stood;
    })
    (d.served.place.number ∙ s.number link.session running at) s

opened_sound : (blocks : List Block) (listener : ℕ) (address : List ℕ) (n : ℕ) (old new : Table) (before after : NetView) →
    NewDid blocks listener address n old new before after → SoundTable blocks old.at → SoundTable blocks new.at
opened_sound blocks listener address n old new before after d s = one_changed blocks n d.running old.at new.at d.sets.each d.sound d.number s

-- entries that say nothing of a session
fresh_none : (n : ℕ) (journal : Journal) → Fresh n journal →
    (events_of n journal ≡ []) × (written (bus_link n) journal ≡ []) × (written (client_link n) journal ≡ [])
    × (some_of (gone_by (client_link n)) journal ≡ false) × (some_of (gone_by (bus_link n)) journal ≡ false)
unfolding some_of events_of
fresh_none n [] f = (refl, refl, refl, refl, refl)
fresh_none n (entry ∷ journal) f = with_one (touches n entry) (some_of (touches n) journal) refl f (fresh_none n journal)
  where
    with_one : (x y : Bool) → touches n entry ≡ x → x || y ≡ false →
        (y ≡ false → (events_of n journal ≡ []) × (written (bus_link n) journal ≡ []) × (written (client_link n) journal ≡ [])
        × (some_of (gone_by (client_link n)) journal ≡ false) × (some_of (gone_by (bus_link n)) journal ≡ false)) →
        (events_of n (entry ∷ journal) ≡ []) × (written (bus_link n) (entry ∷ journal) ≡ []) × (written (client_link n) (entry ∷ journal) ≡ [])
        × (some_of (gone_by (client_link n)) (entry ∷ journal) ≡ false) × (some_of (gone_by (bus_link n)) (entry ∷ journal) ≡ false)
    with_one true y e h rest = cc
    with_one false y e h rest =
        let s = quiet_entry n entry e in
        let r = rest h in (
          ap₂ (λ (p q : List Event). p ++ q) s.events r.0,
          ap₂ (λ (p q : List ℕ). p ++ q) r.1 s.bus,
          ap₂ (λ (p q : List ℕ). p ++ q) r.2 s.client,
          ap₂ (λ (p q : Bool). p || q) s.client_gone r.3,
          ap₂ (λ (p q : Bool). p || q) s.bus_gone r.4,
        )

-- the same sessions serve a journal with an entry that speaks of none
pub serves_quiet : (blocks : List Block) (table : Table) (entry : Entry) (journal : Journal) → ((n : ℕ) → touches n entry ≡ false) → accepts_by entry ≡ 0 →
    Serves blocks table journal → Serves blocks table (entry ∷ journal)
serves_quiet blocks table entry journal quiet none s = record {
  each = λ n. stays_quiet blocks n (table.at n) entry journal (quiet n) (s.each n);
  counted = let k : table.accepted ≡ accepts journal = s.counted in rw none (omega (arith, k));
}

serves_same : (blocks : List Block) (old new : Table) (journal : Journal) → ((k : ℕ) → new.at k ≡ old.at k) → new.accepted ≡ old.accepted →
    Serves blocks old journal → Serves blocks new journal
serves_same blocks old new journal same accepted s = record {
  each = λ n. subst (λ (o : Option Running). Stays blocks n o journal) (sym (same n)) (s.each n);
  counted = accepted ∙ s.counted;
}

pub on_then : (blocks : List Block) (t0 t1 t2 : Table) (v0 v1 v2 : NetView) → GoesOn blocks t0 t1 v0 v1 → GoesOn blocks t1 t2 v1 v2 → GoesOn blocks t0 t2 v0 v2
on_then blocks t0 t1 t2 v0 v1 v2 a b = record {
  each = λ now e.
      let y = b.each now e in
      let x = a.each y.0 y.1 in
      (x.0, x.1, y.2 ++ x.2, y.3 ∙ ap (λ (j : Journal). y.2 ++ j) x.3 ∙ sym (append_assoc y.2 x.2 x.0), λ s. y.4 (x.4 s));
}

-- one entry that speaks of no session
pub quiet_on : (blocks : List Block) (table : Table) (entry : Entry) (before after : NetView) → ((n : ℕ) → touches n entry ≡ false) → accepts_by entry ≡ 0 →
    Adds before after (entry ∷ []) → GoesOn blocks table table before after
quiet_on blocks table entry before after quiet none adds = record {
  each = λ now e. let a = adds.told now e in
      (a.0, a.1, entry ∷ [], a.2, λ s. subst (λ (j : Journal). Serves blocks table j) (sym a.2) (serves_quiet blocks table entry a.0 quiet none s));
}

pub same_on : (blocks : List Block) (old new : Table) (before after : NetView) → ((k : ℕ) → new.at k ≡ old.at k) → new.accepted ≡ old.accepted → after ≡ before →
    GoesOn blocks old new before after
same_on blocks old new before after same accepted e =
    subst (λ (v : NetView). GoesOn blocks old new before v) (sym e)
    (record { each = λ now h. (now, h, [], refl, λ s. serves_same blocks old new now same accepted s) })

-- one session was served
module _ (blocks : List Block) (link : Link) (running : Running) (old new : Table) (before after : NetView) (first last : SinkView)
    (at : old.at link.session ≡ Some running) (number : running.number ≡ link.session) (d : ServedDid blocks link running old new before after first last) where
  held_after : (was added : Journal) → Served running.number link.side running d.now added →
      (Holds d.served.own.options.policy running.number running.session was → ServedStands d.served.own.options.policy d.served.own.options.log running.number running.session d.now.session was (added ++ was) first last) →
      Held blocks link.session running was → Held blocks link.session d.now (added ++ was)
  held_after was added s stands h =
      let own_is : d.served.own ≡ h.block = same_block blocks running.block d.served.own h.block d.served.at h.at in
      let all : all_are (about link.session) added ≡ true = subst (λ (m : ℕ). all_are (about m) added ≡ true) number (served_about running.number link.side running d.now added s) in
      let now : Holds d.served.own.options.policy running.number d.now.session (added ++ was) =
      (stands (subst (λ (m : ℕ). Holds d.served.own.options.policy m running.session was) (sym number) (subst (λ (b : Block). Holds b.options.policy link.session running.session was) (sym own_is) h.holds))).holds in
      let client : d.now.client.gone ≡ (some_of (gone_by (client_link link.session)) added || running.client.gone) =
      subst (λ (m : ℕ). d.now.client.gone ≡ (some_of (gone_by (client_link m)) added || running.client.gone)) number s.client_gone in
      let bus : d.now.bus.gone ≡ (some_of (gone_by (bus_link link.session)) added || running.bus.gone) =
      subst (λ (m : ℕ). d.now.bus.gone ≡ (some_of (gone_by (bus_link m)) added || running.bus.gone)) number s.bus_gone in
      let known : link.session ≤ accepts was = h.known in
      record {
        block = h.block;
        at = ap (slice_get blocks) d.served.place.block ∙ h.at;
        listener = listener_same link.session added was all ∙ h.listener ∙ ap (λ (k : ℕ). Some k) (sym d.served.place.block);
        mode = d.served.serving.mode ∙ h.mode;
        holds = subst (λ (b : Block). Holds b.options.policy link.session d.now.session (added ++ was)) own_is
            (subst (λ (m : ℕ). Holds d.served.own.options.policy m d.now.session (added ++ was)) number now);
        client_gone = client ∙ ap (λ (b : Bool). some_of (gone_by (client_link link.session)) added || b) h.client_gone ∙ sym (some_append (gone_by (client_link link.session)) added was);
        bus_gone = bus ∙ ap (λ (b : Bool). some_of (gone_by (bus_link link.session)) added || b) h.bus_gone ∙ sym (some_append (gone_by (bus_link link.session)) added was);
        known = rw (accepts_same link.session added was all) known;
      }

  placed : (journal : Journal) (b : Bool) → is_over d.now ≡ b → Held blocks link.session d.now journal → Stays blocks link.session (if b then None else Some d.now) journal
  placed journal true e h = inr (record { running = d.now; over = e; held = h })
  placed journal false e h = h

  stays_at : (was added : Journal) → all_are (about link.session) added ≡ true → Held blocks link.session d.now (added ++ was) → Serves blocks old was →
      (n : ℕ) (b : Bool) → nat_eq link.session n ≡ b → Stays blocks n (cond b (unless_over d.now) (old.at n)) (added ++ was)
  stays_at was added all h s n true e =
      let same : link.session ≡ n = grind (arith, nat_tests, e) in
      subst (λ (m : ℕ). Stays blocks m (unless_over d.now) (added ++ was)) same (placed (added ++ was) (is_over d.now) refl h)
  stays_at was added all h s n false e = stays_other blocks link.session n (old.at n) added was all e (s.each n)

  serves_after : (was added : Journal) → Served running.number link.side running d.now added →
      (Holds d.served.own.options.policy running.number running.session was → ServedStands d.served.own.options.policy d.served.own.options.log running.number running.session d.now.session was (added ++ was) first last) →
      Serves blocks old was → Serves blocks new (added ++ was)
  serves_after was added served stands s =
      let all : all_are (about link.session) added ≡ true = subst (λ (m : ℕ). all_are (about m) added ≡ true) number (served_about running.number link.side running d.now added served) in
      let h : Held blocks link.session running was = subst (λ (o : Option Running). Stays blocks link.session o was) at (s.each link.session) in
      record {
        each = λ n. subst (λ (o : Option Running). Stays blocks n o (added ++ was)) (sym (d.sets.each n))
            (stays_at was added all (held_after was added served stands h) s n (nat_eq link.session n) refl);
        counted = d.accepted ∙ s.counted ∙ sym (accepts_same link.session added was all);
      }

  pub served_on : GoesOn blocks old new before after
  served_on = record {
    each = λ now e.
        let t = d.served.serving.told now e in (
          t.0,
          t.1,
          t.2,
          t.3,
          λ s. subst (λ (j : Journal). Serves blocks new j) (sym t.3)
              (serves_after t.0 t.2 t.4
              (subst (λ (j : Journal). Holds d.served.own.options.policy running.number running.session t.0 → ServedStands d.served.own.options.policy d.served.own.options.log running.number running.session d.now.session t.0 j first last) t.3 t.5) s),
        );
  }

connect_about : (n : ℕ) (address : List ℕ) (answer : Result (Unit {0}) NetFault) → all_are (about n) (connect_entry n address answer ∷ []) ≡ true
unfolding all_are
connect_about n address (Ok u) = rw (same_number n) refl
connect_about n address (Err FaultFailed) = rw (same_number n) refl
connect_about n address (Err FaultMemory) = rw (same_number n) refl

pub opened_about : (n : ℕ) (address : List ℕ) (running : Running) (added : Journal) → Opened n address running added → all_are (about n) added ≡ true
opened_about n address running added o =
    ap (all_are (about n)) o.is
    ∙ all_joined (about n) (connect_entry n address o.answer ∷ []) o.shuts (connect_about n address o.answer)
    (ap (all_are (about n)) o.shut.is ∙ shuts_about n running.client.shut running.bus.shut)

-- a session was accepted and opened
module _ (blocks : List Block) (listener : ℕ) (block : Block) (n : ℕ) (old new : Table) (v0 v1 v2 : NetView) (at : slice_get blocks listener ≡ Some block)
    (counted : (was : Journal) → v0.journal ≡ Some was → n ≡ accepts was + 1) (adds : Adds v0 v1 (AcceptedEntry listener n ∷ []))
    (d : NewDid blocks listener (string_bytes block.address) n old new v1 v2) where
  fresh_at : (was : Journal) → n ≡ accepts was + 1 → (o : Option Running) → Stays blocks n o was → Fresh n was
  fresh_at was e None (inl f) = f
  fresh_at was e None (inr h) = let k : n ≤ accepts was = h.held.known in absurd (omega (arith, e, k))
  fresh_at was e (Some r) h = let k : n ≤ accepts was = h.known in absurd (omega (arith, e, k))

  first_holds : (was : Journal) → Fresh n was → Holds block.options.policy n d.session (AcceptedEntry listener n ∷ was)
  unfolding events_of
  first_holds was f =
      let none = fresh_none n was f in
      record {
        put = false;
        events = [];
        notes = [];
        told = sym none.0;
        over = λ e. cc;
        logs = λ e. cc;
        stands = subst (λ (t : Taken). StandsFor block.options.policy d.session [] t)
            (ap₂ (λ (x y : List ℕ). record { bus_side = x; client_side = y; notes = []; visible = []; held = 0 }) (sym (append-nil (written (bus_link n) was) ∙ none.1)) (sym (append-nil (written (client_link n) was) ∙ none.2)))
            (d.fresh block at);
      }

  new_held : (was added : Journal) → n ≡ accepts was + 1 → Fresh n was → Opened n (string_bytes block.address) d.running added → Moves block.options.policy n d.session d.running.session added →
      Held blocks n d.running (added ++ AcceptedEntry listener n ∷ was)
  unfolding some_of listener_of
  new_held was added e f o moves =
      let none = fresh_none n was f in
      let all : all_are (about n) added ≡ true = opened_about n (string_bytes block.address) d.running added o in
      let total : accepts (added ++ AcceptedEntry listener n ∷ was) ≡ accepts was + 1 = accepts_same n added (AcceptedEntry listener n ∷ was) all in
      record {
        block = block;
        at = ap (slice_get blocks) d.block ∙ at;
        listener = listener_same n added (AcceptedEntry listener n ∷ was) all
            ∙ ap (λ (b : Bool). if b then Some listener else listener_of n was) (same_number n) ∙ ap (λ (k : ℕ). Some k) (sym d.block);
        mode = d.sound.mode block (ap (slice_get blocks) d.block ∙ at);
        holds = holds_moved block.options.policy n d.session d.running.session added (AcceptedEntry listener n ∷ was) moves d.goes.end d.goes.mode
            (λ e. let none : is_some d.session.ended ≡ false = ap is_some d.runs in cc) (first_holds was f);
        client_gone = o.client_gone ∙ gone_on (client_link n) none.3;
        bus_gone = o.bus_gone ∙ gone_on (bus_link n) none.4;
        known = rw total (omega (arith, e));
      }
    where
      or_false : (x y : Bool) → y ≡ false → x ≡ (x || (false || y))
      or_false true y h = refl
      or_false false y h = sym h

      gone_on : (l : Link) → some_of (gone_by l) was ≡ false → some_of (gone_by l) added ≡ some_of (gone_by l) (added ++ AcceptedEntry listener n ∷ was)
      gone_on l h = or_false (some_of (gone_by l) added) (some_of (gone_by l) was) h ∙ sym (some_append (gone_by l) added (AcceptedEntry listener n ∷ was))

  new_placed : (journal : Journal) (b : Bool) → is_over d.running ≡ b → Held blocks n d.running journal → Stays blocks n (if b then None else Some d.running) journal
  new_placed journal true e h = inr (record { running = d.running; over = e; held = h })
  new_placed journal false e h = h

  new_stays : (was added : Journal) → Held blocks n d.running (added ++ AcceptedEntry listener n ∷ was) → all_are (about n) added ≡ true → Serves blocks old was →
      (k : ℕ) (b : Bool) → nat_eq n k ≡ b → Stays blocks k (cond b (unless_over d.running) (old.at k)) (added ++ AcceptedEntry listener n ∷ was)
  new_stays was added h all s k true e =
      let same : n ≡ k = grind (arith, nat_tests, e) in
      subst (λ (m : ℕ). Stays blocks m (unless_over d.running) (added ++ AcceptedEntry listener n ∷ was)) same (new_placed (added ++ AcceptedEntry listener n ∷ was) (is_over d.running) refl h)
  new_stays was added h all s k false e =
      stays_other blocks n k (old.at k) added (AcceptedEntry listener n ∷ was) all e (stays_quiet blocks k (old.at k) (AcceptedEntry listener n) was e (s.each k))

  new_serves : (was added : Journal) → n ≡ accepts was + 1 → Opened n (string_bytes block.address) d.running added → Moves block.options.policy n d.session d.running.session added →
      Serves blocks old was → Serves blocks new (added ++ AcceptedEntry listener n ∷ was)
  new_serves was added e o moves s =
      let fresh = fresh_at was e (old.at n) (s.each n) in
      let all : all_are (about n) added ≡ true = opened_about n (string_bytes block.address) d.running added o in
      let total : accepts (added ++ AcceptedEntry listener n ∷ was) ≡ accepts was + 1 = accepts_same n added (AcceptedEntry listener n ∷ was) all in
      record {
        each = λ k. subst (λ (x : Option Running). Stays blocks k x (added ++ AcceptedEntry listener n ∷ was)) (sym (d.sets.each k))
            (new_stays was added (new_held was added e fresh o moves) all s k (nat_eq n k) refl);
        counted = d.accepted ∙ ap (λ (x : ℕ). x + 1) s.counted ∙ sym total;
      }

  pub new_on : GoesOn blocks old new v0 v2
  new_on = record {
    each = λ now e.
        let y = d.goes.told now e in
        let x = adds.told y.0 y.1 in
        let joined : now ≡ y.2 ++ AcceptedEntry listener n ∷ x.0 = y.3 ∙ ap (λ (j : Journal). y.2 ++ j) x.2 in (
          x.0,
          x.1,
          y.2 ++ AcceptedEntry listener n ∷ [],
          joined ∙ sym (append_assoc y.2 (AcceptedEntry listener n ∷ []) x.0),
          λ s. subst (λ (j : Journal). Serves blocks new j) (sym joined) (new_serves x.0 y.2 (counted x.0 x.1) y.4 (y.5 block.options.policy tt) s),
        );
  }

accept_on : (blocks : List Block) (listener : ℕ) (block : Block) (old new : Table) (v0 v1 v2 : NetView) (answer : Accepted) → slice_get blocks listener ≡ Some block →
    ((session : ℕ) → answer ≡ New session → (was : Journal) → v0.journal ≡ Some was → session ≡ accepts was + 1) →
    Adds v0 v1 (accept_entry listener answer ∷ []) → Brought blocks listener (string_bytes block.address) answer old new v1 v2 → GoesOn blocks old new v0 v2
accept_on blocks listener block old new v0 v1 v2 (New n) at numbered adds d = new_on blocks listener block n old new v0 v1 v2 at (numbered n refl) adds d
accept_on blocks listener block old new v0 v1 v2 AcceptNotReady at numbered adds d =
    on_then blocks old old new v0 v1 v2 (quiet_on blocks old (accept_entry listener AcceptNotReady) v0 v1 (λ n. refl) refl adds) (same_on blocks old new v1 v2 d.0.at d.0.accepted d.1)
accept_on blocks listener block old new v0 v1 v2 AcceptFailed at numbered adds d =
    on_then blocks old old new v0 v1 v2 (quiet_on blocks old (accept_entry listener AcceptFailed) v0 v1 (λ n. refl) refl adds) (same_on blocks old new v1 v2 d.0.at d.0.accepted d.1)
accept_on blocks listener block old new v0 v1 v2 AcceptMemory at numbered adds d =
    on_then blocks old old new v0 v1 v2 (quiet_on blocks old (accept_entry listener AcceptMemory) v0 v1 (λ n. refl) refl adds) (same_on blocks old new v1 v2 d.0.at d.0.accepted d.1)

accept_sound : (blocks : List Block) (listener : ℕ) (address : List ℕ) (old new : Table) (v1 v2 : NetView) (answer : Accepted) →
    Brought blocks listener address answer old new v1 v2 → SoundTable blocks old.at → SoundTable blocks new.at
accept_sound blocks listener address old new v1 v2 (New n) d s = opened_sound blocks listener address n old new v1 v2 d s
accept_sound blocks listener address old new v1 v2 AcceptNotReady d s = same_sound blocks old.at new.at d.0.at s
accept_sound blocks listener address old new v1 v2 AcceptFailed d s = same_sound blocks old.at new.at d.0.at s
accept_sound blocks listener address old new v1 v2 AcceptMemory d s = same_sound blocks old.at new.at d.0.at s

-- the work of a turn: the sessions are sound after it, and go on serving the journal
pub record Worked (blocks : List Block) (old new : Table) (before after : NetView) : Type 0 where
  pub sound : SoundTable blocks new.at
  pub on : GoesOn blocks old new before after

still_worked : (blocks : List Block) (old new : Table) (before after : NetView) (first last : SinkView) → SoundTable blocks old.at → Still old new before after first last → Worked blocks old new before after
still_worked blocks old new before after first last s d = record { sound = same_sound blocks old.at new.at d.same.at s; on = same_on blocks old new before after d.same.at d.same.accepted d.net }

listener_worked : (blocks : List Block) (room : Bool) (listener : ℕ) (block : Option Block) (old new : Table) (before after : NetView) (first last : SinkView) →
    slice_get blocks listener ≡ block → SoundTable blocks old.at → ListenerDid room blocks listener block old new before after first last → Worked blocks old new before after
listener_worked blocks true listener (Some block) old new before after first last at s d = record {
  sound = accept_sound blocks listener (string_bytes block.address) old new d.0.between after d.0.answer d.0.brings s;
  on = accept_on blocks listener block old new before d.0.between after d.0.answer at d.0.numbered d.0.adds d.0.brings;
}
listener_worked blocks true listener None old new before after first last at s d = still_worked blocks old new before after first last s d
listener_worked blocks false listener block old new before after first last at s d = still_worked blocks old new before after first last s d

link_worked : (blocks : List Block) (link : Link) (at : Option Running) (old new : Table) (before after : NetView) (first last : SinkView) →
    old.at link.session ≡ at → SoundTable blocks old.at → LinkDid blocks link at old new before after first last → Worked blocks old new before after
link_worked blocks link None old new before after first last at s d = still_worked blocks old new before after first last s d
link_worked blocks link (Some running) old new before after first last at s d = record {
  sound = served_sound blocks link running old new before after first last at d s;
  on = served_on blocks link running old new before after first last at (s.number link.session running at) d;
}

ready_worked : (blocks : List Block) (limit : ℕ) (ready : Ready) (old new : Table) (before after : NetView) (first last : SinkView) →
    SoundTable blocks old.at → ReadyDid blocks limit ready old new before after first last → Worked blocks old new before after
ready_worked blocks limit (Listener listener) old new before after first last s d =
    listener_worked blocks (nat_lt old.accepted limit) listener (slice_get blocks listener) old new before after first last refl s d
ready_worked blocks limit (ReadyLink link) old new before after first last s d = link_worked blocks link (old.at link.session) old new before after first last refl s d
ready_worked blocks limit Quiet old new before after first last s d = still_worked blocks old new before after first last s d
ready_worked blocks limit ReadyFailed old new before after first last s d = still_worked blocks old new before after first last s d

pub after_worked : (blocks : List Block) (limit : ℕ) (ready : Ready) (old new : Table) (before after : NetView) (first last : SinkView) (answer : Result Turn ServerEnd) →
    SoundTable blocks old.at → AfterWait blocks limit ready old new before after first last answer → Worked blocks old new before after
after_worked blocks limit ready old new before after first last (Err Memory) s d = still_worked blocks old new before after first last s d.0
after_worked blocks limit ready old new before after first last (Err Wait) s d = ready_worked blocks limit ready old new before after first last s d.0
after_worked blocks limit ready old new before after first last (Err (Listen k)) s d = absurd d
after_worked blocks limit ready old new before after first last (Ok turn) s d = ready_worked blocks limit ready old new before after first last s d.0

pub ready_quiet : (ready : Ready) (n : ℕ) → touches n (ReadyEntry ready) ≡ false
ready_quiet ready n = refl

pub turn_worked : (blocks : List Block) (limit : ℕ) (old new : Table) (before after : NetView) (first last : SinkView) (answer : Result Turn ServerEnd) →
    SoundTable blocks old.at → TurnDid blocks limit old new before after first last answer → Worked blocks old new before after
turn_worked blocks limit old new before after first last answer s d =
    let w = after_worked blocks limit d.ready old new d.between after first last answer s d.does in
    record {
      sound = w.sound;
      on = on_then blocks old old new before d.between after (quiet_on blocks old (ReadyEntry d.ready) before d.between (ready_quiet d.ready) refl d.waited) w.on;
    }

-- a turn's answer, by what was ready
never_other : (done : Bool) (ready : Ready) (end : ServerEnd) → answer_at done ready ≡ Err end → end ≡ Wait
never_other true (Listener l) end h = cc
never_other false (Listener l) end h = cc
never_other true (ReadyLink l) end h = cc
never_other false (ReadyLink l) end h = cc
never_other true Quiet end h = cc
never_other false Quiet end h = cc
never_other true ReadyFailed end h = cc
never_other false ReadyFailed end h = let t : Wait ≡ end = cc in sym t

pub after_wait : (blocks : List Block) (limit : ℕ) (ready : Ready) (old new : Table) (before after : NetView) (first last : SinkView) (answer : Result Turn ServerEnd) →
    answer ≡ answer_at (is_done limit new) ready → ReadyDid blocks limit ready old new before after first last →
    AfterWait blocks limit ready old new before after first last answer
after_wait blocks limit ready old new before after first last (Ok turn) e d = (d, e)
after_wait blocks limit ready old new before after first last (Err Wait) e d = (d, e)
after_wait blocks limit ready old new before after first last (Err Memory) e d = let t : Memory ≡ Wait = never_other (is_done limit new) ready Memory (sym e) in cc
after_wait blocks limit ready old new before after first last (Err (Listen k)) e d = let t : Listen k ≡ Wait = never_other (is_done limit new) ready (Listen k) (sym e) in cc

wait_failed : (done : Bool) (ready : Ready) → Err Wait ≡ answer_at done ready → ready ≡ ReadyFailed
wait_failed true (Listener l) h = cc
wait_failed false (Listener l) h = cc
wait_failed true (ReadyLink l) h = cc
wait_failed false (ReadyLink l) h = cc
wait_failed true Quiet h = cc
wait_failed false Quiet h = cc
wait_failed true ReadyFailed h = cc
wait_failed false ReadyFailed h = refl

still_of : (blocks : List Block) (limit : ℕ) (ready : Ready) (old new : Table) (before after : NetView) (first last : SinkView) → ready ≡ ReadyFailed →
    ReadyDid blocks limit ready old new before after first last → after ≡ before
still_of blocks limit (Listener l) old new before after first last e d = cc
still_of blocks limit (ReadyLink l) old new before after first last e d = cc
still_of blocks limit Quiet old new before after first last e d = cc
still_of blocks limit ReadyFailed old new before after first last e d = d.net

-- a turn answers Wait only where the net's own count rose
pub wait_rose : (blocks : List Block) (limit : ℕ) (old new : Table) (before after : NetView) (first last : SinkView) (answer : Result Turn ServerEnd) →
    answer ≡ Err Wait → TurnDid blocks limit old new before after first last answer → RoseAt OfNet before after
wait_rose blocks limit old new before after first last (Err Wait) e d =
    let failed : d.ready ≡ ReadyFailed = wait_failed (is_done limit new) d.ready d.does.1 in
    subst (λ (v : NetView). RoseAt OfNet before v) (sym (still_of blocks limit d.ready old new d.between after first last failed d.does.0)) (d.failed failed)
wait_rose blocks limit old new before after first last (Err Memory) e d = cc
wait_rose blocks limit old new before after first last (Err (Listen k)) e d = cc
wait_rose blocks limit old new before after first last (Ok turn) e d = cc
