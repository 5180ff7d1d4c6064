-- The log of a whole run: turn by turn, with the sessions whose lines weren't all written.
use Rattle.std.proofs.Common.{ℕ, zero, suc, nat_eq, nat_lt, ◌≡◌, ◌+◌, ◌≤◌, ◌⊎◌, inl, inr, Bool, true, false, cond, ◌||◌, is_some, is_none, List, [], ◌∷◌, ◌++◌, Option, Some, None, Result, Ok, Err, if◌then◌else◌, refl, ap, sym, ◌∙◌, subst, arith, append-nil, append_assoc, slice_get, string_bytes, length}
use Rattle.std.proofs.lemmas.Bool.Decides.{nat_tests}
use Rattle.link_traits.specs.Journals.{Journal, accepts}
use Rattle.link_traits.specs.Told.{Rose}
use Rattle.link_traits.specs.Views.{NetView, Adds, Appends, SinkView}
use Rattle.link_traits.specs.Answers.{accept_entry, connect_entry}
use Rattle.link_traits.specs.Entries.{Entry, ready as Ready, accepted as Accept, connected as Connected, read as Read, finished as Ended, wrote as Wrote, not_ready as NotReady, failed as Failed, refused as Refused, shut as Shut, listened as Listened}
use Rattle.link_traits.specs.declared.links.Link.{Link}
use Rattle.link_traits.specs.declared.links.Call.TheVariants.{Listen as ListenCall}
use Rattle.link_traits.specs.declared.links.Ready.{Ready as ReadyAnswer}
use Rattle.link_traits.specs.declared.links.Ready.TheVariants.{Listener, Link as ReadyLink, Quiet, Failed as ReadyFailed}
use Rattle.link_traits.specs.declared.links.Accepted.{Accepted}
use Rattle.link_traits.specs.declared.links.Accepted.TheVariants.{New, NotReady as AcceptNotReady, Failed as AcceptFailed, Memory as AcceptMemory}
use Rattle.link_traits.specs.declared.links.NetFault.{NetFault}
use Rattle.link_traits.specs.declared.links.NetFault.TheVariants.{Failed as FaultFailed, Memory as FaultMemory}
use Rattle.policy_args.specs.declared.line.Block.{Block}
use Rattle.policy_view.specs.declared.End.{End}
use Rattle.proxy_loop.specs.declared.serving.Running.{Running}
use Rattle.proxy_loop.specs.declared.turns.Turn.{Turn}
use Rattle.proxy_loop.specs.declared.turns.Turn.TheVariants.{Went, Stopped}
use Rattle.proxy_loop.specs.declared.turns.ServerEnd.{ServerEnd}
use Rattle.proxy_loop.specs.declared.turns.ServerEnd.TheVariants.{Listen, Wait, Memory}
use Rattle.proxy_loop.specs.Kinds.{all_are, some_of}
use Rattle.proxy_loop.specs.Runs.{Served, is_over}
use Rattle.proxy_loop.specs.Listening.{ListenDid, Heard, is_listened}
use Rattle.proxy_loop.specs.Tables.{Table, SoundTable, IsEmpty, unless_over}
use Rattle.proxy_loop.specs.Turns.{Still, ServedDid, LinkDid, Brought, ListenerDid, ReadyDid, AfterWait}
use Rattle.proxy_loop.specs.Servers.{Held, Stays, Serves, LinkLogs, ReadyLogs, Fresh, touches}
use Rattle.proxy_loop.proofs.Holding.{all_joined, rose_later, rose_sooner, same_number}
use Rattle.proxy_loop.proofs.Joining.{all_implied}
use Rattle.proxy_loop.proofs.Logged.{appends_none, appends_then}
use Rattle.proxy_loop.proofs.LinkFronts.{empty_serves, listen_on}
use Rattle.proxy_loop.proofs.TurnLogs.{after_logs}
use Rattle.proxy_loop.proofs.TurnLaws.{after_worked, serves_quiet, ready_quiet}
use Rattle.proxy_run.specs.Runs.{OneTurn, Turns, LastTurn, TurnsEnd, RunEnd, AfterListen, RunDid, most_turns}
use Rattle.proxy_run.specs.Logs.{block_at, is_cut, read_of, LogOf, RunLogs}
use Rattle.proxy_run.proofs.Logging.{is_unread, unread_more, unread_log, shuts_unread, Grows}
use Rattle.proxy_run.proofs.TurnLogging.{served_grows}
use Rattle.proxy_run.proofs.Whole.{no_sessions, none_empty}

-- the sessions whose lines weren't all written were accepted, and have an End
pub record CutEnd (table : Table) (cut : List ℕ) : Type 0 where
  pub known : (n : ℕ) → is_cut n cut ≡ true → n ≤ table.accepted
  pub each : (n : ℕ) (running : Running) → is_cut n cut ≡ true → table.at n ≡ Some running → is_some running.session.ended ≡ true

-- a journal with more has its log with more
pub record LogsMore (log_failed : Type 0) (blocks : List Block) (new : Table) (now : Journal) (got : List ℕ) (first last : SinkView) : Type 0 where
  pub cut : List ℕ
  pub more : List ℕ
  pub log : LogOf log_failed blocks now cut (got ++ more)
  pub appends : Appends first last more
  pub ends : CutEnd new cut

-- nothing was logged
nothing_more : (log_failed : Type 0) (blocks : List Block) (new : Table) (now : Journal) (cut got : List ℕ) (first last : SinkView) → LogOf log_failed blocks now cut got → last ≡ first → CutEnd new cut → LogsMore log_failed blocks new now got first last
nothing_more log_failed blocks new now cut got first last l same ends = record {
  cut = cut;
  more = [];
  log = subst (λ (g : List ℕ). LogOf log_failed blocks now cut g) (sym (append-nil got)) l;
  appends = subst (λ (s : SinkView). Appends first s []) (sym same) (appends_none first);
  ends = ends;
}

one_unread : (entry : Entry) → is_unread entry ≡ true → all_are is_unread (entry ∷ []) ≡ true
unfolding all_are
one_unread entry e = rw e refl

is_same : (n k : ℕ) → nat_eq n k ≡ true → k ≡ n
is_same n k e = grind (arith, nat_tests, e)

-- ---- one turn, after a wait that answered `answer`

module _ (log_failed : Type 0) (blocks : List Block) (old new : Table) (between after : NetView) (first last : SinkView) (widen : Rose first.faults last.faults → log_failed) (sound : SoundTable blocks old.at) (answer : ReadyAnswer) (was now : Journal)
    (told_mid : between.journal ≡ Some (Ready answer ∷ was)) (told_now : after.journal ≡ Some now) (serves : Serves blocks old was)
    (before got : List ℕ) (l : LogOf log_failed blocks was before got) (ends : CutEnd old before) where
  -- the journal grew by no read, and the sessions are as they were
  same_ends : ((k : ℕ) → new.at k ≡ old.at k) → new.accepted ≡ old.accepted → CutEnd new before
  same_ends same accepted = record {
    known = λ n c. subst (λ (k : ℕ). n ≤ k) (sym accepted) (ends.known n c);
    each = λ n running c at. ends.each n running c (sym (same n) ∙ at);
  }

  still_logs : Still old new between after first last → LogsMore log_failed blocks new now got first last
  still_logs d =
      let same : now ≡ Ready answer ∷ was = let e : Some now ≡ Some (Ready answer ∷ was) = sym told_now ∙ ap (λ (v : NetView). v.journal) d.net ∙ told_mid in cc in
      nothing_more log_failed blocks new now before got first last (subst (λ (j : Journal). LogOf log_failed blocks j before got) (sym same) l) d.log (same_ends d.same.at d.same.accepted)

  -- ---- a session that was served
  served_logs : (link : Link) (running : Running) → old.at link.session ≡ Some running → ServedDid blocks link running old new between after first last →
      LinkLogs blocks link.session (Some running) new was now first last → LogsMore log_failed blocks new now got first last
  served_logs link running at d logs =
      let t = d.served.serving.told now told_now in
      let same_mid : t.0 ≡ Ready answer ∷ was = let x : Some t.0 ≡ Some (Ready answer ∷ was) = sym t.1 ∙ told_mid in cc in
      let number : running.number ≡ link.session = sound.number link.session running at in
      let h : Held blocks link.session running was = subst (λ (o : Option Running). Stays blocks link.session o was) at (serves.each link.session) in
      let ended : is_cut link.session before ≡ true → is_some running.session.ended ≡ true = λ c. ends.each link.session running c at in
      from_grows h (served_grows log_failed blocks link.session h.block running d.now new link.side answer was now t.2 before got first last widen
      (subst (λ (m : ℕ). Served m link.side running d.now t.2) number t.4) (t.3 ∙ ap (λ (j : Journal). t.2 ++ j) same_mid)
      (ap (block_at blocks) h.listener ∙ h.at) ended l (logs h.block h.at))
    where
      now_at : (k : ℕ) → nat_eq link.session k ≡ true → new.at k ≡ unless_over d.now
      now_at k e = d.sets.each k ∙ ap (λ (b : Bool). cond b (unless_over d.now) (old.at k)) e

      other_at : (k : ℕ) → nat_eq link.session k ≡ false → new.at k ≡ old.at k
      other_at k e = d.sets.each k ∙ ap (λ (b : Bool). cond b (unless_over d.now) (old.at k)) e

      still : (o : Option End) → ((end : End) → o ≡ Some end → d.now.session.ended ≡ Some end) → is_some o ≡ true → is_some d.now.session.ended ≡ true
      still None keeps e = cc
      still (Some end) keeps e = ap (λ (x : Option End). is_some x) (keeps end refl)

      held_now : (over : Bool) (r : Running) → is_some d.now.session.ended ≡ true → (if over then None else Some d.now) ≡ Some r → is_some r.session.ended ≡ true
      held_now true r s e = cc
      held_now false r s e = let same : d.now ≡ r = cc in subst (λ (x : Running). is_some x.session.ended ≡ true) same s

      own_ends : (k : ℕ) (r : Running) → nat_eq link.session k ≡ true → is_cut k before ≡ true → new.at k ≡ Some r → is_some r.session.ended ≡ true
      own_ends k r e c a =
          let same : k ≡ link.session = is_same link.session k e in
          let was_ended : is_some running.session.ended ≡ true = ends.each link.session running (subst (λ (m : ℕ). is_cut m before ≡ true) same c) at in
          held_now (is_over d.now) r (still running.session.ended d.served.serving.end was_ended) (sym (now_at k e) ∙ a)

      kept_ends : (b : Bool) (k : ℕ) (r : Running) → nat_eq link.session k ≡ b → is_cut k before ≡ true → new.at k ≡ Some r → is_some r.session.ended ≡ true
      kept_ends true k r e c a = own_ends k r e c a
      kept_ends false k r e c a = ends.each k r c (sym (other_at k e) ∙ a)

      cut_ends : ((r : Running) → new.at link.session ≡ Some r → is_some r.session.ended ≡ true) → (b : Bool) (k : ℕ) (r : Running) → nat_eq link.session k ≡ b → (b || is_cut k before) ≡ true →
          new.at k ≡ Some r → is_some r.session.ended ≡ true
      cut_ends own true k r e c a = own r (ap new.at (sym (is_same link.session k e)) ∙ a)
      cut_ends own false k r e c a = kept_ends false k r e c a

      cut_known : Held blocks link.session running was → (b : Bool) (k : ℕ) → nat_eq link.session k ≡ b → (b || is_cut k before) ≡ true → k ≤ new.accepted
      cut_known h true k e c =
          let same : k ≡ link.session = is_same link.session k e in
          let one : link.session ≤ accepts was = h.known in
          let two : old.accepted ≡ accepts was = serves.counted in
          let three : new.accepted ≡ old.accepted = d.accepted in omega arith
      cut_known h false k e c = subst (λ (m : ℕ). k ≤ m) (sym d.accepted) (ends.known k c)

      by_cuts : Held blocks link.session running was → (cut : List ℕ) → (cut ≡ before) ⊎ ((cut ≡ link.session ∷ before) × ((r : Running) → new.at link.session ≡ Some r → is_some r.session.ended ≡ true)) → CutEnd new cut
      by_cuts h cut (inl same) = rw same (record {
        known = λ k c. subst (λ (m : ℕ). k ≤ m) (sym d.accepted) (ends.known k c);
        each = λ k r c a. kept_ends (nat_eq link.session k) k r refl c a;
      })
      by_cuts h cut (inr more) = rw more.0 (record {
        known = λ k c. cut_known h (nat_eq link.session k) k refl c;
        each = λ k r c a. cut_ends more.1 (nat_eq link.session k) k r refl c a;
      })

      from_grows : Held blocks link.session running was → Grows log_failed blocks link.session new now before got first last → LogsMore log_failed blocks new now got first last
      from_grows h g = record { cut = g.cut; more = g.more; log = g.log; appends = g.appends; ends = by_cuts h g.cut g.cuts }

  -- ---- a session that was accepted
  accept_unread : (listener : ℕ) (a : Accepted) → is_unread (accept_entry listener a) ≡ true
  accept_unread listener (New session) = refl
  accept_unread listener AcceptNotReady = refl
  accept_unread listener AcceptFailed = refl
  accept_unread listener AcceptMemory = refl

  connect_unread : (session : ℕ) (path : List ℕ) (a : Result (Unit {0}) NetFault) → is_unread (connect_entry session path a) ≡ true
  connect_unread session path (Ok done) = refl
  connect_unread session path (Err FaultFailed) = refl
  connect_unread session path (Err FaultMemory) = refl

  accepted_log : (listener : ℕ) (a : Accepted) → LogOf log_failed blocks (accept_entry listener a ∷ Ready answer ∷ was) before got
  unfolding all_are
  accepted_log listener a = unread_log log_failed blocks (accept_entry listener a ∷ []) (Ready answer ∷ was) before got (rw (accept_unread listener a) refl) l

  quiet_accept : (listener : ℕ) (a : Accepted) (v1 : NetView) → Adds between v1 (accept_entry listener a ∷ []) → after ≡ v1 → last ≡ first → CutEnd new before → LogsMore log_failed blocks new now got first last
  quiet_accept listener a v1 adds net same ends_now =
      let b = adds.told now (ap (λ (v : NetView). v.journal) (sym net) ∙ told_now) in
      let same_mid : b.0 ≡ Ready answer ∷ was = let x : Some b.0 ≡ Some (Ready answer ∷ was) = sym b.1 ∙ told_mid in cc in
      let is : now ≡ accept_entry listener a ∷ Ready answer ∷ was = b.2 ∙ ap (λ (j : Journal). accept_entry listener a ∷ j) same_mid in
      nothing_more log_failed blocks new now before got first last (subst (λ (j : Journal). LogOf log_failed blocks j before got) (sym is) (accepted_log listener a)) same ends_now

  brought_logs : (listener : ℕ) (address : List ℕ) (a : Accepted) (v1 : NetView) → Adds between v1 (accept_entry listener a ∷ []) →
      ((session : ℕ) → a ≡ New session → (j : Journal) → between.journal ≡ Some j → session ≡ accepts j + 1) →
      Brought blocks listener address a old new v1 after → last ≡ first → LogsMore log_failed blocks new now got first last
  brought_logs listener address (New session) v1 adds numbered d same =
      let g = d.goes.told now told_now in
      let a = adds.told g.0 g.1 in
      let same_mid : a.0 ≡ Ready answer ∷ was = let x : Some a.0 ≡ Some (Ready answer ∷ was) = sym a.1 ∙ told_mid in cc in
      let is : now ≡ g.2 ++ (Accept listener session ∷ Ready answer ∷ was) = g.3 ∙ ap (λ (j : Journal). g.2 ++ j) (a.2 ∙ ap (λ (j : Journal). Accept listener session ∷ j) same_mid) in
      let unread : all_are is_unread g.2 ≡ true = subst (λ (j : Journal). all_are is_unread j ≡ true) (sym g.4.is)
      (all_joined is_unread (connect_entry session address g.4.answer ∷ []) g.4.shuts (one_unread (connect_entry session address g.4.answer) (connect_unread session address g.4.answer)) (shuts_unread session _ _ g.4.shuts g.4.shut)) in
      let number : session ≡ accepts (Ready answer ∷ was) + 1 = numbered session refl (Ready answer ∷ was) told_mid in
      nothing_more log_failed blocks new now before got first last
      (subst (λ (j : Journal). LogOf log_failed blocks j before got) (sym is) (unread_log log_failed blocks g.2 (Accept listener session ∷ Ready answer ∷ was) before got unread (accepted_log listener (New session)))) same
      (record {
        known = λ k c. let x : k ≤ old.accepted = ends.known k c in let y : new.accepted ≡ old.accepted + 1 = d.accepted in omega arith;
        each = λ k r c at. let x : k ≤ old.accepted = ends.known k c in let y : old.accepted ≡ accepts was = serves.counted in
            let other : nat_eq session k ≡ false = grind (arith, nat_tests, number, x, y) in
            ends.each k r c (sym (d.sets.each k ∙ ap (λ (b : Bool). cond b (unless_over d.running) (old.at k)) other) ∙ at);
      })
  brought_logs listener address AcceptNotReady v1 adds numbered d same = quiet_accept listener AcceptNotReady v1 adds d.1 same (same_ends d.0.at d.0.accepted)
  brought_logs listener address AcceptFailed v1 adds numbered d same = quiet_accept listener AcceptFailed v1 adds d.1 same (same_ends d.0.at d.0.accepted)
  brought_logs listener address AcceptMemory v1 adds numbered d same = quiet_accept listener AcceptMemory v1 adds d.1 same (same_ends d.0.at d.0.accepted)

  listener_logs : (room : Bool) (listener : ℕ) (block : Option Block) → ListenerDid room blocks listener block old new between after first last → LogsMore log_failed blocks new now got first last
  listener_logs true listener (Some block) d = brought_logs listener (string_bytes block.address) d.0.answer d.0.between d.0.adds d.0.numbered d.0.brings d.1
  listener_logs true listener None d = still_logs d
  listener_logs false listener block d = still_logs d

  link_logs : (link : Link) (o : Option Running) → old.at link.session ≡ o → LinkDid blocks link o old new between after first last → LinkLogs blocks link.session o new was now first last → LogsMore log_failed blocks new now got first last
  link_logs link None e d logs = still_logs d
  link_logs link (Some running) e d logs = served_logs link running e d logs

  ready_logs : (limit : ℕ) (a : ReadyAnswer) → ReadyDid blocks limit a old new between after first last → ReadyLogs blocks a old new was now first last → LogsMore log_failed blocks new now got first last
  ready_logs limit (Listener listener) d logs = listener_logs (nat_lt old.accepted limit) listener (slice_get blocks listener) d
  ready_logs limit (ReadyLink link) d logs = link_logs link (old.at link.session) refl d logs
  ready_logs limit Quiet d logs = still_logs d
  ready_logs limit ReadyFailed d logs = still_logs d

  pub wait_logs : (limit : ℕ) (end : Result Turn ServerEnd) → AfterWait blocks limit answer old new between after first last end → ReadyLogs blocks answer old new was now first last → LogsMore log_failed blocks new now got first last
  wait_logs limit (Err Memory) d logs = still_logs d.0
  wait_logs limit (Err Wait) d logs = ready_logs limit answer d.0 logs
  wait_logs limit (Err (Listen k)) d logs = absurd d
  wait_logs limit (Ok turn) d logs = ready_logs limit answer d.0 logs

-- ---- the count of the log's faults

same_counts : (first last : SinkView) → last ≡ first → first.faults ≤ last.faults
same_counts first last same = rw same (omega arith)

module _ (blocks : List Block) (old new : Table) (between after : NetView) (first last : SinkView) where
  listener_counts : (room : Bool) (listener : ℕ) (block : Option Block) → ListenerDid room blocks listener block old new between after first last → first.faults ≤ last.faults
  listener_counts true listener (Some block) d = same_counts first last d.1
  listener_counts true listener None d = same_counts first last d.log
  listener_counts false listener block d = same_counts first last d.log

  link_counts : (link : Link) (o : Option Running) → LinkDid blocks link o old new between after first last → first.faults ≤ last.faults
  link_counts link None d = same_counts first last d.log
  link_counts link (Some running) d = d.served.serving.log_counts

  ready_counts : (limit : ℕ) (answer : ReadyAnswer) → ReadyDid blocks limit answer old new between after first last → first.faults ≤ last.faults
  ready_counts limit (Listener listener) d = listener_counts (nat_lt old.accepted limit) listener (slice_get blocks listener) d
  ready_counts limit (ReadyLink link) d = link_counts link (old.at link.session) d
  ready_counts limit Quiet d = same_counts first last d.log
  ready_counts limit ReadyFailed d = same_counts first last d.log

  -- it never falls
  after_counts : (limit : ℕ) (answer : ReadyAnswer) (end : Result Turn ServerEnd) → AfterWait blocks limit answer old new between after first last end → first.faults ≤ last.faults
  after_counts limit answer (Err Memory) d = same_counts first last d.0.log
  after_counts limit answer (Err Wait) d = ready_counts limit answer d.0
  after_counts limit answer (Err (Listen k)) d = absurd d
  after_counts limit answer (Ok turn) d = ready_counts limit answer d.0

-- ---- turn after turn

pub record LogsSoFar (log_failed : Type 0) (blocks : List Block) (table : Table) (journal : Journal) (cut got : List ℕ) : Type 0 where
  pub serves : Serves blocks table journal
  pub log : LogOf log_failed blocks journal cut got
  pub ends : CutEnd table cut

-- what is done makes of a journal's log: if the journal is known after it, it was known before, and its log grew by
-- what the sink got
pub record LogsOn (log_failed : Type 0) (blocks : List Block) (old new : Table) (before after : NetView) (first last : SinkView) : Type 0 where
  pub counts : first.faults ≤ last.faults
  pub each : (now : Journal) → after.journal ≡ Some now → (was : Journal) × (before.journal ≡ Some was)
      × ((Rose first.faults last.faults → log_failed) → (cut got : List ℕ) → LogsSoFar log_failed blocks old was cut got → (cut_now : List ℕ) × (more : List ℕ) × LogsSoFar log_failed blocks new now cut_now (got ++ more) × Appends first last more)

pub turn_logs_on : (log_failed : Type 0) (blocks : List Block) (limit : ℕ) (old new : Table) (before after : NetView) (first last : SinkView) (answer : Result Turn ServerEnd) → OneTurn blocks limit old new before after first last answer →
    LogsOn log_failed blocks old new before after first last
turn_logs_on log_failed blocks limit old new before after first last answer t = record {
  counts = after_counts blocks old new t.did.between after first last limit t.did.ready answer t.did.does;
  each = λ now e.
      let d = t.did in
      let g = t.serves.each now e in
      let w = (after_worked blocks limit d.ready old new d.between after first last answer t.sound d.does).on.each now e in
      let a = d.waited.told w.0 w.1 in
      let same : a.0 ≡ g.0 = let x : Some a.0 ≡ Some g.0 = sym a.1 ∙ g.1 in cc in
      let mid : d.between.journal ≡ Some (Ready d.ready ∷ g.0) = w.1 ∙ ap (λ (j : Journal). Some j) (a.2 ∙ ap (λ (j : Journal). Ready d.ready ∷ j) same) in (
        g.0,
        g.1,
        λ widen cut got s.
            let waited : Serves blocks old (Ready d.ready ∷ g.0) = serves_quiet blocks old (Ready d.ready) g.0 (ready_quiet d.ready) refl s.serves in
            let m = wait_logs log_failed blocks old new d.between after first last widen t.sound d.ready g.0 now mid e s.serves cut got s.log s.ends limit answer d.does
            (after_logs blocks old new d.between after first last t.sound d.ready g.0 now mid e waited limit answer d.does) in
            (m.cut, m.more, record { serves = g.4 s.serves; log = m.log; ends = m.ends }, m.appends),
      );
}

logs_then : (log_failed : Type 0) (blocks : List Block) (t0 t1 t2 : Table) (v0 v1 v2 : NetView) (l0 l1 l2 : SinkView) → LogsOn log_failed blocks t0 t1 v0 v1 l0 l1 → LogsOn log_failed blocks t1 t2 v1 v2 l1 l2 → LogsOn log_failed blocks t0 t2 v0 v2 l0 l2
logs_then log_failed blocks t0 t1 t2 v0 v1 v2 l0 l1 l2 h k = record {
  counts = omega (arith, h.counts, k.counts);
  each = λ now e. let b = k.each now e in let a = h.each b.0 b.1 in (
    a.0,
    a.1,
    λ widen cut got s.
        let one = a.2 (λ rose. widen (rose_later l0.faults l1.faults l2.faults rose k.counts)) cut got s in
        let two = b.2 (λ rose. widen (rose_sooner l0.faults l1.faults l2.faults h.counts rose)) one.0 (got ++ one.1) one.2 in (
          two.0,
          one.1 ++ two.1,
          subst (λ (g : List ℕ). LogsSoFar log_failed blocks t2 now two.0 g) (append_assoc got one.1 two.1) two.2,
          appends_then l0 l1 l2 one.1 two.1 one.3 two.3,
        ),
  );
}

logs_none : (log_failed : Type 0) (blocks : List Block) (table : Table) (net : NetView) (sink : SinkView) → LogsOn log_failed blocks table table net net sink sink
logs_none log_failed blocks table net sink = record {
  counts = omega arith;
  each = λ now e. (now, e, λ widen cut got s. (cut, [], subst (λ (g : List ℕ). LogsSoFar log_failed blocks table now cut g) (sym (append-nil got)) s, appends_none sink));
}

turns_logs_on : (log_failed : Type 0) (blocks : List Block) (limit count : ℕ) (old new : Table) (before after : NetView) (first last : SinkView) → Turns blocks limit count old new before after first last → LogsOn log_failed blocks old new before after first last
turns_logs_on log_failed blocks limit zero old new before after first last t = rw t.0 (rw t.1 (rw t.2 (logs_none log_failed blocks old before first)))
turns_logs_on log_failed blocks limit (suc count) old new before after first last t =
    logs_then log_failed blocks old t.0 new before t.1 after first t.2 last (turns_logs_on log_failed blocks limit count old t.0 before t.1 first t.2 t.3) (turn_logs_on log_failed blocks limit t.0 new t.1 after t.2 last (Ok Went) t.4)

last_logs_on : (log_failed : Type 0) (blocks : List Block) (limit : ℕ) (old new : Table) (before after : NetView) (first last : SinkView) (answer : Result Turn ServerEnd) → LastTurn blocks limit old new before after first last answer →
    LogsOn log_failed blocks old new before after first last
last_logs_on log_failed blocks limit old new before after first last answer t =
    logs_then log_failed blocks old t.mid new before t.between after first t.so_far last (turns_logs_on log_failed blocks limit t.count old t.mid before t.between first t.so_far t.turns)
    (turn_logs_on log_failed blocks limit t.mid new t.between after t.so_far last answer t.turn)

pub ended_logs_on : (log_failed : Type 0) (blocks : List Block) (limit : ℕ) (old new : Table) (before after : NetView) (first last : SinkView) (end : Result (Unit {0}) ServerEnd) → TurnsEnd blocks limit old new before after first last end →
    LogsOn log_failed blocks old new before after first last
ended_logs_on log_failed blocks limit old new before after first last (Ok done) (inl t) = last_logs_on log_failed blocks limit old new before after first last (Ok Stopped) t
ended_logs_on log_failed blocks limit old new before after first last (Ok done) (inr t) = turns_logs_on log_failed blocks limit most_turns old new before after first last t
ended_logs_on log_failed blocks limit old new before after first last (Err end) t = last_logs_on log_failed blocks limit old new before after first last (Err end) t

-- ---- listening

-- entries that aren't reads were added
pub record AddsUnread (before after : NetView) : Type 0 where
  pub each : (now : Journal) → after.journal ≡ Some now → (was : Journal) × (before.journal ≡ Some was) × (added : Journal) × (now ≡ added ++ was) × (all_are is_unread added ≡ true)

listened_unread : (entry : Entry) → is_listened entry ≡ true → is_unread entry ≡ true
listened_unread (Listened listener path) h = refl
listened_unread (Ready answer) h = refl
listened_unread (Accept listener session) h = refl
listened_unread (Connected session path) h = refl
listened_unread (Read at bytes) h = cc
listened_unread (Ended at) h = refl
listened_unread (Wrote at bytes) h = refl
listened_unread (NotReady call) h = refl
listened_unread (Failed call) h = refl
listened_unread (Refused call) h = refl
listened_unread (Shut at) h = refl

heard_unread : (blocks : List Block) (count : ℕ) (before after : NetView) → Heard blocks count before after → AddsUnread before after
heard_unread blocks count before after h = record {
  each = λ now e. let t = h.told now e in (t.0, t.1, t.2, t.3, all_implied is_listened is_unread listened_unread t.2 t.4);
}

one_more_unread : (blocks : List Block) (count : ℕ) (before between after : NetView) (entry : Entry) → is_unread entry ≡ true → Heard blocks count before between → Adds between after (entry ∷ []) → AddsUnread before after
unfolding all_are
one_more_unread blocks count before between after entry u h adds = record {
  each = λ now e. let a = adds.told now e in let t = h.told a.0 a.1 in (
    t.0,
    t.1,
    entry ∷ t.2,
    a.2 ∙ ap (λ (j : Journal). entry ∷ j) t.3,
    rw u (all_implied is_listened is_unread listened_unread t.2 t.4),
  );
}

listen_unread : (blocks : List Block) (before after : NetView) (heard : Result (Unit {0}) ServerEnd) → ListenDid blocks before after heard → AddsUnread before after
listen_unread blocks before after (Ok done) h = heard_unread blocks (length blocks) before after h
listen_unread blocks before after (Err (Listen k)) h = one_more_unread blocks k before h.0 after (Failed ListenCall) refl h.2 h.3
listen_unread blocks before after (Err Memory) h = one_more_unread blocks h.1 before h.0 after (Refused ListenCall) refl h.3 h.4
listen_unread blocks before after (Err Wait) h = absurd h

pub listen_logs_on : (log_failed : Type 0) (blocks : List Block) (table : Table) (before after : NetView) (sink : SinkView) (heard : Result (Unit {0}) ServerEnd) → ListenDid blocks before after heard → LogsOn log_failed blocks table table before after sink sink
listen_logs_on log_failed blocks table before after sink heard h = record {
  counts = omega arith;
  each = λ now e.
      let g = (listen_on blocks table before after heard h).each now e in
      let u = (listen_unread blocks before after heard h).each now e in
      let same : u.0 ≡ g.0 = let x : Some u.0 ≡ Some g.0 = sym u.1 ∙ g.1 in cc in (
        g.0,
        g.1,
        λ widen cut got s. (
          cut,
          [],
          record {
            serves = g.4 s.serves;
            log = subst (λ (x : List ℕ). LogOf log_failed blocks now cut x) (sym (append-nil got))
                (subst (λ (j : Journal). LogOf log_failed blocks j cut got) (sym (u.3 ∙ ap (λ (j : Journal). u.2 ++ j) same)) (unread_log log_failed blocks u.2 g.0 cut got u.4 s.log));
            ends = s.ends;
          },
          appends_none sink,
        ),
      );
}

-- ---- the start

read_touches : (entry : Entry) (n : ℕ) → read_of entry ≡ Some n → touches n entry ≡ true
read_touches (Read link bytes) n e = let same : link.session ≡ n = cc in subst (λ (m : ℕ). touches m (Read link bytes) ≡ true) same (here (nat_eq link.session link.session) (same_number link.session))
  where
    here : (b : Bool) → b ≡ true → (b || false) ≡ true
    here true h = refl
    here false h = cc
read_touches (Listened listener path) n e = cc
read_touches (Ready answer) n e = cc
read_touches (Accept listener session) n e = cc
read_touches (Connected session path) n e = cc
read_touches (Ended at) n e = cc
read_touches (Wrote at bytes) n e = cc
read_touches (NotReady call) n e = cc
read_touches (Failed call) n e = cc
read_touches (Refused call) n e = cc
read_touches (Shut at) n e = cc

fresh_unread : (entry : Entry) (journal : Journal) → ((n : ℕ) → Fresh n (entry ∷ journal)) → is_unread entry ≡ true
unfolding some_of
fresh_unread entry journal fresh = at_entry (read_of entry) refl
  where
    touched : (a b : Bool) → a ≡ true → a || b ≡ false → is_unread entry ≡ true
    touched true b h k = cc
    touched false b h k = cc

    at_entry : (o : Option ℕ) → read_of entry ≡ o → is_unread entry ≡ true
    at_entry None e = ap (λ (o : Option ℕ). is_none o) e
    at_entry (Some n) e = touched (touches n entry) (some_of (touches n) journal) (read_touches entry n e) (fresh n)

fresh_log : (log_failed : Type 0) (blocks : List Block) (journal : Journal) → ((n : ℕ) → Fresh n journal) → LogOf log_failed blocks journal [] []
unfolding some_of
fresh_log log_failed blocks [] fresh = (refl, refl)
fresh_log log_failed blocks (entry ∷ journal) fresh =
    unread_more log_failed blocks entry journal [] [] (fresh_unread entry journal fresh) (fresh_log log_failed blocks journal (λ n. second (touches n entry) (some_of (touches n) journal) (fresh n)))
  where
    second : (a b : Bool) → a || b ≡ false → b ≡ false
    second true b e = cc
    second false b e = e

pub logs_from : (blocks : List Block) (old new : Table) (before after : NetView) (first last : SinkView) → IsEmpty old → LogsOn (Rose first.faults last.faults) blocks old new before after first last → RunLogs blocks before after first last
logs_from blocks old new before after first last empty on = record {
  each = λ now e. let g = on.each now e in (
    g.0,
    g.1,
    λ w.
        let start : LogsSoFar (Rose first.faults last.faults) blocks old g.0 [] [] = record {
          serves = empty_serves blocks old g.0 empty w;
          log = fresh_log (Rose first.faults last.faults) blocks g.0 w.fresh;
          ends = record { known = λ n c. cc; each = λ n running c at. cc };
        } in
        let s = g.2 (λ rose. rose) [] [] start in (s.0, s.1, s.2.log, s.3),
  );
}

rest_logs : (blocks : List Block) (limit : ℕ) (heard end : RunEnd) (v0 v1 v2 : NetView) (l0 l2 : SinkView) → ListenDid blocks v0 v1 heard → AfterListen blocks limit heard v1 v2 l0 l2 end → RunLogs blocks v0 v2 l0 l2
rest_logs blocks limit (Ok done) end v0 v1 v2 l0 l2 h a =
    logs_from blocks a.old a.new v0 v2 l0 l2 a.empty
    (logs_then (Rose l0.faults l2.faults) blocks a.old a.old a.new v0 v1 v2 l0 l0 l2 (listen_logs_on (Rose l0.faults l2.faults) blocks a.old v0 v1 l0 (Ok done) h) (ended_logs_on (Rose l0.faults l2.faults) blocks limit a.old a.new v1 v2 l0 l2 end a.ended))
rest_logs blocks limit (Err refused) end v0 v1 v2 l0 l2 h a =
    rw a.0 (rw a.1 (logs_from blocks no_sessions no_sessions v0 v1 l0 l0 none_empty (listen_logs_on (Rose l0.faults l0.faults) blocks no_sessions v0 v1 l0 (Err refused) h)))

pub run_logs : (blocks : List Block) (limit : ℕ) (v0 v2 : NetView) (l0 l2 : SinkView) (end : RunEnd) → RunDid blocks limit v0 v2 l0 l2 end → RunLogs blocks v0 v2 l0 l2
run_logs blocks limit v0 v2 l0 l2 end (inl d) = rest_logs blocks limit d.heard end v0 d.between v2 l0 l2 d.listened d.rest
run_logs blocks limit v0 v2 l0 l2 end (inr d) = rw d.net (rw d.log (logs_from blocks no_sessions no_sessions v0 v0 l0 l0 none_empty (logs_none (Rose l0.faults l0.faults) blocks no_sessions v0 l0)))
