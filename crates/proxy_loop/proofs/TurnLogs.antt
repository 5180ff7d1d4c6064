-- What one turn adds to the log.
use Rattle.std.proofs.Common.{ℕ, nat_lt, ◌≡◌, ◌⊎◌, Bool, true, false, cond, List, [], ◌∷◌, ◌++◌, Option, Some, None, Result, Ok, Err, refl, ap, ◌∙◌, sym, subst, slice_get, inl, inr}
use Rattle.std.specs.Prelude.{is_some}
use Rattle.link_traits.specs.Journals.{Journal}
use Rattle.link_traits.specs.Views.{NetView, SinkView}
use Rattle.link_traits.specs.Entries.{ready as ReadyEntry}
use Rattle.link_traits.specs.declared.links.Link.{Link}
use Rattle.link_traits.specs.declared.links.Ready.{Ready}
use Rattle.link_traits.specs.declared.links.Ready.TheVariants.{Listener, Link as ReadyLink, Quiet, Failed as ReadyFailed}
use Rattle.policy_args.specs.Policy.{Policy}
use Rattle.policy_args.specs.declared.line.Block.{Block}
use Rattle.policy_view.specs.declared.Mode.{Mode}
use Rattle.proxy_core.specs.Sessions.{SessionView}
use Rattle.proxy_loop.specs.declared.serving.Running.{Running}
use Rattle.proxy_loop.specs.declared.turns.Turn.{Turn}
use Rattle.proxy_loop.specs.declared.turns.ServerEnd.{ServerEnd}
use Rattle.proxy_loop.specs.declared.turns.ServerEnd.TheVariants.{Listen, Wait, Memory}
use Rattle.proxy_loop.specs.Sessions.{Holds, events_of}
use Rattle.proxy_loop.specs.Runs.{Logged, ServedStands, WhyCut, log_of}
use Rattle.proxy_loop.specs.Tables.{Table, unless_over, session_mode, SoundTable}
use Rattle.proxy_loop.specs.Turns.{ServedDid, LinkDid, ListenerDid, ReadyDid, AfterWait, TurnDid}
use Rattle.proxy_loop.specs.Servers.{Held, Stays, Serves, BlockLogs, LinkLogs, ReadyLogs, LogExact}
use Rattle.proxy_loop.proofs.Holding.{same_number}
use Rattle.proxy_loop.proofs.NewSession.{same_block}
use Rattle.proxy_loop.proofs.TurnLaws.{serves_quiet, after_worked, ready_quiet}

-- an entry of `wait` tells no session anything
ready_log : (policy : Policy) (mode : Mode) (n : ℕ) (ready : Ready) (was : Journal) → log_of policy mode n (ReadyEntry ready ∷ was) ≡ log_of policy mode n was
unfolding log_of events_of
ready_log policy mode n ready was = refl

logged_from : (policy : Policy) (n : ℕ) (session : SessionView) (ready : Ready) (was now : Journal) (first last : SinkView) →
    Logged policy n session (ReadyEntry ready ∷ was) now first last → Logged policy n session was now first last
unfolding events_of
logged_from policy n session ready was now first last l = record {
  lines = l.lines;
  rest = l.rest;
  appends = l.appends;
  is = l.is ∙ ap (λ (x : List ℕ). x ++ (l.lines ++ l.rest)) (ready_log policy session.mode n ready was);
  cut = cut_from l.cut;
  whole = l.whole;
}
  where
    cut_from : (l.rest ≡ []) ⊎ ((is_some session.ended ≡ true) × WhyCut policy n session (ReadyEntry ready ∷ was) now l.lines first last)
        → (l.rest ≡ []) ⊎ ((is_some session.ended ≡ true) × WhyCut policy n session was now l.lines first last)
    cut_from (inl all) = inl all
    cut_from (inr (ended, inl held)) = inr (
      ended,
      inl (record {
        memory = held.memory;
        done = held.done;
        before = held.before;
        within = held.within;
        logged = held.logged ∙ ap (λ (x : List ℕ). x ++ l.lines) (ready_log policy session.mode n ready was);
        for_bus = held.for_bus;
        for_client = held.for_client;
      }),
    )
    cut_from (inr (ended, inr rose)) = inr (ended, inr rose)

-- what the log gets after a wait that answered `ready`
module _ (blocks : List Block) (old new : Table) (between after : NetView) (first last : SinkView) (sound : SoundTable blocks old.at) (ready : Ready) (was now : Journal)
    (told_mid : between.journal ≡ Some (ReadyEntry ready ∷ was)) (told_now : after.journal ≡ Some now) (serves : Serves blocks old (ReadyEntry ready ∷ was)) where
  served_log : (link : Link) (running : Running) → old.at link.session ≡ Some running → ServedDid blocks link running old new between after first last →
      (block : Block) → slice_get blocks running.block ≡ Some block → BlockLogs block.options.log block link.session new was now first last
  served_log link running at d block block_at =
      let t = d.served.serving.told now told_now in
      let same_mid : t.0 ≡ ReadyEntry ready ∷ was = let x : Some t.0 ≡ Some (ReadyEntry ready ∷ was) = sym t.1 ∙ told_mid in cc in
      let h : Held blocks link.session running (ReadyEntry ready ∷ was) = subst (λ (o : Option Running). Stays blocks link.session o (ReadyEntry ready ∷ was)) at (serves.each link.session) in
      let number : running.number ≡ link.session = sound.number link.session running at in
      let own_is : d.served.own ≡ h.block = same_block blocks running.block d.served.own h.block d.served.at h.at in
      let holds : Holds d.served.own.options.policy running.number running.session (ReadyEntry ready ∷ was) =
      subst (λ (m : ℕ). Holds d.served.own.options.policy m running.session (ReadyEntry ready ∷ was)) (sym number)
      (subst (λ (b : Block). Holds b.options.policy link.session running.session (ReadyEntry ready ∷ was)) (sym own_is) h.holds) in
      let stands : ServedStands d.served.own.options.policy d.served.own.options.log running.number running.session d.now.session (ReadyEntry ready ∷ was) now first last =
      subst (λ (j : Journal). Holds d.served.own.options.policy running.number running.session j → ServedStands d.served.own.options.policy d.served.own.options.log running.number running.session d.now.session j now first last) same_mid t.5 holds in
      subst (λ (b : Block). BlockLogs b.options.log b link.session new was now first last) (same_block blocks running.block d.served.own block d.served.at block_at)
      (by_log d.served.own.options.log refl number stands)
    where
      left : new.at link.session ≡ unless_over d.now
      left = d.sets.each link.session ∙ ap (λ (b : Bool). cond b (unless_over d.now) (old.at link.session)) (same_number link.session)

      mode : d.now.session.mode ≡ session_mode d.served.own.options
      mode = d.served.serving.mode ∙ (sound.each link.session running at).mode d.served.own d.served.at

      by_log : (b : Bool) → d.served.own.options.log ≡ b → running.number ≡ link.session →
          ServedStands d.served.own.options.policy d.served.own.options.log running.number running.session d.now.session (ReadyEntry ready ∷ was) now first last →
          BlockLogs b d.served.own link.session new was now first last
      by_log true e number stands = record {
        served = d.now;
        left = left;
        mode = mode;
        logged = logged_from d.served.own.options.policy link.session d.now.session ready was now first last
            (subst (λ (m : ℕ). Logged d.served.own.options.policy m d.now.session (ReadyEntry ready ∷ was) now first last) number (stands.logged e));
      }
      by_log false e number stands = d.served.serving.unlogged e

  ready_logs : (limit : ℕ) (answer : Ready) → ReadyDid blocks limit answer old new between after first last → ReadyLogs blocks answer old new was now first last
  ready_logs limit (Listener listener) d = at_listener (nat_lt old.accepted limit) (slice_get blocks listener) d
    where
      at_listener : (room : Bool) (block : Option Block) → ListenerDid room blocks listener block old new between after first last → last ≡ first
      at_listener true (Some block) d = d.1
      at_listener true None d = d.log
      at_listener false block d = d.log
  ready_logs limit (ReadyLink link) d = at_link (old.at link.session) refl d
    where
      at_link : (o : Option Running) → old.at link.session ≡ o → LinkDid blocks link o old new between after first last → LinkLogs blocks link.session o new was now first last
      at_link None e d = d.log
      at_link (Some running) e d = served_log link running e d
  ready_logs limit Quiet d = d.log
  ready_logs limit ReadyFailed d = d.log

  pub after_logs : (limit : ℕ) (answer : Result Turn ServerEnd) → AfterWait blocks limit ready old new between after first last answer → ReadyLogs blocks ready old new was now first last
  after_logs limit (Err Memory) d = subst (λ (r : Ready). ReadyLogs blocks r old new was now first last) (sym d.1.named) d.0.log
  after_logs limit (Err Wait) d = ready_logs limit ready d.0
  after_logs limit (Err (Listen k)) d = absurd d
  after_logs limit (Ok turn) d = ready_logs limit ready d.0

pub turn_logs : (blocks : List Block) (limit : ℕ) (old new : Table) (before after : NetView) (first last : SinkView) (answer : Result Turn ServerEnd) →
    SoundTable blocks old.at → TurnDid blocks limit old new before after first last answer → LogExact blocks old new before after first last
turn_logs blocks limit old new before after first last answer sound d = record {
  each = λ now e.
      let w = (after_worked blocks limit d.ready old new d.between after first last answer sound d.does).on.each now e in
      let a = d.waited.told w.0 w.1 in (
        a.0,
        a.1,
        d.ready,
        w.2,
        w.3 ∙ ap (λ (j : Journal). w.2 ++ j) a.2,
        λ s. after_logs blocks old new d.between after first last sound d.ready a.0 now (w.1 ∙ ap (λ (j : Journal). Some j) a.2) e
            (serves_quiet blocks old (ReadyEntry d.ready) a.0 (ready_quiet d.ready) refl s) limit answer d.does,
      );
}
