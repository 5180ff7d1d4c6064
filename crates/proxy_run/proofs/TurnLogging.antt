-- What one turn adds to the log of a journal.
use Rattle.std.proofs.Common.{ℕ, nat_eq, ◌≡◌, Bool, true, false, ◌||◌, is_some, List, [], ◌∷◌, ◌++◌, Some, if◌then◌else◌, refl, ap, sym, ◌∙◌, subst, append_assoc, take}
use Rattle.link_traits.specs.Told.{Rose}
use Rattle.link_traits.specs.Journals.{Journal}
use Rattle.link_traits.specs.Answers.{client_link, bus_link, read_entry}
use Rattle.link_traits.specs.Entries.{Entry, ready as Ready, finished as Ended, not_ready as NotReady, failed as Failed}
use Rattle.link_traits.specs.declared.links.Link.{Link}
use Rattle.link_traits.specs.declared.links.Call.TheVariants.{Read as ReadCall}
use Rattle.link_traits.specs.declared.links.Ready.{Ready as ReadyAnswer}
use Rattle.link_traits.specs.declared.links.Side.{Side}
use Rattle.link_traits.specs.declared.links.Got.{Got}
use Rattle.link_traits.specs.declared.links.Got.TheVariants.{Bytes as GotBytes, Finished as GotFinished, NotReady as GotNotReady, Failed as GotFailed}
use Rattle.link_traits.specs.Views.{SinkView}
use Rattle.policy_args.specs.declared.line.Block.{Block}
use Rattle.policy_view.specs.History.{Event, Stopped, history}
use Rattle.proxy_loop.specs.declared.serving.Running.{Running}
use Rattle.proxy_loop.specs.Sessions.{events_of, read_end}
use Rattle.proxy_loop.specs.Kinds.{about, gone_by, all_are, some_of}
use Rattle.proxy_loop.specs.Works.{link_at, is_full}
use Rattle.proxy_loop.specs.Runs.{Served, ReadUnless, log_of}
use Rattle.proxy_loop.specs.Tables.{Table, session_mode}
use Rattle.proxy_loop.specs.Servers.{listener_of, BlockLogs}
use Rattle.proxy_loop.proofs.Holding.{all_joined, events_append}
use Rattle.proxy_loop.proofs.Prefixes.{IsSameButEnd, stops_end}
use Rattle.proxy_loop.proofs.Others.{listener_same, served_about}
use Rattle.proxy_loop.proofs.Stopping.{AllStops, writes_stop, shuts_stop, both_stop, and_second}
use Rattle.proxy_run.specs.Logs.{block_at, is_cut, LogOf}
use Rattle.proxy_run.proofs.Logging.{is_unread, unread_log, writes_unread, shuts_unread, stops_log, finished_log, ready_log, Grows, unread_grows, read_grows}

all_late : (test : Entry → Bool) (late early : Journal) → all_are test (late ++ early) ≡ true → all_are test early ≡ true
unfolding all_are
all_late test [] early h = h
all_late test (entry ∷ late) early h = all_late test late early (and_second (test entry) (all_are test (late ++ early)) h)

listener_ready : (n : ℕ) (answer : ReadyAnswer) (was : Journal) → listener_of n (Ready answer ∷ was) ≡ listener_of n was
unfolding listener_of
listener_ready n answer was = refl

-- ---- a session that was served

module _ (log_failed : Type 0) (blocks : List Block) (n : ℕ) (block : Block) (old new : Running) (table : Table) (side : Side) (answer : ReadyAnswer) (was now added : Journal) (before got : List ℕ) (first last : SinkView)
    (widen : Rose first.faults last.faults → log_failed)
    (s : Served n side old new added) (is : now ≡ added ++ Ready answer ∷ was) (under : block_at blocks (listener_of n was) ≡ Some block)
    (ends : is_cut n before ≡ true → is_some old.session.ended ≡ true) (l : LogOf log_failed blocks was before got) (d : BlockLogs block.options.log block n table was now first last) where
  unfoldable early : Journal
  early = s.first ++ Ready answer ∷ was

  unfoldable late : Journal
  late = s.shuts ++ s.second

  early_log : LogOf log_failed blocks early before got
  unfolding early
  early_log = unread_log log_failed blocks s.first (Ready answer ∷ was) before got (writes_unread n s.first s.first_writes) l

  unfoldable Session : Journal → List ℕ
  Session journal = log_of block.options.policy (session_mode block.options) n journal

  sooner : Session early ≡ Session was
  unfolding early Session
  sooner =
      stops_log block.options.policy (session_mode block.options) n s.first (Ready answer ∷ was) (writes_stop n s.first s.first_writes)
      ∙ ready_log block.options.policy (session_mode block.options) n answer was

  late_stops : AllStops (events_of n late)
  unfolding late
  late_stops = both_stop n s.shuts s.second (shuts_stop n _ _ s.shuts s.shut) (writes_stop n s.second s.second_writes)

  late_unread : all_are is_unread late ≡ true
  unfolding late
  late_unread = all_joined is_unread s.second s.shuts (writes_unread n s.second s.second_writes) (shuts_unread n _ _ s.shuts s.shut)

  split : now ≡ late ++ (s.reads ++ early)
  unfolding early late
  split =
      is
      ∙ ap (λ (j : Journal). j ++ Ready answer ∷ was) s.is
      ∙ append_assoc s.shuts (s.second ++ (s.reads ++ s.first)) (Ready answer ∷ was)
      ∙ ap (λ (j : Journal). s.shuts ++ j) (append_assoc s.second (s.reads ++ s.first) (Ready answer ∷ was) ∙ ap (λ (j : Journal). s.second ++ j) (append_assoc s.reads s.first (Ready answer ∷ was)))
      ∙ sym (append_assoc s.shuts s.second (s.reads ++ (s.first ++ Ready answer ∷ was)))

  later : Session now ≡ Session (s.reads ++ early)
  unfolding Session
  later = ap Session split ∙ stops_log block.options.policy (session_mode block.options) n late (s.reads ++ early) late_stops

  -- after the read only an End was put in
  closes : IsSameButEnd (history block.options.policy (session_mode block.options) (events_of n (s.reads ++ early))) (history block.options.policy (session_mode block.options) (events_of n now))
  closes =
      subst (λ (es : List Event). IsSameButEnd (history block.options.policy (session_mode block.options) (events_of n (s.reads ++ early))) (history block.options.policy (session_mode block.options) es))
      (sym (ap (events_of n) split ∙ events_append n late (s.reads ++ early)))
      (stops_end block.options.policy (session_mode block.options) (events_of n late) (events_of n (s.reads ++ early)) late_stops)

  grow : (cut g : List ℕ) → LogOf log_failed blocks (s.reads ++ early) cut g → LogOf log_failed blocks now cut g
  grow cut g h = subst (λ (j : Journal). LogOf log_failed blocks j cut g) (sym split) (unread_log log_failed blocks late (s.reads ++ early) cut g late_unread h)

  about_first : all_are (about n) s.first ≡ true
  about_first =
      let all : all_are (about n) (s.shuts ++ (s.second ++ (s.reads ++ s.first))) ≡ true = subst (λ (j : Journal). all_are (about n) j ≡ true) s.is (served_about n side old new added s) in
      all_late (about n) s.reads s.first (all_late (about n) s.second (s.reads ++ s.first) (all_late (about n) s.shuts (s.second ++ (s.reads ++ s.first)) all))

  under_early : block_at blocks (listener_of n early) ≡ Some block
  unfolding early
  under_early = ap (block_at blocks) (listener_same n s.first (Ready answer ∷ was) about_first ∙ listener_ready n answer was) ∙ under

  not_ended : (a b c : Bool) → a ≡ (true || b) → a || c ≡ false → is_cut n before ≡ false
  not_ended true b c e f = cc
  not_ended false b c e f = cc

  uncut_by : (b : Bool) → is_cut n before ≡ b → is_some s.mid.ended || is_full side s.mid ≡ false → is_cut n before ≡ false
  uncut_by false e runs = e
  uncut_by true e runs =
      not_ended (is_some s.mid.ended) (some_of (gone_by (client_link n)) s.first || some_of (gone_by (bus_link n)) s.first) (is_full side s.mid)
      (subst (λ (o : Bool). is_some s.mid.ended ≡ (o || (some_of (gone_by (client_link n)) s.first || some_of (gone_by (bus_link n)) s.first))) (ends e) s.mid_ended) runs

  uncut : is_some s.mid.ended || is_full side s.mid ≡ false → is_cut n before ≡ false
  uncut runs = uncut_by (is_cut n before) refl runs

  -- no message was read
  unread : Session (s.reads ++ early) ≡ Session early → all_are is_unread s.reads ≡ true → Grows log_failed blocks n table now before got first last
  unfolding Session
  unread same h =
      unread_grows log_failed blocks n block table was now before got first last widen (later ∙ same ∙ sooner)
      (grow before got (unread_log log_failed blocks s.reads early before got h early_log)) block.options.log d

  failed_stops : (link : Link) → AllStops (events_of n (Failed (ReadCall link) ∷ []))
  unfolding events_of
  failed_stops link = by (nat_eq link.session n)
    where
      by : (b : Bool) → AllStops ((if b then Stopped (read_end link.side) ∷ [] else []) ++ [])
      by true = refl
      by false = refl

  not_ready_stops : (link : Link) → AllStops (events_of n (NotReady (ReadCall link) ∷ []))
  unfolding events_of
  not_ready_stops link = refl

  one_unread : (entry : Entry) → s.reads ≡ entry ∷ [] → Session (entry ∷ early) ≡ Session early → is_unread entry ≡ true → Grows log_failed blocks n table now before got first last
  unfolding all_are
  one_unread entry e same h =
      unread (ap (λ (j : Journal). Session (j ++ early)) e ∙ same) (rw e (rw h refl))

  by_answer : (into : List ℕ) (got_answer : Got) → s.reads ≡ read_entry (link_at n side) into got_answer ∷ [] → is_some s.mid.ended || is_full side s.mid ≡ false →
      Grows log_failed blocks n table now before got first last
  unfolding Session
  by_answer into (GotBytes k) e runs =
      read_grows log_failed blocks n block table was now before got first last widen early (link_at n side) (take k into) refl under_early (uncut runs) early_log sooner
      (later ∙ ap (λ (j : Journal). Session (j ++ early)) e)
      (subst (λ (j : Journal). IsSameButEnd (history block.options.policy (session_mode block.options) (events_of n (j ++ early))) (history block.options.policy (session_mode block.options) (events_of n now))) e closes)
      (λ cut g h. grow cut g (subst (λ (j : Journal). LogOf log_failed blocks (j ++ early) cut g) (sym e) h)) block.options.log refl d
  by_answer into GotFinished e runs = one_unread (Ended (link_at n side)) e (finished_log block.options.policy (session_mode block.options) n (link_at n side) early) refl
  by_answer into GotNotReady e runs =
      one_unread (NotReady (ReadCall (link_at n side))) e
      (stops_log block.options.policy (session_mode block.options) n (NotReady (ReadCall (link_at n side)) ∷ []) early (not_ready_stops (link_at n side))) refl
  by_answer into GotFailed e runs =
      one_unread (Failed (ReadCall (link_at n side))) e
      (stops_log block.options.policy (session_mode block.options) n (Failed (ReadCall (link_at n side)) ∷ []) early (failed_stops (link_at n side))) refl

  by_idle : (b : Bool) → is_some s.mid.ended || is_full side s.mid ≡ b → ReadUnless b (link_at n side) s.reads → Grows log_failed blocks n table now before got first last
  unfolding all_are
  by_idle true e r = unread (ap (λ (j : Journal). Session (j ++ early)) r) (rw r refl)
  by_idle false e r = by_answer r.1.into r.1.answer r.1.one e

  pub served_grows : Grows log_failed blocks n table now before got first last
  served_grows = by_idle (is_some s.mid.ended || is_full side s.mid) refl s.once
